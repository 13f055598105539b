-- Laws of the loops over rows: of a store that has a place for each row, those of some rows are written anew.
use mathlib.Core.Bool.{true, false}
use mathlib.Core.List.{List, [], ◌∷◌, ◌++◌, map}
use mathlib.Core.Path.{◌≡◌, refl, sym, ap, ◌∙◌}
use Prim.Native.Nat.{ℕ, zero, suc, ◌+◌, ◌-◌, ◌≤◌, ◌<◌}
use native.Mathlib.Numerals.{add-one}
use native.Mathlib.Omega.{arith}
use lib.Ieee.{Float, nan, fin, binary64, sub, mul, eq}
use lib.IntN.{pos}
use lib.ListN.{length, get_or, take, set}
use lib.Dec.{leb}
use lib.Seq.{take-suc, take_all, take-nil}
use borrow.Author.Tests.{le-leb, lt-leb}
use Rattle.run_slots.specs.Products.{less_product}
use Rattle.lists.specs.Functions.{all, keep}
use Rattle.lists.specs.Sets.{member, upto, Ascending}
use Rattle.lists.proofs.Members.{fails, not-member-nil, all_snoc, member_snoc, member_snoc_other}
use Rattle.lists.proofs.Kept.{keep-nothing}
use Rattle.lists.proofs.Order.{member-low, member_first}
use Rattle.lists.proofs.Places.{ascending_at, member_at, get_or_mapped, not-before, map-upto_at}
use Rattle.foundation.specs.Numbers.{plus_zero, is_zero, finite, product, difference}
use Rattle.foundation.specs.Reference.{reduced}
use Rattle.foundation.proofs.FloatSteps.{reduced_left}
use Rattle.run_slots.specs.Flags.{flagged, with_diagonal}
use Rattle.run_slots.proofs.Flags.{flagged_more}
use Rattle.run_slots.proofs.Mapped.{map_cong, map-upto-set}
use Rattle.store_search.proofs.Places.{found-member}
use Rattle.run_stretch.specs.Stretches.{Below, UpTo}
use Rattle.run_column.specs.Column.{rewritten, Rewritten}

-- ---- a store with a place for each row

-- ---- the loop

pub row_low : (rows : List ℕ) (t : ℕ) → Ascending 1 rows → t < length rows → 1 ≤ get_or rows t 0
row_low rows t asc l = member-low (get_or rows t 0) 1 rows asc (member_at t rows l)

pub row_high : (room : ℕ) (rows : List ℕ) (t : ℕ) → Below (suc room) rows → t < length rows → get_or rows t 0 ≤ room
unfolding Below
row_high room rows t below l = omega (arith, below (get_or rows t 0) (member_at t rows l))

pub rewriting_start : (f g : ℕ → Float) (n flag : ℕ) (store : List Float) → store ≡ map f (upto n) → Rewritten f g [] n flag store flag
unfolding rewritten flagged all
rewriting_start f g n flag store e =
    record { is = e ∙ map_cong f _ (upto n) (λ i m. sym (rw (fails (member i []) (not-member-nil i)))); flags = refl }

module _ (f g : ℕ → Float) (rows : List ℕ) (n flag : ℕ) (store : List Float) (bad t : ℕ) (h : Rewritten f g (take t rows) n flag store bad)
    (asc : Ascending 1 rows) (l : t < length rows) (high : get_or rows t 0 ≤ n) where
  -- a row not yet reached has its old number
  pub rewriting_reads : get_or store (get_or rows t 0 - 1) nan ≡ f (get_or rows t 0)
  unfolding rewritten
  rewriting_reads =
      ap (λ (zs : List Float). get_or zs (get_or rows t 0 - 1) nan) h.is ∙ map-upto_at (rewritten (take t rows) g f) n (get_or rows t 0) nan (row_low rows t asc l) high ∙ rw (not-before 1 t rows asc l)

  -- one row more
  pub rewriting_turn : (new : Float) (bad' : ℕ) → new ≡ g (get_or rows t 0) → bad' ≡ flagged bad (finite new)
      → Rewritten f g (take (t + 1) rows) n flag (set store (get_or rows t 0 - 1) new) bad'
  unfolding rewritten
  rewriting_turn new bad' e v =
      let more : take (t + 1) rows ≡ take t rows ++ get_or rows t 0 ∷ [] = rw add-one (take-suc rows t 0 l) in
      record {
        is = ap (λ (zs : List Float). set zs (get_or rows t 0 - 1) new) h.is
            ∙ map-upto-set (rewritten (take t rows) g f) (rewritten (take (t + 1) rows) g f) n (get_or rows t 0) new (row_low rows t asc l) high
            (rw (more, member_snoc (get_or rows t 0) (take t rows)) (sym e))
            (λ j ne. rw (more, member_snoc_other j (get_or rows t 0) (take t rows) ne));
        flags = v ∙ rw (e, h.flags, flagged_more, more, all_snoc);
      }

pub rewriting_end : (f g : ℕ → Float) (rows : List ℕ) (n flag : ℕ) (store : List Float) (bad t : ℕ) → Rewritten f g (take t rows) n flag store bad → length rows ≤ t
    → Rewritten f g rows n flag store bad
rewriting_end f g rows n flag store bad t h past = rw (take_all t rows past) at h

-- ---- the rows with a place on the diagonal

-- rows ascend: if the first t have a place there and the next has none, these t are all that have one
diagonal-rows : (low n t : ℕ) (rows : List ℕ) → Ascending low rows → UpTo n t rows → t ≤ length rows → (t < length rows → n < get_or rows t 0) → take t rows ≡ with_diagonal n rows
unfolding with_diagonal keep UpTo Ascending
diagonal-rows low n t [] asc up inside beyond = take-nil t
diagonal-rows low n zero (i ∷ rows) asc up inside beyond =
    sym (keep-nothing (λ j. leb j n) (i ∷ rows) (λ j m. lt-leb j n (omega (arith, beyond (omega arith), member_first j low i rows asc m))))
diagonal-rows low n (suc t) (i ∷ rows) asc up inside beyond =
    rw (le-leb i n (up 0 (omega arith)))
    (ap (λ (zs : List ℕ). i ∷ zs) (diagonal-rows (suc i) n t rows asc.1 (λ q l. up (suc q) (omega arith)) (omega arith) (λ l. beyond (omega arith))))

pub diagonal_start : (n : ℕ) (rows : List ℕ) → UpTo n 0 rows
unfolding UpTo
diagonal_start n rows t l = absurd (omega arith)

module _ (f g : ℕ → Float) (rows : List ℕ) (n flag : ℕ) (store : List Float) (bad t : ℕ) (h : Rewritten f g (take t rows) n flag store bad)
    (asc : Ascending 1 rows) (up : UpTo n t rows) (inside : t ≤ length rows) where
  -- the loop stops at the first row that has none
  pub diagonal-stop : length store ≡ n → length store < get_or rows t 0 → Rewritten f g (with_diagonal n rows) n flag store bad
  diagonal-stop size beyond = rw (diagonal-rows 1 n t rows asc up inside (λ l. omega arith)) at h

  -- or where there are no more rows
  pub diagonal_end : length rows ≤ t → Rewritten f g (with_diagonal n rows) n flag store bad
  diagonal_end past = rw (diagonal-rows 1 n t rows asc up inside (λ l. absurd (omega arith))) at h

-- ---- the arms of the selects

pub zero_left : (m u old : Float) → eq m (fin false 0 (pos 0)) ≡ true → old ≡ reduced m u old
unfolding is_zero plus_zero
zero_left m u old t = sym (reduced_left m u old t)

pub neither_zero : (m u old : Float) → eq m (fin false 0 (pos 0)) ≡ false → eq u (fin false 0 (pos 0)) ≡ false → sub binary64 old (mul binary64 m u) ≡ reduced m u old
unfolding is_zero plus_zero reduced difference product
neither_zero m u old t v = rw (t, v)

-- ---- the walk along the columns

-- the first s columns lie before every row from place t on
unfoldable pub Passed : ℕ → ℕ → List ℕ → List ℕ → Type 0
Passed t s rows columns = (q : ℕ) → t ≤ q → q < length rows → UpTo (get_or rows q 0 - 1) s columns

pub passed_start : (rows columns : List ℕ) → Passed 0 0 rows columns
unfolding Passed UpTo
passed_start rows columns q a u t m = absurd (omega arith)

pub passed_at : (t s : ℕ) (rows columns : List ℕ) → Passed t s rows columns → t < length rows → UpTo (get_or rows t 0 - 1) s columns
unfolding Passed
passed_at t s rows columns h l = h t (omega arith) l

pub passed_next : (t s : ℕ) (rows columns : List ℕ) → Ascending 1 rows → t < length rows → UpTo (get_or rows t 0 - 1) s columns → Passed (t + 1) s rows columns
unfolding Passed UpTo
passed_next t s rows columns asc l up q a u r m = omega (arith, up r m, ascending_at 1 t q rows asc (omega arith) u)

-- the first column that does not lie before a row is the row's own
pub own_column : (columns : List ℕ) (i s : ℕ) → Ascending 0 columns → 1 ≤ i → member i columns ≡ true
    → (s ≤ length columns) × UpTo (i - 1) s columns × (s < length columns → i - 1 < get_or columns s 0) → (s < length columns) × (get_or columns s 0 ≡ i)
unfolding UpTo
own_column columns i s asc low m (within, before, beyond) =
    found-member 0 columns i s asc
    (record {
      within = within;
      before = λ t l. omega (arith, before t l);
      behind = λ t a u. omega (arith, beyond (omega arith), ascending_at 0 s t columns asc a u);
    })
    m

-- what a row's place becomes, as the code reads it
pub reduced-read : (f m u : ℕ → Float) (rows columns : List ℕ) (factors values : List Float) (old new : Float) (t s : ℕ) → factors ≡ map m rows → values ≡ map u columns
    → t < length rows → (s < length columns) × (get_or columns s 0 ≡ get_or rows t 0) → old ≡ f (get_or rows t 0) → new ≡ reduced (get_or factors t nan) (get_or values s nan) old
    → new ≡ reduced (m (get_or rows t 0)) (u (get_or rows t 0)) (f (get_or rows t 0))
reduced-read f m u rows columns factors values old new t s e v l (a, same) o r =
    r ∙ rw (e, v, o, get_or_mapped m rows t nan l, get_or_mapped u columns s nan a, same)

pub followed-read : (f m : ℕ → Float) (rows : List ℕ) (factors : List Float) (top old new : Float) (k t : ℕ) → factors ≡ map m rows → t < length rows
    → top ≡ f k → old ≡ f (get_or rows t 0) → new ≡ less_product (get_or factors t nan) top old → new ≡ less_product (m (get_or rows t 0)) (f k) (f (get_or rows t 0))
followed-read f m rows factors top old new k t e l p o r = r ∙ rw (e, o, p, get_or_mapped m rows t nan l)
