-- How many draws a load makes before each place, and how many entries it has where d is 1.
use mathlib.Core.Bool.{true, cond, true≢false}
use mathlib.Core.List.{[], ◌∷◌, ◌++◌}
use mathlib.Core.Path.{◌≡◌, refl, sym, ap, ◌∙◌}
use Prim.Native.Nat.{ℕ, zero, suc, ◌+◌, ◌*◌, ◌%◌, ◌^◌, ◌≤◌, ◌<◌}
use native.Mathlib.Nat.{zero-mul, suc-mul, mod-add-mod, mod-eq_of_lt, mod-one}
use native.Mathlib.Omega.{arith}
use lib.Dec.{eqb, leb}
use lib.ListN.{length, length-append}
use borrow.Author.Tests.{eqb-true, eqb-false, eq-eqb, ne_eqb, le-leb, lt-leb, leb-true, leb-false}
use Rattle.lists.proofs.Members.{by_test, or_right}
use Rattle.foundation.specs.Draw.{stepped, drawn}
use Rattle.foundation.specs.Load.{DrawnRow, entered, present_by, asked_state, asked, next_place, row_up_to, with_row, next_row, rows_up_to, load_of}
use Rattle.foundation.proofs.LoadRows.{by_place, absent_off}

-- ---- draws

-- the state after so many draws
abbrev pub after : ℕ → ℕ → ℕ
after seed draws = (seed + draws * 2654435769) % 2 ^ 32

one_draw : (seed draws : ℕ) → stepped (after seed draws) ≡ after seed (draws + 1)
unfolding stepped
one_draw seed draws =
    let e : seed + draws * 2654435769 + 2654435769 ≡ seed + (draws + 1) * 2654435769 = omega arith in
    mod-add-mod (seed + draws * 2654435769) (2 ^ 32) 2654435769 ∙ ap (λ (x : ℕ). x % 2 ^ 32) e

pub steps_on : (seed draws : ℕ) {state : ℕ} → state ≡ after seed draws → stepped state ≡ after seed (draws + 1)
steps_on seed draws e = ap stepped e ∙ one_draw seed draws

pub asked_on : (row column state : ℕ) → row ≡ column → asked_state row column state ≡ state
unfolding asked_state
asked_on row column state on = rw (eq-eqb row column on)

pub asked_off : (row column state : ℕ) → (row ≡ column → ⊥) → asked_state row column state ≡ stepped state
unfolding asked_state
asked_off row column state off = rw (ne_eqb row column off)

-- 1 once the diagonal's place is passed, which takes no draw for presence
abbrev pub passed : ℕ → ℕ → ℕ
passed row j = cond (leb row j) 1 0

passed_now : (row j : ℕ) → row ≡ suc j → (passed row (suc j) ≡ 1) × (passed row j ≡ 0)
passed_now row j on = (rw (le-leb row (suc j) (omega arith)), rw (lt-leb row j (omega arith)))

passed_same : (row j : ℕ) → (row ≡ suc j → ⊥) → passed row (suc j) ≡ passed row j
passed_same row j off =
    by_test (leb row j)
    (λ e. rw (e, le-leb row (suc j) (omega (arith, leb-true row j e))))
    (λ e. by_test (eqb row (suc j))
    (λ on. absurd (off (eqb-true row (suc j) on)))
    (λ ne. rw (e, lt-leb row (suc j) (above (leb-false row j e)))))
  where
    above : j < row → suc j < row
    above h = by_test (leb row (suc j)) (λ t. let on : row ≡ suc j = omega (arith, leb-true row (suc j) t) in absurd (off on)) (λ t. leb-false row (suc j) t)

-- j places of a row, from the state after `first` draws: a draw for each of them but the diagonal's, and one for each entry
pub record RowDraws (seed row first j : ℕ) (r : DrawnRow) : Type 0 where
  pub draws : ℕ
  pub state_is : r.state ≡ after seed draws
  pub as_many : draws + passed row j ≡ first + j + length r.columns

module _ (seed d row first j : ℕ) (r : DrawnRow) (g : RowDraws seed row first j r) where
  draws_on : row ≡ suc j → RowDraws seed row first (suc j) (entered (suc j) (asked row (suc j) r))
  unfolding entered asked
  draws_on on =
      let (now, before) = passed_now row j on in
      record {
        draws = g.draws + 1;
        state_is = ap stepped (asked_on row (suc j) r.state on) ∙ steps_on seed g.draws g.state_is;
        as_many = omega (arith, g.as_many, now, before, length-append r.columns (suc j ∷ []));
      }

  asked_is : (row ≡ suc j → ⊥) → asked_state row (suc j) r.state ≡ after seed (g.draws + 1)
  asked_is off = asked_off row (suc j) r.state off ∙ steps_on seed g.draws g.state_is

  draws-present : (row ≡ suc j → ⊥) → RowDraws seed row first (suc j) (entered (suc j) (asked row (suc j) r))
  unfolding entered asked
  draws-present off =
      record {
        draws = g.draws + 1 + 1;
        state_is = steps_on seed (g.draws + 1) (asked_is off);
        as_many = omega (arith, g.as_many, passed_same row j off, length-append r.columns (suc j ∷ []));
      }

  draws_absent : (row ≡ suc j → ⊥) → RowDraws seed row first (suc j) (asked row (suc j) r)
  unfolding asked
  draws_absent off =
      record {
        draws = g.draws + 1;
        state_is = asked_is off;
        as_many = omega (arith, g.as_many, passed_same row j off);
      }

  place_draws : RowDraws seed row first (suc j) (next_place d row (suc j) r)
  place_draws =
      by_place d row (suc j) r (λ (q : DrawnRow). RowDraws seed row first (suc j) q)
      (λ _. by_test (eqb row (suc j)) (λ e. draws_on (eqb-true row (suc j) e)) (λ e. draws-present (eqb-false row (suc j) e)))
      (λ e. draws_absent (absent_off d row (suc j) r.state e))

pub row_draws : (seed d row first state j : ℕ) → 1 ≤ row → state ≡ after seed first → RowDraws seed row first j (row_up_to d row state j)
unfolding row_up_to
row_draws seed d row first state zero low e =
    let none : passed row 0 ≡ 0 = rw (lt-leb row 0 low) in
    record { draws = first; state_is = e; as_many = omega (arith, none) }
row_draws seed d row first state (suc j) low e = place_draws seed d row first j (row_up_to d row state j) (row_draws seed d row first state j low e)

pub load-draws : (seed n d i : ℕ) → seed < 2 ^ 32 → i ≤ n → (rows_up_to seed n d i).state ≡ after seed (i * n + length (rows_up_to seed n d i).columns)
unfolding rows_up_to next_row with_row
load-draws seed n d zero small h =
    let none : seed + (0 * n + 0) * 2654435769 ≡ seed = omega arith in
    sym (ap (λ (x : ℕ). x % 2 ^ 32) none ∙ mod-eq_of_lt small)
load-draws seed n d (suc i) small h =
    let l = rows_up_to seed n d i in
    let r = row_up_to d (suc i) l.state n in
    let g = row_draws seed d (suc i) (i * n + length l.columns) l.state n (omega arith) (load-draws seed n d i small (omega arith)) in
    let last : passed (suc i) n ≡ 1 = rw (le-leb (suc i) n h) in
    let many : g.draws + 1 ≡ suc i * n + length (l.columns ++ r.columns) = omega (arith, g.as_many, last, suc-mul i n, length-append l.columns r.columns) in
    steps_on seed g.draws g.state_is ∙ ap (after seed) many

-- ---- a d of 1

divides_one : (row column state : ℕ) → present_by 1 row column state ≡ true
unfolding present_by
divides_one row column state = or_right (eqb row column) _ (eq-eqb (drawn state % 1) 0 (mod-one (drawn state)))

row_whole : (row state j : ℕ) → length (row_up_to 1 row state j).columns ≡ j
unfolding row_up_to entered asked
row_whole row state zero = refl
row_whole row state (suc j) =
    let r = row_up_to 1 row state j in
    by_place 1 row (suc j) r (λ (q : DrawnRow). length q.columns ≡ suc j)
    (λ _. omega (arith, length-append r.columns (suc j ∷ []), row_whole row state j))
    (λ e. absurd (true≢false (sym (divides_one row (suc j) r.state) ∙ e)))

rows_whole : (seed n i : ℕ) → length (rows_up_to seed n 1 i).columns ≡ i * n
unfolding rows_up_to next_row with_row
rows_whole seed n zero = sym (zero-mul n)
rows_whole seed n (suc i) =
    let l = rows_up_to seed n 1 i in
    let r = row_up_to 1 (suc i) l.state n in
    omega (arith, length-append l.columns r.columns, rows_whole seed n i, row_whole (suc i) l.state n, suc-mul i n)

pub load-whole : (seed n : ℕ) → length (load_of seed n 1).columns ≡ n * n
unfolding load_of
load-whole seed n = rows_whole seed n n
