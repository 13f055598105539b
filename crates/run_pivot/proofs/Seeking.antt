-- Laws of the search for the largest entry: what it holds after some rows.
use mathlib.Core.Bool.{true, false, cond, ◌||◌, true≢false}
use mathlib.Core.List.{List, [], ◌∷◌, ◌++◌, map}
use mathlib.Core.Logic.{inl, inr}
use mathlib.Core.Path.{◌≡◌, refl, sym, ap, ◌∙◌}
use Prim.Native.Nat.{ℕ, zero, suc, ◌+◌, ◌≤◌, ◌<◌}
use native.Mathlib.Omega.{arith}
use lib.Dec.{eqb}
use lib.Ieee.{Float, nan, binary64, lt, fits}
use lib.ListN.{length, get_or, take}
use lib.Seq.{take_all}
use borrow.Author.Tests.{ne_eqb}
use Rattle.lists.specs.Functions.{all}
use Rattle.lists.specs.Sets.{Ascending}
use Rattle.lists.proofs.Members.{by_test}
use Rattle.lists.proofs.Order.{member-low}
use Rattle.lists.proofs.Places.{member_at, get_or_mapped, take_more}
use Rattle.foundation.specs.Numbers.{finite, magnitude, may_pivot}
use Rattle.foundation.specs.Reference.{better, best}
use Rattle.foundation.proofs.Magnitudes.{reverse, faint_below}
use Rattle.run_slots.proofs.Mapped.{all_at}
use Rattle.run_pivot.specs.Pivot.{absolute, FoundAt, LargestFound}
use Rattle.run_pivot.proofs.Magnitudes.{Positive, magnitude_positive, above_is}
use Rattle.run_pivot.proofs.Limit.{may-absolute, largest_faint, faint_positive, above_faint}
use Rattle.run_pivot.proofs.Best.{best_snoc}

-- the magnitude of the row found so far; while there is none, the largest number below a pivot's
unfoldable top_of : (ℕ → Float) → ℕ → Float
top_of entry zero = largest_faint
top_of entry (suc row) = magnitude (entry (suc row))

top_positive : (entry : ℕ → Float) (row : ℕ) → Positive (top_of entry row)
unfolding top_of
top_positive entry zero = faint_positive
top_positive entry (suc row) = magnitude_positive (entry (suc row))

top_at : (entry : ℕ → Float) (row : ℕ) → 1 ≤ row → top_of entry row ≡ magnitude (entry row)
unfolding top_of
top_at entry zero l = absurd (omega arith)
top_at entry (suc row) l = refl

-- a finite f64
record Sound (v : Float) : Type 0 where
  finite_is : finite v ≡ true
  held : fits binary64 v ≡ true

-- a row found is one that may serve
abbrev Serves : (entry : ℕ → Float) (row : ℕ) → Type 0
Serves entry row = 1 ≤ row → (finite (entry row) ≡ true) × (may_pivot (entry row) ≡ true)

-- the best row of those done, and its magnitude
record Sought (entry : ℕ → Float) (done : List ℕ) (row : ℕ) (top : Float) : Type 0 where
  is : row ≡ best entry 0 done
  height : top ≡ top_of entry row
  serves : Serves entry row

sought_start : (entry : ℕ → Float) → Sought entry [] 0 largest_faint
unfolding best top_of
sought_start entry = record { is = refl; height = refl; serves = λ l. absurd (omega arith) }

module _ (entry : ℕ → Float) (done : List ℕ) (row : ℕ) (top : Float) (h : Sought entry done row top) (i : ℕ) (low : 1 ≤ i) (f : Sound (entry i)) where
  -- what is too faint is not above the row found so far
  faint_not-above : (r : ℕ) → Serves entry r → may_pivot (entry i) ≡ false → lt (top_of entry r) (magnitude (entry i)) ≡ false
  unfolding top_of
  faint_not-above zero s faint = above_faint (entry i) f.finite_is f.held ∙ faint
  faint_not-above (suc r) s faint =
      let (sound, may) = s (omega arith) in
      reverse (entry i) (entry (suc r)) f.finite_is sound (faint_below (entry i) (entry (suc r)) f.finite_is sound faint may)

  -- the code's test is the definition's
  better_test : (r : ℕ) → Serves entry r → better entry r i ≡ cond (lt (top_of entry r) (absolute (entry i))) i r
  unfolding better top_of
  better_test r s =
      rw (above_is (top_of entry r) (entry i) (top_positive entry r))
      (by_test (may_pivot (entry i))
      (λ may. rw may (at r may))
      (λ faint. rw (faint, faint_not-above r s faint)))
    where
      at : (q : ℕ) → may_pivot (entry i) ≡ true → cond (eqb q 0 || lt (magnitude (entry q)) (magnitude (entry i))) i q ≡ cond (lt (top_of entry q) (magnitude (entry i))) i q
      at zero may = rw (above_faint (entry i) f.finite_is f.held, may)
      at (suc q) may = rw (ne_eqb (suc q) 0 (λ e. omega arith))

  test_is : better entry (best entry 0 done) i ≡ cond (lt top (absolute (entry i))) i row
  test_is = rw (← h.is, h.height) (better_test row h.serves)

  sought_taken : (a : Float) → a ≡ absolute (entry i) → lt top a ≡ true → Sought entry (done ++ i ∷ []) i a
  sought_taken a e t =
      let t' : lt top (absolute (entry i)) ≡ true = rw (sym e) t in
      let may : may_pivot (entry i) ≡ true =
      by_test (may_pivot (entry i)) (λ m. m)
      (λ faint. absurd (true≢false (sym t' ∙ rw h.height (above_is (top_of entry row) (entry i) (top_positive entry row) ∙ faint_not-above row h.serves faint)))) in
      record {
        is = sym (best_snoc entry 0 done i ∙ test_is ∙ rw t');
        height = e ∙ may-absolute (entry i) may ∙ sym (top_at entry i low);
        serves = λ l. (f.finite_is, may);
      }

  sought_left : (a : Float) → a ≡ absolute (entry i) → lt top a ≡ false → Sought entry (done ++ i ∷ []) row top
  sought_left a e t =
      let t' : lt top (absolute (entry i)) ≡ false = rw (sym e) t in
      record { is = sym (best_snoc entry 0 done i ∙ test_is ∙ rw t'); height = h.height; serves = h.serves }

-- What the loop holds before place q.
pub record Seeking (k : ℕ) (own : Float) (slots : List Float) (subs : List ℕ) (row place : ℕ) (top : Float) (q : ℕ) : Type 0 where
  sought : (entry : ℕ → Float) → entry k ≡ own → slots ≡ map entry subs → Sought entry (k ∷ take q subs) row top
  found_at : FoundAt k subs row place

module _ (k : ℕ) (own : Float) (slots : List Float) (subs : List ℕ) (low : 1 ≤ k) (f : finite own ≡ true) (held : fits binary64 own ≡ true)
    (place : ℕ) (top : Float) (e : top ≡ absolute own) where
  own-sound : (entry : ℕ → Float) → entry k ≡ own → Sound (entry k)
  own-sound entry p = record { finite_is = rw p f; held = rw p held }

  pub seeking_own : lt largest_faint top ≡ true → Seeking k own slots subs k place top 0
  seeking_own t =
      record {
        sought = λ entry p s. sought_taken entry [] 0 largest_faint (sought_start entry) k low (own-sound entry p) top (rw p e) t;
        found_at = inr (inl refl);
      }

  pub seeking_none : lt largest_faint top ≡ false → Seeking k own slots subs 0 place largest_faint 0
  seeking_none t =
      record {
        sought = λ entry p s. sought_left entry [] 0 largest_faint (sought_start entry) k low (own-sound entry p) top (rw p e) t;
        found_at = inl refl;
      }

module _ (k : ℕ) (own : Float) (slots : List Float) (subs : List ℕ) (row place : ℕ) (top : Float) (q : ℕ) (h : Seeking k own slots subs row place top q)
    (same : length slots ≡ length subs) (asc : Ascending (suc k) subs) (f : all finite slots ≡ true) (l : q < length subs)
    (held : fits binary64 (get_or slots q nan) ≡ true) (a : Float) (e : a ≡ absolute (get_or slots q nan)) where
  entry_at : (entry : ℕ → Float) → slots ≡ map entry subs → get_or slots q nan ≡ entry (get_or subs q 0)
  entry_at entry s = ap (λ (zs : List Float). get_or zs q nan) s ∙ get_or_mapped entry subs q nan l

  above : 1 ≤ get_or subs q 0
  above = omega (arith, member-low (get_or subs q 0) (suc k) subs asc (member_at q subs l))

  sound_at : (entry : ℕ → Float) → slots ≡ map entry subs → Sound (entry (get_or subs q 0))
  sound_at entry s =
      record { finite_is = rw (sym (entry_at entry s)) (all_at finite slots q nan f (omega arith)); held = rw (sym (entry_at entry s)) held }

  pub seeking_taken : lt top a ≡ true → Seeking k own slots subs (get_or subs q 0) q a (q + 1)
  seeking_taken t =
      record {
        sought = λ entry p s.
            rw (take_more q subs l) (sought_taken entry (k ∷ take q subs) row top (h.sought entry p s) (get_or subs q 0) above (sound_at entry s) a (rw (sym (entry_at entry s)) e) t);
        found_at = inr (inr (l, refl));
      }

  pub seeking_left : lt top a ≡ false → Seeking k own slots subs row place top (q + 1)
  seeking_left t =
      record {
        sought = λ entry p s.
            rw (take_more q subs l) (sought_left entry (k ∷ take q subs) row top (h.sought entry p s) (get_or subs q 0) above (sound_at entry s) a (rw (sym (entry_at entry s)) e) t);
        found_at = h.found_at;
      }

pub seeking_end : (k : ℕ) (own : Float) (slots : List Float) (subs : List ℕ) (row place : ℕ) (top : Float) (q : ℕ) → Seeking k own slots subs row place top q
    → length subs ≤ q → LargestFound k own slots subs row place
seeking_end k own slots subs row place top q h past = record { is = λ entry p s. (h.sought entry p s).is ∙ rw (take_all q subs past); found_at = h.found_at }

-- the numbers held are those named
pub seeking_named : (k : ℕ) (own : Float) (slots : List Float) (subs : List ℕ) (row row' place place' : ℕ) (top top' : Float) (q : ℕ)
    → row ≡ row' → place ≡ place' → top ≡ top' → Seeking k own slots subs row' place' top' q → Seeking k own slots subs row place top q
seeking_named k own slots subs row row' place place' top top' q a b c h = rw (a, b, c) h
