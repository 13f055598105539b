-- Laws of dividing a column, and of counting what is not zero.
use mathlib.Core.Bool.{true, false, cond}
use mathlib.Core.List.{List, [], ◌∷◌, ◌++◌, map}
use mathlib.Core.Path.{◌≡◌, refl, sym, ap, ◌∙◌}
use Prim.Native.Nat.{ℕ, ◌+◌, ◌≤◌, ◌<◌}
use native.Mathlib.Numerals.{add-one}
use native.Mathlib.Omega.{arith}
use lib.Ieee.{Float, nan, fin, binary64, div, eq, ne}
use lib.IntN.{pos}
use lib.ListN.{length, get_or, take, drop, set, length-set}
use lib.Seq.{take-suc, take_all, take-suc-set, drop-set-lt, drop-drop, get_or-drop}
use borrow.Author.Tests.{not-true, not-false}
use Rattle.lists.specs.Functions.{all}
use Rattle.lists.proofs.Members.{by_test, all_snoc}
use Rattle.foundation.specs.Numbers.{plus_zero, is_zero, finite, quotient}
use Rattle.run_slots.specs.Flags.{flagged, nonzeros}
use Rattle.run_slots.proofs.Flags.{flagged_more}
use Rattle.run_column.specs.Column.{over_pivot}

-- ---- counting

nonzeros_snoc : (xs : List Float) (x : Float) → nonzeros (xs ++ x ∷ []) ≡ nonzeros xs + cond (is_zero x) 0 1
unfolding nonzeros
nonzeros_snoc [] x = omega arith
nonzeros_snoc (y ∷ xs) x = rw (nonzeros_snoc xs x) (omega arith)

one_at_most : (x : Float) → cond (is_zero x) 0 1 ≤ 1
one_at_most x = by_test (is_zero x) (λ z. rw z (omega arith)) (λ z. rw z (omega arith))

-- What a loop holds that counts: q numbers are looked at.
pub record Counting (values : List Float) (count q : ℕ) : Type 0 where
  pub counts : count ≡ nonzeros (take q values)
  pub bound : count ≤ q

pub counting_start : (values : List Float) → Counting values 0 0
unfolding nonzeros
counting_start values = record { counts = refl; bound = omega arith }

pub counting_turn : (values : List Float) (count q count' : ℕ) → Counting values count q → q < length values → count' ≡ count + cond (is_zero (get_or values q nan)) 0 1
    → Counting values count' (q + 1)
counting_turn values count q count' h l e =
    record {
      counts = e ∙ rw (h.counts, add-one, take-suc values q nan l, nonzeros_snoc (take q values) (get_or values q nan));
      bound = omega (arith, one_at_most (get_or values q nan), h.bound);
    }

pub counting_end : (values : List Float) (count q : ℕ) → Counting values count q → q ≡ length values → (count ≡ nonzeros values) × (count ≤ length values)
counting_end values count q h e = (h.counts ∙ rw (take_all q values (omega arith)), omega (arith, h.bound))

pub counted : (count : ℕ) (x : Float) → ne x (fin false 0 (pos 0)) ≡ true → count + 1 ≡ count + cond (is_zero x) 0 1
unfolding ne is_zero plus_zero
counted count x t = rw (not-true (eq x (fin false 0 (pos 0))) t)

pub uncounted : (count : ℕ) (x : Float) → ne x (fin false 0 (pos 0)) ≡ false → count ≡ count + cond (is_zero x) 0 1
unfolding ne is_zero plus_zero
uncounted count x t = rw (not-false (eq x (fin false 0 (pos 0))) t) (omega arith)

-- ---- dividing

-- What a loop holds that divides: q places are done.
pub record Dividing (pivot : Float) (was now : List Float) (flag bad count q : ℕ) : Type 0 where
  pub size : length now ≡ length was
  pub written : take q now ≡ map (over_pivot pivot) (take q was)
  pub ahead : drop q now ≡ drop q was
  pub flags : bad ≡ flagged flag (all finite (take q now))
  pub counts : count ≡ nonzeros (take q now)
  pub bound : count ≤ q

map_snoc : (f : Float → Float) (xs : List Float) (x : Float) → map f (xs ++ x ∷ []) ≡ map f xs ++ f x ∷ []
map_snoc f [] x = refl
map_snoc f (y ∷ xs) x = ap (λ (zs : List Float). f y ∷ zs) (map_snoc f xs x)

pub dividing_start : (pivot : Float) (was : List Float) (flag : ℕ) → Dividing pivot was was flag flag 0 0
unfolding flagged all nonzeros
dividing_start pivot was flag = record { size = refl; written = refl; ahead = refl; flags = refl; counts = refl; bound = omega arith }

module _ (pivot : Float) (was now : List Float) (flag bad count q : ℕ) (h : Dividing pivot was now flag bad count q) (l : q < length was) where
  pub dividing_reads : get_or now q nan ≡ get_or was q nan
  dividing_reads =
      let a : get_or (drop q now) 0 nan ≡ get_or (drop q was) 0 nan = ap (λ (zs : List Float). get_or zs 0 nan) h.ahead in
      let z : q + 0 ≡ q = omega arith in
      rw z at (sym (get_or-drop q now 0 nan) ∙ a ∙ get_or-drop q was 0 nan)

  pub dividing_turn : (new : Float) (bad' count' : ℕ) → new ≡ over_pivot pivot (get_or now q nan) → bad' ≡ flagged bad (finite new) → count' ≡ count + cond (is_zero new) 0 1
      → Dividing pivot was (set now q new) flag bad' count' (q + 1)
  dividing_turn new bad' count' e f c =
      let s = h.size in
      let k : q < length now = omega arith in
      let t : take (q + 1) (set now q new) ≡ take q now ++ new ∷ [] = rw add-one (take-suc-set now q new k) in
      record {
        size = simp length-set h.size;
        written = t ∙ rw (add-one, take-suc was q nan l, map_snoc, h.written, e, dividing_reads);
        ahead = drop-set-lt (q + 1) now q new (omega arith) ∙ rw (← drop-drop 1 q now, ← drop-drop 1 q was, h.ahead);
        flags = f ∙ rw (h.flags, flagged_more, t, all_snoc);
        counts = c ∙ rw (t, nonzeros_snoc (take q now) new, h.counts);
        bound = omega (arith, one_at_most new, h.bound);
      }

pub dividing_end : (pivot : Float) (was now : List Float) (flag bad count q : ℕ) → Dividing pivot was now flag bad count q → q ≡ length was
    → (now ≡ map (over_pivot pivot) was) × (bad ≡ flagged flag (all finite now)) × (count ≡ nonzeros now) × (count ≤ length was)
dividing_end pivot was now flag bad count q h past =
    let s = h.size in
    let e : take q now ≡ now = take_all q now (omega arith) in
    (sym e ∙ h.written ∙ rw (take_all q was (omega arith)), h.flags ∙ rw e, h.counts ∙ rw e, omega (arith, h.bound))

pub over_kept : (pivot v : Float) → eq v (fin false 0 (pos 0)) ≡ true → v ≡ over_pivot pivot v
unfolding over_pivot is_zero plus_zero
over_kept pivot v t = rw t

pub over_taken : (pivot v : Float) → eq v (fin false 0 (pos 0)) ≡ false → div binary64 v pivot ≡ over_pivot pivot v
unfolding over_pivot is_zero plus_zero quotient
over_taken pivot v t = rw t
