-- Laws of the inner loops: how far a stretch is reduced, and what their select leaves.
use mathlib.Core.Bool.{false}
use mathlib.Core.List.{List, [], ◌∷◌}
use mathlib.Core.Path.{◌≡◌, refl, ap, ◌∙◌}
use Prim.Native.Nat.{ℕ, zero, suc, ◌+◌, ◌≤◌, ◌<◌}
use native.Mathlib.Numerals.{add-one}
use native.Mathlib.Omega.{arith}
use lib.Ieee.{Float, nan, fin, binary64, sub, mul, eq}
use lib.IntN.{pos}
use lib.ListN.{length, take, set, get_or, length-take, length-map}
use lib.Seq.{take-suc-set, take_all}
use Rattle.lists.specs.Functions.{all}
use Rattle.lists.proofs.Places.{member_at, get_or_mapped}
use Rattle.lists.proofs.Members.{all_snoc}
use Rattle.foundation.specs.Numbers.{is_zero, finite, product, difference, plus_zero}
use Rattle.foundation.specs.Reference.{reduced}
use Rattle.run_slots.specs.Flags.{flagged}
use Rattle.run_slots.proofs.Flags.{flagged_more}
use Rattle.run_stretch.specs.Stretches.{reduced_all, gathered, Below}

-- What a loop holds that reduces a stretch: q places are done.
pub record Reducing (m : Float) (w was now : List Float) (flag bad q : ℕ) : Type 0 where
  pub written : now ≡ reduced_all m (take q w) was
  pub flags : bad ≡ flagged flag (all finite (take q now))

-- places not yet reached stand as they were
pub reduced-ahead : (m : Float) (w was : List Float) (q : ℕ) → length was ≡ length w → q < length w → get_or (reduced_all m (take q w) was) q nan ≡ get_or was q nan
unfolding reduced_all
reduced-ahead m [] was q e l = absurd (omega arith)
reduced-ahead m (u ∷ w) [] q e l = absurd (omega arith)
reduced-ahead m (u ∷ w) (x ∷ was) zero e l = refl
reduced-ahead m (u ∷ w) (x ∷ was) (suc q) e l = reduced-ahead m w was q (omega arith) (omega arith)

-- one more place
pub reduced-turn : (m : Float) (w was : List Float) (q : ℕ) → length was ≡ length w → q < length w
    → set (reduced_all m (take q w) was) q (reduced m (get_or w q nan) (get_or was q nan)) ≡ reduced_all m (take (suc q) w) was
unfolding reduced_all
reduced-turn m [] was q e l = absurd (omega arith)
reduced-turn m (u ∷ w) [] q e l = absurd (omega arith)
reduced-turn m (u ∷ w) (x ∷ was) zero e l = refl
reduced-turn m (u ∷ w) (x ∷ was) (suc q) e l = ap (λ (zs : List Float). reduced m u x ∷ zs) (reduced-turn m w was q (omega arith) (omega arith))

pub length-reduced : (m : Float) (w was : List Float) → length w ≤ length was → length (reduced_all m w was) ≡ length was
unfolding reduced_all
length-reduced m [] was l = refl
length-reduced m (u ∷ w) [] l = absurd (omega arith)
length-reduced m (u ∷ w) (x ∷ was) l = ap suc (length-reduced m w was (omega arith))

pub reducing_start : (m : Float) (w was : List Float) (flag : ℕ) → Reducing m w was was flag flag 0
unfolding reduced_all flagged all
reducing_start m w was flag = record { written = refl; flags = refl }

module _ (m : Float) (w was : List Float) (flag bad q : ℕ) (now : List Float) (r : Reducing m w was now flag bad q) (same : length was ≡ length w) (in_side_lem : q < length w) where
  pub reducing_length : length now ≡ length was
  reducing_length = rw r.written (length-reduced m (take q w) was (simp length-take (omega arith)))

  pub reducing_reads : get_or now q nan ≡ get_or was q nan
  reducing_reads = rw r.written (reduced-ahead m w was q same in_side_lem)

  -- a turn
  pub reducing_turn : (new : Float) (bad' : ℕ) → new ≡ reduced m (get_or w q nan) (get_or now q nan) → bad' ≡ flagged bad (finite new) → Reducing m w was (set now q new) flag bad' (q + 1)
  reducing_turn new bad' e f =
      let k : q < length now = omega (arith, reducing_length) in
      record {
        written = rw (add-one, e, reducing_reads, r.written) (reduced-turn m w was q same in_side_lem);
        flags = f ∙ rw (r.flags, flagged_more, add-one, take-suc-set now q new k, all_snoc);
      }

pub reducing_end : (m : Float) (w was now : List Float) (flag bad q : ℕ) → Reducing m w was now flag bad q → length was ≡ length w → length w ≤ q
    → (now ≡ reduced_all m w was) × (bad ≡ flagged flag (all finite now))
reducing_end m w was now flag bad q r same past =
    let e : now ≡ reduced_all m w was = r.written ∙ rw (take_all q w past) in
    let l : length now ≡ length was = ap length e ∙ length-reduced m w was (omega arith) in
    (e, r.flags ∙ rw (take_all q now (omega arith)))

-- ---- the arm of the select that takes something off
pub taken_off : (m u old : Float) → is_zero m ≡ false → eq u (fin false 0 (pos 0)) ≡ false → sub binary64 old (mul binary64 m u) ≡ reduced m u old
unfolding is_zero plus_zero reduced difference product
taken_off m u old e t = rw (e, t)

-- ---- what the subscripts find

pub length-gathered : (dense : List Float) (subs : List ℕ) → length (gathered dense subs) ≡ length subs
unfolding gathered
length-gathered dense subs = length-map subs (λ x. get_or dense x nan)

pub gathered_at : (dense : List Float) (subs : List ℕ) (q : ℕ) → q < length subs → get_or (gathered dense subs) q nan ≡ get_or dense (get_or subs q 0) nan
unfolding gathered
gathered_at dense subs q l = get_or_mapped (λ x. get_or dense x nan) subs q nan l

pub below_at : (room : ℕ) (subs : List ℕ) → Below room subs → (q : ℕ) → q < length subs → get_or subs q 0 < room
unfolding Below
below_at room subs h q l = h (get_or subs q 0) (member_at q subs l)
