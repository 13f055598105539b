-- Room enough: no plan of n columns has more than n(n-1)/2 slots or subscripts a side, but for n more of L's for each row above n.
use mathlib.Core.Bool.{true, not}
use mathlib.Core.Path.{◌≡◌, refl, ap, ◌∙◌}
use Prim.Native.Nat.{ℕ, zero, suc, ◌+◌, ◌-◌, ◌*◌, ◌≤◌}
use native.Mathlib.Nat.{zero-mul, suc-mul, mul-suc, mul-zero}
use native.Mathlib.Omega.{arith}
use lib.Dec.{eqb, ltb}
use lib.ListN.{length, length-append, length-drop}
use Rattle.lists.specs.Functions.{empty}
use Rattle.lists.specs.Sets.{member, Ascending}
use Rattle.lists.proofs.Members.{by_test}
use Rattle.lists.proofs.Order.{ascending-length, ascending-keep, ascending_raise, member-low}
use Rattle.lists.proofs.Small.{less_one}
use Rattle.foundation.specs.Answer.{refuse_if, and_then}
use Rattle.foundation.specs.Claims.{twice_enough, RoomEnough, SlotsEnough}
use Rattle.foundation.specs.Facts.{Plannable, PlanFacts}
use Rattle.foundation.specs.Pattern.{Lent, Pattern, pattern_of, pattern_fault}
use Rattle.foundation.specs.Plan.{Planning, Side, lower, upper, list, plan}
use Rattle.foundation.specs.PlanCall.{planned}
use Rattle.foundation.specs.Slots.{slots_of}
use Rattle.foundation.specs.Subscripts.{Shared, kept, sole_step, shared, added_at}
use Rattle.foundation.proofs.Alike.{judged_passes}
use Rattle.foundation.proofs.LaidBack.{kept_listed, kept_other}
use Rattle.foundation.proofs.Opening.{store_next}
use Rattle.foundation.proofs.Room.{fits-granted}
use Rattle.foundation.proofs.Starts.{slots_next, slots_none}

-- 0 + 1 + .. + (n-1)
triangle : ℕ → ℕ
triangle zero = 0
triangle (suc m) = m + triangle m

-- twice that is n(n-1)
triangle-twice : (n : ℕ) → 2 * triangle n ≡ n * (n - 1)
unfolding triangle
triangle-twice zero = refl
triangle-twice (suc zero) = refl
triangle-twice (suc (suc m)) =
    let before : 2 * triangle (suc m) ≡ suc m * m = triangle-twice (suc m) ∙ ap (λ (v : ℕ). suc m * v) (less_one m) in
    let wide : suc (suc m) * suc m ≡ suc m * m + suc m + suc m = suc-mul (suc m) (suc m) ∙ ap (λ (v : ℕ). v + suc m) (mul-suc (suc m) m) in
    rw (less_one (suc m), wide, ← before) (omega arith)

-- with d more
triangle_more : (n d : ℕ) → triangle (n + d) ≡ triangle n + n * d + triangle d
unfolding triangle
triangle_more zero d =
    let none : 0 + d ≡ d = omega arith in
    rw (none, zero-mul) (omega arith)
triangle_more (suc n) d =
    let next : suc n + d ≡ suc (n + d) = omega arith in
    rw (next, triangle_more n d, suc-mul) (omega arith)

module _ (s : Planning) (side : Side) (bound : ℕ) (ascends : (k : ℕ) → Ascending (suc k) (kept s side k)) (bounded : (k x : ℕ) → member x (kept s side k) ≡ true → x ≤ bound) where
  -- a kept list has at most one member for each number behind its step
  kept_few : (k : ℕ) → suc k ≤ bound → length (kept s side (suc k)) + suc k ≤ bound
  kept_few k h =
      let few : length (kept s side (suc k)) + suc (suc k) ≤ suc bound =
      ascending-length (suc (suc k)) (suc bound) (kept s side (suc k)) (omega arith) (ascends (suc k)) (λ x m. omega (arith, bounded (suc k) x m)) in
      omega arith

  -- the slots of the first k lists, and one for each pair of later numbers
  slots-few : (k m : ℕ) → k + m ≡ bound → slots_of s side k + triangle m ≤ triangle bound
  unfolding triangle
  slots-few zero m e = let same : m ≡ bound = omega arith in rw (same, slots_none s side) (omega arith)
  slots-few (suc k) m e =
      let before : slots_of s side k + (m + triangle m) ≤ triangle bound = slots-few k (suc m) (omega arith) in
      omega (arith, slots_next s side k, kept_few k (omega arith))

  slots-within : (n d : ℕ) → n + d ≡ bound → slots_of s side n ≤ triangle n + n * d
  slots-within n d e =
      let all : triangle bound ≡ triangle n + n * d + triangle d = rw (← e) (triangle_more n d) in
      omega (arith, slots-few n d e)

-- a step adds at most its list
pub added_few : (s : Planning) (side : Side) (sh : Shared) (k : ℕ) → length (added_at s side sh k) ≤ length (kept s side (suc k))
unfolding added_at
added_few s side sh k =
    by_test (empty (kept s side (suc k))) (λ e. rw e (omega arith))
    (λ e. rw e (by_test (ltb 0 (sole_step s (suc k))) (λ f. rw f (omega arith)) (λ f. rw (f, length-drop) (omega arith))))

-- so a side has no more subscripts than slots
pub subscripts-few : (s : Planning) (side : Side) (k : ℕ) → length (shared s side k).store ≤ slots_of s side k
unfolding shared
subscripts-few s side zero = omega arith
subscripts-few s side (suc k) =
    rw (store_next s side k, length-append) (omega (arith, subscripts-few s side k, added_few s side (shared s side k) k, slots_next s side k))

module _
    (facts : (p : Pattern) → Plannable p → PlanFacts p (plan p)) (passes : (most : ℕ) (p : Lent) → pattern_fault most p ≡ 0 → Plannable (pattern_of p))
  where
    few-slots : (most : ℕ) (p : Lent) → pattern_fault most p ≡ 0 → (side : Side) → 2 * slots_of (plan (pattern_of p)) side p.n ≤ twice_enough p side
    unfolding kept list pattern_of twice_enough
    few-slots most p ok = at
      where
        s : Planning
        s = plan (pattern_of p)

        f : PlanFacts (pattern_of p) s
        f = facts (pattern_of p) (passes most p ok)

        ascends : (side : Side) (k : ℕ) → Ascending (suc k) (kept s side k)
        ascends side k =
            ascending_raise k (suc k) (kept s side k) (ascending-keep k (λ x. not (eqb x k)) (list s side k) (f.ascending side k))
            (λ x m. let a = member-low x k (list s side k) (f.ascending side k) (kept_listed s side k x m) in let b = kept_other s side k x m in omega arith)

        at : (side : Side) → 2 * slots_of s side p.n ≤ twice_enough p side
        at lower =
            let tall : p.n ≤ p.height = (passes most p ok).tall in
            omega (
              arith,
              slots-within s lower p.height (ascends lower) (λ k x m. f.lower_bounded k x (kept_listed s lower k x m)) p.n (p.height - p.n) (omega arith),
              triangle-twice p.n,
            )
        at upper =
            omega (
              arith,
              slots-within s upper p.n (ascends upper) (λ k x m. f.upper_bounded k x (kept_listed s upper k x m)) p.n 0 (omega arith),
              triangle-twice p.n,
              mul-zero p.n,
            )

    pub slots-enough-from : SlotsEnough
    unfolding SlotsEnough
    slots-enough-from = few-slots

    pub room-enough-from : RoomEnough
    unfolding RoomEnough planned and_then refuse_if
    room-enough-from most p stores work ok sizes lowers uppers =
        rw (judged_passes most p ok, sizes) (fits-granted (plan (pattern_of p)) _ _ p.n (fits lower _ lowers, fits upper _ uppers))
      where
        fits : (side : Side) (room : ℕ) → twice_enough p side ≤ 2 * room → length (shared (plan (pattern_of p)) side p.n).store ≤ room
        fits side room h = omega (arith, few-slots most p ok side, subscripts-few (plan (pattern_of p)) side p.n)
