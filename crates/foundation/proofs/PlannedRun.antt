-- From the pattern to the run: the plan that planning leaves is the one that the run goes by.
use mathlib.Core.Bool.{true, not, cond}
use mathlib.Core.Path.{◌≡◌}
use Prim.Native.Nat.{ℕ, ◌≤◌}
use native.Mathlib.Omega.{arith}
use lib.ListN.{length}
use borrow.Author.Tests.{eq-eqb, le-leb}
use Rattle.lists.proofs.Members.{by_test}
use Rattle.foundation.specs.Answer.{refused, granted, refuse_if, and_then}
use Rattle.foundation.specs.Claims.{RunsAlike, PlanAccepted, RoomEnough, SlotsEnough, PlannedRunsAlike}
use Rattle.foundation.specs.Pattern.{Lent, pattern_of, pattern_fault}
use Rattle.foundation.specs.Plan.{Planning, lower, upper, plan}
use Rattle.foundation.specs.PlanCall.{LentPlan, WorkSizes, sizes_fit, agrees, planned, held_if, held}
use Rattle.foundation.specs.RunCall.{Lending, lending_fits}
use Rattle.foundation.specs.Slots.{slots_of}
use Rattle.foundation.proofs.Alike.{judged_passes}

-- a lent plan that is taken passed 6 and 9
held_fits :
    (most : ℕ) (p : Lent) (q : LentPlan) (work : WorkSizes) (s : Planning) → pattern_fault most p ≡ 0 → held most p q work ≡ granted s
    → (sizes_fit p q.stores work ≡ true) × (agrees p (plan (pattern_of p)) q ≡ true)
unfolding held held_if and_then refuse_if
held_fits most p q work s ok e =
    let e' : cond (not (sizes_fit p q.stores work)) (refused 6 0) (cond (not (agrees p (plan (pattern_of p)) q)) (refused 9 0) (granted (plan (pattern_of p)))) ≡ granted s = rw (judged_passes most p ok) at e in
    by_test (sizes_fit p q.stores work)
    (λ u.
    by_test (agrees p (plan (pattern_of p)) q)
    (λ v. (u, v))
    (λ v. let z : refused 9 0 ≡ granted s = rw (u, v) at e' in let w : ◌≡◌ {A = ℕ} 0 1 = cc in absurd (omega arith)))
    (λ u. let z : refused 6 0 ≡ granted s = rw u at e' in let w : ◌≡◌ {A = ℕ} 0 1 = cc in absurd (omega arith))

-- the lengths of 10, the slots' among them
lending-fits :
    (p : Lent) (s : Planning) (w : Lending) → length w.values ≡ length p.columns → length w.right ≡ p.height → w.solution ≡ p.height → w.pivots ≡ p.n
    → w.diagonal ≡ p.n → slots_of s lower p.n ≤ w.lower_slots → slots_of s upper p.n ≤ w.upper_slots → lending_fits p s w ≡ true
unfolding lending_fits
lending-fits p s w values right solution pivots diagonal lowers uppers =
    rw (eq-eqb _ _ values, eq-eqb _ _ right, eq-eqb _ _ solution, eq-eqb _ _ pivots, eq-eqb _ _ diagonal, le-leb _ _ lowers, le-leb _ _ uppers)

pub planned_runs_alike_from : RoomEnough → PlanAccepted → SlotsEnough → RunsAlike → PlannedRunsAlike
unfolding RoomEnough PlanAccepted SlotsEnough RunsAlike PlannedRunsAlike
planned_runs_alike_from room accepted slots alike most p stores work later choice extent w ok sizes subscripts roomy lengths may sound =
    let grants : planned most p stores work ≡ granted (plan (pattern_of p)) = room most p stores work ok sizes.0 subscripts.0 subscripts.1 in
    let taken = held_fits most p _ later _ ok (accepted most p stores work later (plan (pattern_of p)) grants sizes.1) in
    let fits : lending_fits p (plan (pattern_of p)) w ≡ true =
    lending-fits p (plan (pattern_of p)) w lengths.0 lengths.1 lengths.2 lengths.3 lengths.4 (omega (arith, slots most p ok lower)) (omega (arith, slots most p ok upper)) in
    (grants, rw grants (alike most p _ later choice extent w ok taken.0 may taken.1 fits sound.0 sound.1))
