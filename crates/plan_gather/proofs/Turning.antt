-- Laws of one step of planning: that it is one of the pattern's, and the step whose lists it shares.
use mathlib.Core.Bool.{cond}
use mathlib.Core.List.{List, [], ◌∷◌}
use mathlib.Core.Path.{◌≡◌}
use Prim.Native.Nat.{ℕ, ◌≤◌}
use native.Mathlib.Omega.{arith}
use lib.Dec.{eqb}
use lib.ListN.{set, get_or}
use borrow.Author.Tests.{eq-eqb, ne_eqb}
use Rattle.lists.specs.Functions.{empty}
use Rattle.lists.proofs.Members.{by_test}
use Rattle.foundation.specs.Pattern.{Lent}
use Rattle.foundation.specs.Subscripts.{only, sole_step}
use Rattle.store_lists.specs.Chains.{Linked}
use Rattle.plan_gather.specs.Ready.{plan_of}
use Rattle.plan_gather.specs.Steps.{sole_of, StepOf, ChainsOf}

-- a step is one of the pattern's
pub step_high : {p : Lent} {n k : ℕ} → StepOf p n k → k ≤ p.n
step_high step = rw step.same_n step.high

-- ---- the sole step

-- what two chains tell of it
sole-chains :
    (row_links set_links rows steps : List ℕ) (row set : ℕ) → Linked row_links row rows → Linked set_links set steps
    → sole_of row set (get_or set_links set 0) ≡ cond (empty rows) (only steps) 0
unfolding sole_of Linked empty only
sole-chains row_links set_links (r ∷ rows) steps row set h l = rw (ne_eqb row 0 (omega arith))
sole-chains row_links set_links [] [] row set h l = rw (eq-eqb row 0 h, l) (by_test (eqb (get_or set_links 0 0) 0) (λ e. rw e) (λ e. rw e))
sole-chains row_links set_links [] (x ∷ []) row set h l = rw (eq-eqb row 0 h, l.0, eq-eqb (get_or set_links x 0) 0 l.3)
sole-chains row_links set_links [] (x ∷ (y ∷ steps)) row set h l = rw (eq-eqb row 0 h, l.0, ne_eqb (get_or set_links x 0) 0 (omega arith))

-- the step that the code finds is the plan's
pub sole_of_lem : (p : Lent) (k : ℕ) {row : ℕ} {row_links : List ℕ} {set : ℕ} {set_links : List ℕ} → ChainsOf p k row row_links set set_links
    → sole_of row set (get_or set_links set 0) ≡ sole_step (plan_of p) k
unfolding sole_step
sole_of_lem p k {row} {row_links} {set} {set_links} chains =
    sole-chains row_links set_links ((plan_of p).first_met k) ((plan_of p).S k) row set chains.rows chains.steps
