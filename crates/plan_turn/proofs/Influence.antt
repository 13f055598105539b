-- Where the report's 2.4 is passed over, the lists are whole after 2.2; and what its 2.5 leaves.
use mathlib.Core.Bool.{Bool, not}
use mathlib.Core.List.{List, []}
use mathlib.Core.Path.{◌≡◌, refl, sym, ap, ◌∙◌}
use Prim.Native.Nat.{ℕ, ◌-◌}
use native.Mathlib.Omega.{arith}
use lib.ListN.{get_or}
use Rattle.lists.specs.Functions.{keep, empty}
use Rattle.lists.proofs.Members.{by_test}
use Rattle.foundation.specs.Pattern.{Lent, pattern_of}
use Rattle.foundation.specs.Plan.{influenced, collected_if_influenced, after, after_rows, after_test, after_steps, plan}
use Rattle.foundation.specs.Subscripts.{only, sole_step}
use Rattle.foundation.proofs.InStep.{rows-met, rows-sets}
use Rattle.foundation.proofs.Steps.{S-frame}
use Rattle.store_lists.specs.Chains.{Chained}
use Rattle.store_lists.proofs.Chaining.{linked_end, chained_cong}
use Rattle.plan_gather.specs.Ready.{plan_of}
use Rattle.plan_gather.specs.Steps.{StepOf, ChainsOf, ChainsAt, chain_stores, rows_at, unmet_at}
use Rattle.plan_gather.proofs.Progress.{chains_at}
use Rattle.plan_gather.proofs.Turning.{step_high}
use Rattle.plan_lists.specs.declared.lying.Lies.{Lies}
use Rattle.plan_lists.specs.declared.lying.Lies.TheVariants.{Grown, Row, Sole, Behind}
use Rattle.plan_lists.specs.declared.lying.Lists.{Lists}
use Rattle.plan_lists.specs.Lying.{ListsAt, ListsWhole, GrownAlone}

module _ {p : Lent} {n k : ℕ} (step : StepOf p n k) where
  -- the set of step k is the plan's
  set-whole : (after_test (pattern_of p) k).known.S k ≡ (plan_of p).S k
  unfolding after_test plan_of plan pattern_of
  set-whole =
      let h = step_high step in
      let low = step.low in
      ap (λ (f : ℕ → List ℕ). f k) (rows-sets (pattern_of p) k) ∙ sym (S-frame (pattern_of p) p.n (k - 1) k low (omega arith) (omega arith))

  module _ {row : ℕ} {row_links : List ℕ} {set : ℕ} {set_links : List ℕ} (chains : ChainsOf p k row row_links set set_links) (none : set ≡ 0) where
    no_steps : (plan_of p).S k ≡ []
    no_steps = linked_end set_links set ((plan_of p).S k) none chains.steps

    -- 2.4 is passed over
    passed_over : after_steps (pattern_of p) k ≡ after_test (pattern_of p) k
    unfolding after_steps collected_if_influenced influenced empty
    passed_over = rw (set-whole, no_steps) refl

    -- and there is no sole step
    no_sole : sole_step (plan_of p) k ≡ 0
    unfolding sole_step only
    no_sole = rw no_steps (by_test (empty ((plan_of p).first_met k)) (λ e. rw e refl) (λ e. rw e refl))

    grown-alone : (lies : Lies) → GrownAlone lies p k
    grown-alone (Grown count) = no_sole
    grown-alone Row = tt
    grown-alone (Sole l) = tt
    grown-alone (Behind shared from) = tt

    pub whole_at_once : {lists : Lists} {lowers uppers : List ℕ} → ListsAt lists p k row (after_test (pattern_of p) k) k lowers uppers → ListsWhole lists p k row lowers uppers
    whole_at_once {lists} at = record { at = rw passed_over at; lower_alone = grown-alone lists.lower; upper_alone = grown-alone lists.upper }

  -- the chains of the step at hand
  pub chains_here :
      {row : ℕ} (row_heads row_links set_heads set_links : List ℕ) → ChainsAt p n (k - 1) (chain_stores row_heads row_links set_heads set_links) → row ≡ get_or row_heads k 0
      → ChainsOf p k row row_links (get_or set_heads k 0) set_links
  chains_here row_heads row_links set_heads set_links chains e = rw e (chains_at p n k row_heads row_links set_heads set_links step chains)

  -- the rows that are met after 2.2 are met after the step
  pub rows-after : {heads links : List ℕ} → Chained heads links p.height n (unmet_at p (after_rows (pattern_of p) k).known) → Chained heads links p.height n (unmet_at p (after (pattern_of p) k))
  unfolding unmet_at
  rows-after {heads} {links} h =
      chained_cong heads links p.height n (unmet_at p (after_rows (pattern_of p) k).known) (unmet_at p (after (pattern_of p) k))
      (λ j l u. ap (λ (met : ℕ → Bool). keep (λ i. not (met i)) (rows_at p j)) (rows-met (pattern_of p) k step.low))
      h
