-- Planning inside a step, after each of the report's 2.1 to 2.5: what it has in common with planning between steps and with the plan.
use mathlib.Core.Path.{◌≡◌, refl, sym, ap, ◌∙◌}
use Prim.Native.Nat.{ℕ, suc, ◌+◌, ◌-◌, ◌≤◌}
use native.Mathlib.Omega.{arith}
use Rattle.foundation.specs.Pattern.{Pattern}
use Rattle.foundation.specs.Plan.{Side, lower, upper, list, unmet_rows, from_steps, reads_of_rows, reads_of_steps, so_far, initialized, rows_obtained, steps_collected, sets_updated, turn, after, after_initialization, after_rows, after_test, after_steps}
use Rattle.foundation.proofs.Steps.{from_rows, gathered, collected_all, plan_first, plan-gathered}

-- ---- 2.1 and 2.2

module _ (p : Pattern) (k : ℕ) where
  -- 2.2 reads C_k and the rows that it meets
  pub rows-read : (after_rows p k).known.reads ≡ (after p (k - 1)).reads + reads_of_rows p (after p (k - 1)) k
  unfolding after_rows after_initialization rows_obtained initialized
  rows-read = refl

  -- it leaves the sets S as they were
  pub rows-sets : (after_rows p k).known.S ≡ (after p (k - 1)).S
  unfolding after_rows after_initialization rows_obtained initialized
  rows-sets = refl

  -- ---- 2.3 and 2.4, passed over or not

  steps-whole : after_steps p k ≡ steps_collected k (after_rows p k)
  unfolding after_steps after_test
  steps-whole = collected_all k (after_rows p k)

  -- they leave the sets S as they were
  pub steps-sets : (after_steps p k).known.S ≡ (after p (k - 1)).S
  unfolding steps_collected after_rows after_initialization rows_obtained initialized
  steps-sets = rw steps-whole refl

  -- and the lists of the earlier steps
  pub steps_lower : (after_steps p k).known.L ≡ (after p (k - 1)).L
  unfolding steps_collected after_rows after_initialization rows_obtained initialized
  steps_lower = rw steps-whole refl

  pub steps_upper : (after_steps p k).known.U ≡ (after p (k - 1)).U
  unfolding steps_collected after_rows after_initialization rows_obtained initialized
  steps_upper = rw steps-whole refl

  -- 2.4 reads the lists of the steps in S_k
  pub steps-read : (after_steps p k).known.reads ≡ (after_rows p k).known.reads + reads_of_steps (after p (k - 1)) k
  unfolding steps_collected reads_of_steps after_rows after_initialization rows_obtained initialized
  steps-read = rw steps-whole refl

-- a step is its five parts
after_next : (p : Pattern) (j : ℕ) → after p (suc j) ≡ turn p (suc j) (after p j)
unfolding after
after_next p j = refl

module _ (p : Pattern) (k : ℕ) (low : 1 ≤ k) where
  own : suc (k - 1) ≡ k
  own = omega arith

  -- ---- 2.5

  -- planning after step k is what its 2.5 leaves
  pub after_updated : after p k ≡ sets_updated k (after_steps p k)
  unfolding after_steps after_test after_rows after_initialization turn
  after_updated = ap (after p) (sym own) ∙ after_next p (k - 1) ∙ ap (λ (j : ℕ). turn p j (after p (k - 1))) own

  -- the rows that are met stay so
  pub rows-met : (after_rows p k).known.met ≡ (after p k).met
  unfolding after_rows after_initialization rows_obtained initialized sets_updated steps_collected
  rows-met = rw (after_updated, steps-whole p k) refl

  pub rows_first : (after_rows p k).known.first_met ≡ (after p k).first_met
  unfolding after_rows after_initialization rows_obtained initialized sets_updated steps_collected
  rows_first = rw (after_updated, steps-whole p k) refl

  pub steps-met : (after_steps p k).known.met ≡ (after p k).met
  unfolding sets_updated
  steps-met = rw after_updated refl

  pub steps_first : (after_steps p k).known.first_met ≡ (after p k).first_met
  unfolding sets_updated
  steps_first = rw after_updated refl

  -- what was read is read
  pub steps_reads : (after_steps p k).known.reads ≡ (after p k).reads
  unfolding sets_updated
  steps_reads = rw after_updated refl

  -- ---- the plan, or planning after any later step

  module _ (m : ℕ) (high : k ≤ m) where
    -- the rows first met at k are those that 2.2 finds unmet
    pub rows_new : (after p m).first_met k ≡ unmet_rows p (after p (k - 1)) k
    rows_new = rw own at (plan_first p m (k - 1) (omega arith))

    -- after 2.2, L_k and U_k are what the rows first met at k bring
    pub rows_lists : (side : Side) → so_far (after_rows p k) side ≡ from_rows p side ((after p m).first_met k)
    unfolding so_far after_rows after_initialization rows_obtained initialized from_rows
    rows_lists lower = rw rows_new refl
    rows_lists upper = rw rows_new refl

    -- after 2.4, they are the plan's
    pub steps_lists : (side : Side) → so_far (after_steps p k) side ≡ list (after p m) side k
    unfolding so_far steps_collected after_rows after_initialization rows_obtained initialized gathered from_steps from_rows list
    steps_lists lower = rw (steps-whole p k) (sym (rw own at (plan-gathered p m (k - 1) lower (omega arith))))
    steps_lists upper = rw (steps-whole p k) (sym (rw own at (plan-gathered p m (k - 1) upper (omega arith))))
