-- What a run leaves in the lent stores: cleared first, run in, cleared again.
use mathlib.Core.List.{List}
use mathlib.Core.Path.{◌≡◌, sym, ap, ◌∙◌}
use Prim.Native.Nat.{ℕ}
use lib.Ieee.{Float}
use lib.ListN.{length, replicate, length-replicate}
use Rattle.foundation.specs.Answer.{Answer, refused, result_store, work_store}
use Rattle.foundation.specs.Numbers.{plus_zero}
use Rattle.foundation.specs.RunCall.{Lending, Ran, RunStores, ran, run_answer, slots_after, diagonal_after, solution_after, pivots_after, run_leaves}
use Rattle.foundation.proofs.Stores.{refused-from}
use Rattle.answers.specs.Runs.{reason_number, outcome_of, run_answer_of}
use Rattle.answers.specs.declared.VerifyAnswer.{VerifyAnswer}
use Rattle.answers.specs.declared.RunOutcome.{RunOutcome}
use Rattle.answers.specs.declared.RunOutcome.TheVariants.{Finished, Stopped}
use Rattle.run_slots.specs.Handing.{Clear}
use Rattle.run_loop.proofs.Sizes.{SameSizes, then_sizes}
use Rattle.run_clear.specs.Blanks.{blanked, Blank, ClearedIfStopped}
use Rattle.run_call.specs.Calling.{Inputs, lending_in, Given, ran_on, StoresAs, OutcomeLeft, RunLeft}
use Rattle.run_judge.specs.Judgement.{with_floats}

-- ---- stores by their lengths

-- cleared stores keep their lengths
pub blanked_sizes : (stores stores' : RunStores) → stores' ≡ blanked stores → SameSizes stores stores'
blanked_sizes stores stores' e = record {
  l_size = ap (λ (s : RunStores). length s.lower_slots) e ∙ length-replicate (length stores.lower_slots) plus_zero;
  u_size = ap (λ (s : RunStores). length s.upper_slots) e ∙ length-replicate (length stores.upper_slots) plus_zero;
  d_size = ap (λ (s : RunStores). length s.diagonal) e ∙ length-replicate (length stores.diagonal) plus_zero;
  x_size = ap (λ (s : RunStores). length s.solution) e ∙ length-replicate (length stores.solution) plus_zero;
  pivots_size = ap (λ (s : RunStores). length s.pivots) e ∙ length-replicate {A = ℕ} (length stores.pivots) 0;
}

-- stores of the same lengths are blank alike
blanked_same : (stores stores' : RunStores) → SameSizes stores stores' → blanked stores' ≡ blanked stores
blanked_same stores stores' e = rw (e.l_size, e.u_size, e.d_size, e.x_size, e.pivots_size)

-- a run goes by the lengths of its stores alone
lending_same : (i : Inputs) (stores stores' : RunStores) → SameSizes stores stores' → lending_in i stores' ≡ lending_in i stores
lending_same i stores stores' e = rw (e.l_size, e.u_size, e.d_size, e.x_size, e.pivots_size)

-- stores that were cleared are zero throughout
pub blank_first : (stores stores' : RunStores) → stores' ≡ blanked stores → Blank stores'
blank_first stores stores' e = e ∙ sym (blanked_same stores stores' (blanked_sizes stores stores' e))

pub clear_first : (store store' : List Float) → store' ≡ work_store plus_zero (length store) → Clear store'
unfolding Clear work_store
clear_first store store' e = e ∙ ap (λ (m : ℕ). replicate m plus_zero) (sym (ap length e ∙ length-replicate (length store) plus_zero))

-- ---- a refusal leaves blank stores

refused-leaves : (i : Inputs) (stores : RunStores) (answer : Answer Ran) (number step : ℕ) → answer ≡ refused number step
    → blanked stores ≡ run_leaves i.p (lending_in i stores) answer
unfolding run_leaves slots_after diagonal_after solution_after pivots_after result_store
refused-leaves i stores answer number step e = rw e

-- ---- the whole

module _ (verified : VerifyAnswer) (i : Inputs) (g : Given verified i) (stores : RunStores) (copy dense : List Float) (stores₁ : RunStores) (dense₁ : List Float) where
  -- the answer by the cleared stores is that by the lent ones
  ran_same : SameSizes stores stores₁ → length dense₁ ≡ length dense → ran_on g.most g.work i stores₁ copy dense₁ ≡ ran_on g.most g.work i stores copy dense
  ran_same e f =
      ap (λ (w : Lending). ran g.most i.p i.q (with_floats g.work (length copy) (length dense₁)) i.choice i.extent w) (lending_same i stores stores₁ e)
      ∙ ap (λ (m : ℕ). ran g.most i.p i.q (with_floats g.work (length copy) m) i.choice i.extent (lending_in i stores)) f

  left_stores : (outcome : RunOutcome) (stores₂ stores₃ : RunStores)
      → (answer : Answer Ran) → outcome_of outcome ≡ run_answer answer → StoresAs outcome i.p (lending_in i stores) answer stores₂
      → SameSizes stores stores₂ → ClearedIfStopped outcome stores₂ stores₃ → stores₃ ≡ run_leaves i.p (lending_in i stores) answer
  unfolding outcome_of
  left_stores (Finished updates) stores₂ stores₃ answer says stands sizes cleared = cleared ∙ stands
  left_stores (Stopped reason step) stores₂ stores₃ answer says stands sizes cleared =
      cleared ∙ blanked_same stores stores₂ sizes
      ∙ refused-leaves i stores answer (reason_number reason) step (refused-from answer (reason_number reason) step says)

  pub run_left : (outcome : RunOutcome) (stores₂ stores₃ : RunStores) (copy₂ copy₃ dense₂ : List Float)
      → stores₁ ≡ blanked stores → dense₁ ≡ work_store plus_zero (length dense)
      → OutcomeLeft outcome verified i g stores₁ copy dense₁ stores₂ → SameSizes stores₁ stores₂
      → length copy₂ ≡ length copy → copy₃ ≡ work_store plus_zero (length copy₂) → length dense₂ ≡ length dense₁ → Clear dense₂
      → ClearedIfStopped outcome stores₂ stores₃
      → RunLeft (record { outcome = outcome }) verified i g stores copy dense stores₃ copy₃ dense₂
  unfolding Clear work_store run_answer_of outcome_of
  run_left outcome stores₂ stores₃ copy₂ copy₃ dense₂ first dense-first went sizes copy-kept copy-last Dense-kept dense-last cleared =
      let one = blanked_sizes stores stores₁ first in
      let dense_size : length dense₁ ≡ length dense = ap length dense-first ∙ length-replicate (length dense) plus_zero in
      let same = ran_same one dense_size in
      let says : outcome_of outcome ≡ run_answer (ran_on g.most g.work i stores copy dense) = went.answer ∙ ap run_answer same in
      let stands : StoresAs outcome i.p (lending_in i stores) (ran_on g.most g.work i stores copy dense) stores₂ =
      rw (same, lending_same i stores stores₁ one) at went.results_left in
      record {
        answer = says;
        results_left = left_stores outcome stores₂ stores₃ (ran_on g.most g.work i stores copy dense) says stands (then_sizes one sizes) cleared;
        copy_left = copy-last ∙ ap (λ (m : ℕ). replicate m plus_zero) copy-kept;
        dense_left = dense-last ∙ ap (λ (m : ℕ). replicate m plus_zero) (Dense-kept ∙ dense_size);
      }
