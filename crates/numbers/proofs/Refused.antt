-- A refusal is the same whatever would have been granted.
use mathlib.Core.Path.{◌≡◌, refl, ap, ◌∙◌}
use Rattle.foundation.specs.Answer.{Answer, refused, granted, and_then}
use Rattle.foundation.specs.PlanCall.{Counts}
use Rattle.answers.specs.Answers.{refusal_of}
use Rattle.answers.specs.declared.Refusal.{Refusal}
use Rattle.answers.specs.declared.Refusal.TheVariants.{Limits, Height, Starts, Column, Order, Diagonal, Stores, LowerRoom, UpperRoom, OtherPlan}
use Rattle.numbers.specs.Numbered.{refusal_by}
use Rattle.numbers.specs.declared.refusals.NumberAndStep.{NumberAndStep}

abbrev without : Answer Counts → Answer (Unit {0})
without a = and_then a (λ c. granted tt)

same_refusal : (r : Refusal) → without (refusal_of r) ≡ refusal_of r
unfolding refusal_of and_then
same_refusal Limits = refl
same_refusal Height = refl
same_refusal Starts = refl
same_refusal Column = refl
same_refusal Order = refl
same_refusal Diagonal = refl
same_refusal Stores = refl
same_refusal (LowerRoom k) = refl
same_refusal (UpperRoom k) = refl
same_refusal OtherPlan = refl

-- what `number_and_step` says of a refusal holds of it as the answer about a lent plan
pub refused_alike : (t : NumberAndStep) (r : Refusal) → refusal_by t ≡ refusal_of r → ◌≡◌ {A = Answer (Unit {0})} (refused t.number t.step) (refusal_of r)
unfolding refusal_by and_then
refused_alike t r e = ap without e ∙ same_refusal r
