-- What a run's types say: the choice of pivot rows and the extent asked for, and the answer by document 01's numbers.
use Rattle.std.specs.Prelude.{List, ℕ}
use Rattle.foundation.specs.Answer.{Answer, refused, granted}
use Rattle.foundation.specs.Reference.{Choice, largest, listed, Extent as RunExtent, whole, cut}
use Rattle.answers.specs.declared.Extent.{Extent}
use Rattle.answers.specs.declared.Extent.TheVariants.{Whole, Cut}
use Rattle.answers.specs.declared.PivotChoice.{PivotChoice}
use Rattle.answers.specs.declared.PivotChoice.TheVariants.{Largest, Listed}
use Rattle.answers.specs.declared.RunReason.{RunReason}
use Rattle.answers.specs.declared.RunReason.TheVariants.{Limits, Height, Starts, Column, Order, Diagonal, Stores, Tall, OtherPlan, Lending, Values, RowList, NoPivot, NotFinite}
use Rattle.answers.specs.declared.RunOutcome.{RunOutcome}
use Rattle.answers.specs.declared.RunOutcome.TheVariants.{Finished, Stopped}
use Rattle.answers.specs.declared.RunAnswer.{RunAnswer}

-- Document 01, "Elimination": the pivot row is the one "with the largest magnitude in column k (..); or row p_k of a given list".
unfoldable pub chosen_by : PivotChoice → List ℕ → Choice
chosen_by Largest rows = largest
chosen_by Listed rows = listed rows

-- Document 01, "Elimination": "A run may be cut to its first s steps, without back substitution".
unfoldable pub extent_of : Extent → RunExtent
extent_of Whole = whole
extent_of (Cut s) = cut s

-- Document 01, "Where each refusal is checked": the number of each reason; document 02, ticket 9: 25, "after 1", and 26, "before 9".
unfoldable pub reason_number : RunReason → ℕ
reason_number Limits = 1
reason_number Height = 25
reason_number Starts = 2
reason_number Column = 3
reason_number Order = 4
reason_number Diagonal = 5
reason_number Stores = 6
reason_number Tall = 26
reason_number OtherPlan = 9
reason_number Lending = 10
reason_number Values = 11
reason_number RowList = 12
reason_number NoPivot = 13
reason_number NotFinite = 14

-- "A run is either finished with its updates or stopped with its number and step."
unfoldable pub outcome_of : RunOutcome → Answer ℕ
outcome_of (Finished updates) = granted updates
outcome_of (Stopped reason step) = refused (reason_number reason) step

-- what a run's answer says
unfoldable pub run_answer_of : RunAnswer → Answer ℕ
unfolding outcome_of
run_answer_of a = outcome_of a.outcome
