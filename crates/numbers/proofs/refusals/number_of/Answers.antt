-- `number_of` meets its contract.
use Rattle.answers.specs.Runs.{reason_number}
use Rattle.numbers.proofs.refusals.number_of.Goals as goal

pub returns-in-Limits : goal.returns-in-Limits
unfolding reason_number
returns-in-Limits c = rw c.in-Limits.is

pub returns-in-Height : goal.returns-in-Height
unfolding reason_number
returns-in-Height c = rw c.in-Height.is

pub returns-in-Starts : goal.returns-in-Starts
unfolding reason_number
returns-in-Starts c = rw c.in-Starts.is

pub returns-in-Column : goal.returns-in-Column
unfolding reason_number
returns-in-Column c = rw c.in-Column.is

pub returns-in-Order : goal.returns-in-Order
unfolding reason_number
returns-in-Order c = rw c.in-Order.is

pub returns-in-Diagonal : goal.returns-in-Diagonal
unfolding reason_number
returns-in-Diagonal c = rw c.in-Diagonal.is

pub returns-in-Stores : goal.returns-in-Stores
unfolding reason_number
returns-in-Stores c = rw c.in-Stores.is

pub returns-in-Tall : goal.returns-in-Tall
unfolding reason_number
returns-in-Tall c = rw c.in-Tall.is

pub returns-in-OtherPlan : goal.returns-in-OtherPlan
unfolding reason_number
returns-in-OtherPlan c = rw c.in-OtherPlan.is

pub returns-in-Lending : goal.returns-in-Lending
unfolding reason_number
returns-in-Lending c = rw c.in-Lending.is

pub returns-in-Values : goal.returns-in-Values
unfolding reason_number
returns-in-Values c = rw c.in-Values.is

pub returns-in-RowList : goal.returns-in-RowList
unfolding reason_number
returns-in-RowList c = rw c.in-RowList.is

pub returns-in-NoPivot : goal.returns-in-NoPivot
unfolding reason_number
returns-in-NoPivot c = rw c.in-NoPivot.is

pub returns-in-NotFinite : goal.returns-in-NotFinite
unfolding reason_number
returns-in-NotFinite c = rw c.in-NotFinite.is
