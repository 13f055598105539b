-- What the calls of the elimination answer and leave in the lent stores.
use Rattle.std.specs.Prelude.{List, [], ◌∷◌, ◌≡◌, ℕ, Float, length}
use Rattle.foundation.specs.Answer.{work_store}
use Rattle.foundation.specs.Numbers.{plus_zero}
use Rattle.foundation.specs.Pattern.{Lent}
use Rattle.foundation.specs.PlanCall.{LentPlan, WorkSizes}
use Rattle.foundation.specs.Reference.{Choice, Extent}
use Rattle.foundation.specs.RunCall.{Lending, RunStores, ran, run_answer, run_leaves}
use Rattle.answers.specs.Stores.{WorkStores, work_stores, WorkLeft}
use Rattle.answers.specs.Runs.{run_answer_of}
use Rattle.answers.specs.declared.RunAnswer.{RunAnswer}

-- The work stores of a run: planning's six, and two of f64.
pub record RunWork : Type 0 where
  pub planning : WorkStores
  pub copy : List Float
  pub dense : List Float

abbrev pub run_work : (row_heads row_links set_heads set_links list spare : List ℕ) (copy dense : List Float) → RunWork
run_work row_heads row_links set_heads set_links list spare copy dense =
    record { planning = work_stores row_heads row_links set_heads set_links list spare; copy = copy; dense = dense }

-- Planning's chains have one place more than there are rows, its two growing lists one for each row; the copy of a list's numbers has one for each row, the same numbers laid out by their subscripts one more.
abbrev pub run_work_sizes : RunWork → WorkSizes
run_work_sizes work =
    record {
      of_height = length work.planning.list ∷ length work.planning.spare ∷ length work.copy ∷ [];
      of_height_plus_one =
          length work.planning.row_heads ∷ length work.planning.row_links ∷ length work.planning.set_heads ∷ length work.planning.set_links
          ∷ length work.dense ∷ [];
      of_entries = [];
    }

-- each work store is zero afterwards
pub record RunWorkLeft (work work' : RunWork) : Type 0 where
  pub planning_left : WorkLeft work.planning work'.planning
  pub copy_left : work'.copy ≡ work_store plus_zero (length work.copy)
  pub dense_left : work'.dense ≡ work_store plus_zero (length work.dense)

-- A run, whatever it is given: its answer, and what each lent store is afterwards (').
pub record RunKept (r : RunAnswer) (most : ℕ) (p : Lent) (q : LentPlan) (choice : Choice) (extent : Extent) (lending : Lending) (results' : RunStores) (scratch scratch' : RunWork) : Type 0 where
  -- the updates, or the refusal with its step
  pub answer : run_answer_of r ≡ run_answer (ran most p q (run_work_sizes scratch) choice extent lending)
  -- slots, diagonal, solution and pivot rows with zeros behind them, or zeros throughout
  pub results : results' ≡ run_leaves p lending (ran most p q (run_work_sizes scratch) choice extent lending)
  -- zeros
  pub work : RunWorkLeft scratch scratch'
