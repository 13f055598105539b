-- What the exported functions promise, whatever they are given: what is returned, what is told in the store `answer`, and what each lent store is afterwards (').
-- What the calls answer and leave is the foundation's; here it is only told in numbers.
use Rattle.std.specs.Prelude.{cond, not, List, ◌≡◌, ℕ, eqb, Float, length}
use Rattle.foundation.specs.Answer.{Answer, granted, refuse_if, result_store}
use Rattle.foundation.specs.LoadCall.{load_answer, LoadStores, load_sizes_of, load_leaves}
use Rattle.foundation.specs.OffsetCall.{read_into, read_leaves, write_offset, write_leaves}
use Rattle.foundation.specs.Pattern.{Lent}
use Rattle.foundation.specs.PlanCall.{PlanStores, LentPlan, planned, plan_answer, plan_leaves, held}
use Rattle.foundation.specs.Printing.{printed}
use Rattle.foundation.specs.Reference.{Choice, Extent}
use Rattle.foundation.specs.RunCall.{Lending, RunStores, ran, run_answer, run_leaves}
use Rattle.foundation.specs.Tally.{tally_answer, tally_after}
use Rattle.answers.specs.Answers.{verify_answer}
use Rattle.answers.specs.Stores.{WorkStores, work_sizes, WorkLeft}
use Rattle.answers.specs.declared.PivotChoice.{PivotChoice}
use Rattle.answers.specs.declared.PivotChoice.TheVariants.{Largest, Listed}
use Rattle.elimination.specs.Calls.{RunWork, run_work_sizes, RunWorkLeft}
use Rattle.numbers.specs.Numbered.{refusal_number, plan_numbers, verify_numbers, one_number, job_numbers, read_numbers, write_numbers, cut_or_padded, counts_from}

-- a lent plan, its counts given as numbers
abbrev pub lent_from : List ℕ → PlanStores → LentPlan
lent_from counts stores = record { counts = counts_from counts; stores = stores }

-- the choice of pivot rows, given as a number: by the largest entry where it is 0, else by the list
unfoldable pub choice_from : ℕ → PivotChoice
choice_from byList = cond (eqb byList 0) Largest Listed

pub record PlanTold (r most : ℕ) (p : Lent) (stores stores' : PlanStores) (scratch scratch' : WorkStores) (answer answer' : List ℕ) : Type 0 where
  -- 0, or the refusal's number
  pub returned : r ≡ refusal_number (plan_answer p (planned most p stores (work_sizes scratch)))
  -- the counts, or the refusal
  pub numbers : answer' ≡ cut_or_padded (length answer) (plan_numbers (plan_answer p (planned most p stores (work_sizes scratch))))
  -- the plan and zeros behind it, or zeros throughout
  pub results : stores' ≡ plan_leaves p (planned most p stores (work_sizes scratch)) stores
  -- zeros
  pub work : WorkLeft scratch scratch'

pub record VerifyTold (r most : ℕ) (p : Lent) (q : LentPlan) (scratch scratch' : WorkStores) (answer answer' : List ℕ) : Type 0 where
  pub returned : r ≡ refusal_number (verify_answer (held most p q (work_sizes scratch)))
  -- that it is this pattern's plan, or the refusal
  pub numbers : answer' ≡ cut_or_padded (length answer) (verify_numbers (verify_answer (held most p q (work_sizes scratch))))
  pub work : WorkLeft scratch scratch'

pub record RunTold (r most : ℕ) (p : Lent) (q : LentPlan) (choice : Choice) (extent : Extent) (lending : Lending) (results' : RunStores) (scratch scratch' : RunWork) (answer answer' : List ℕ) : Type 0 where
  pub returned : r ≡ refusal_number (run_answer (ran most p q (run_work_sizes scratch) choice extent lending))
  -- the updates, or the refusal
  pub numbers : answer' ≡ cut_or_padded (length answer) (one_number (run_answer (ran most p q (run_work_sizes scratch) choice extent lending)))
  -- slots, diagonal, solution and pivot rows with zeros behind them, or zeros throughout
  pub results : results' ≡ run_leaves p lending (ran most p q (run_work_sizes scratch) choice extent lending)
  pub work : RunWorkLeft scratch scratch'

pub record TallyTold (r member updates : ℕ) (counters counters' answer answer' : List ℕ) : Type 0 where
  pub returned : r ≡ refusal_number (tally_answer counters member updates)
  -- the member's new sum, or the refusal
  pub numbers : answer' ≡ cut_or_padded (length answer) (one_number (tally_answer counters member updates))
  -- all counters: with the new sum among them, or as they were; the tally is no result store
  pub kept : counters' ≡ tally_after counters member updates

-- the places that a store for a job's text has: room for every answer
abbrev pub text_room : ℕ
text_room = 8192

-- The call for a job's text, by the length of the lent store: any other length is 6, step 0, as document 02 has it of a result store of fixed length ("else 6, checked first").
-- What is refused of the job itself is printed, and is no refusal of the call.
unfoldable pub job_call : ℕ → List ℕ → Answer (List ℕ)
job_call room job = refuse_if (not (eqb room text_room)) 6 (granted (printed job))

pub record JobTold (r : ℕ) (job out out' answer answer' : List ℕ) : Type 0 where
  pub returned : r ≡ refusal_number (job_call (length out) job)
  -- how many bytes are printed, or the refusal
  pub numbers : answer' ≡ cut_or_padded (length answer) (job_numbers (job_call (length out) job))
  -- the printed bytes and zeros behind them, or zeros throughout
  pub text : out' ≡ result_store 0 (length out) (λ text. text) (job_call (length out) job)

pub record ReadTold (r : ℕ) (text : List ℕ) (value value' : List Float) (answer answer' : List ℕ) : Type 0 where
  pub returned : r ≡ refusal_number (read_into (length value) text)
  -- the whole number that was read, or the refusal
  pub numbers : answer' ≡ cut_or_padded (length answer) (read_numbers (read_into (length value) text))
  -- the f64 equal to it, or +0 throughout
  pub float : value' ≡ read_leaves (length value) text

pub record WriteTold (r : ℕ) (value : Float) (out out' answer answer' : List ℕ) : Type 0 where
  pub returned : r ≡ refusal_number (write_offset (length out) value)
  -- the whole number that was written, or the refusal
  pub numbers : answer' ≡ cut_or_padded (length answer) (write_numbers (write_offset (length out) value))
  -- its text, or zeros throughout
  pub text : out' ≡ write_leaves (length out) value

pub record LoadTold (r seed n d : ℕ) (stores stores' : LoadStores) (answer answer' : List ℕ) : Type 0 where
  pub returned : r ≡ refusal_number (load_answer seed n d (load_sizes_of stores))
  -- the number of entries, or the refusal
  pub numbers : answer' ≡ cut_or_padded (length answer) (one_number (load_answer seed n d (load_sizes_of stores)))
  -- row starts, columns, values and right side with zeros behind them, or zeros throughout
  pub results : stores' ≡ load_leaves seed n d (load_sizes_of stores)
