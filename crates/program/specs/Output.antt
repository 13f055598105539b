-- What is printed.
use Rattle.std.specs.Prelude.{List, ◌≡◌, ℕ, length}
use Rattle.lists.specs.Functions.{padded}
use Rattle.foundation.specs.Printing.{printed}

-- what `job::answer` promises of its answer to a job: how many bytes are printed, and the bytes with zeros behind them
abbrev pub AnswerTo : List ℕ → ℕ → List ℕ → Type 0
AnswerTo job count bytes = (count ≡ length (printed job)) × (bytes ≡ padded 0 8192 (printed job))
