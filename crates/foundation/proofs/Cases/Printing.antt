-- Printing, and what the program lends.
use mathlib.Core.Path.{refl}
use Rattle.foundation.specs.Table.{Holds}
use Rattle.foundation.specs.Cases.Printing.{print_cases, job_run_cases}
use Rattle.foundation.specs.Marked.{show_pivots, bytes}
use Rattle.foundation.proofs.Open.Lists.{tables}
use Rattle.foundation.proofs.Open.Prints.{prints}

pub prints_hold : Holds print_cases
unfolding print_cases tables prints show_pivots bytes
prints_hold = refl

pub job_runs_hold : Holds job_run_cases
unfolding job_run_cases tables prints show_pivots bytes
job_runs_hold = refl
