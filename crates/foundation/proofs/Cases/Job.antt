-- The job.
use mathlib.Core.Path.{refl}
use Rattle.foundation.specs.Table.{Holds}
use Rattle.foundation.specs.Cases.Job.{position_cases, job_cases}
use Rattle.foundation.proofs.Open.Lists.{tables}
use Rattle.foundation.proofs.Open.Jobs.{jobs}

pub positions_hold : Holds position_cases
unfolding position_cases tables jobs
positions_hold = refl

pub jobs_hold : Holds job_cases
unfolding job_cases tables jobs
jobs_hold = refl
