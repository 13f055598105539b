-- What the program lends always fits but for its room.
use mathlib.Core.Bool.{true}
use mathlib.Core.Path.{◌≡◌, refl}
use Prim.Native.Nat.{ℕ, suc}
use lib.Dec.{eqb}
use lib.ListN.{length-replicate}
use borrow.Author.Tests.{eq-eqb}
use Rattle.lists.specs.Functions.{all}
use Rattle.foundation.specs.Answer.{refuse_if}
use Rattle.foundation.specs.Claims.{JobRoom}
use Rattle.foundation.specs.Pattern.{Lent}
use Rattle.foundation.specs.Job.{max_job_n}
use Rattle.foundation.specs.PlanCall.{work_fits, starts_sized, sizes_fit, planned}
use Rattle.foundation.specs.Printing.{job_room, fitting_work, blank_side, blank_stores, job_stores, job_lending, job_run}

-- n is n
eqb-own : (n : ℕ) → eqb n n ≡ true
eqb-own n = eq-eqb n n refl

-- the stores of a job's plan have the lengths that 6 asks for
pub blank_sized : (p : Lent) (room_l room_u : ℕ) → sizes_fit p (blank_stores p.n room_l room_u) fitting_work ≡ true
unfolding sizes_fit starts_sized blank_stores blank_side work_fits fitting_work all
blank_sized p room_l room_u = rw (length-replicate, eqb-own p.n, eqb-own (suc p.n))

pub job_room_lem : JobRoom
unfolding JobRoom job_run planned job_stores blank_stores blank_side job_room job_lending max_job_n refuse_if
job_room_lem job = rw (blank_sized job.pattern 2048 2048)
