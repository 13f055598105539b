-- How far reading has come, by the code's numbers and stores, and what each command makes of it.
use Rattle.std.specs.Prelude.{suc, ◌≤◌, length, IfOk, Option, Some, None, Result, Ok, Err, take}
use Rattle.foundation.specs.Answer.{refused, granted}
use Rattle.foundation.specs.Job.{Reading, Next, more, over, job_of}
use Rattle.job_commands.specs.Stores.{JobStores}
use Rattle.job_commands.specs.Refusal.{number_of}
use Rattle.job_commands.specs.declared.progress.Progress.{Progress}
use Rattle.job_commands.specs.declared.refusal.JobRefusal.{JobRefusal}

-- what has been read
unfoldable pub state : Progress → JobStores → Reading
state p s =
    record {
      n = p.n;
      open_row = p.opened;
      starts = take (suc p.closed) s.starts;
      columns = take p.entries s.columns;
      values = take p.entries s.values;
      right = take p.closed s.right;
      rows = take p.chosen s.rows;
    }

-- what a command before Z came to, as the definition has it
unfoldable pub going_on : Result Progress JobRefusal → JobStores → Next
going_on (Ok p) s = more (state p s) p.bytes.now
going_on (Err refusal) s = over (refused (number_of refusal) 0)

-- a command that goes on has no more bytes behind it than it was given
abbrev pub NoLonger : Progress → Result Progress JobRefusal → Type 0
NoLonger p r = IfOk r (λ q. length q.bytes.now ≤ length p.bytes.now)

-- what Z came to, behind `p`
unfoldable pub ending : Result Unit JobRefusal → Progress → JobStores → Next
ending (Ok done) p s = over (granted (job_of (state p s)))
ending (Err refusal) p s = over (refused (number_of refusal) 0)

-- what any command came to, behind `p`: how far reading is then, or that Z has ended it
unfoldable pub next_of : Result (Option Progress) JobRefusal → Progress → JobStores → Next
next_of (Ok (Some q)) p s = more (state q s) q.bytes.now
next_of (Ok None) p s = over (granted (job_of (state p s)))
next_of (Err refusal) p s = over (refused (number_of refusal) 0)
