-- Refusals of a job's bytes by document 01's numbers.
use Rattle.std.specs.Prelude.{ℕ}
use Rattle.job_commands.specs.declared.refusal.JobRefusal.{JobRefusal}
use Rattle.job_commands.specs.declared.refusal.JobRefusal.TheVariants.{Limits, Misplaced, CutShort, BytesBehind, TooLong}

-- Document 01, "Where each refusal is checked": 1 "for n at N", 15 to 17 byte by byte, 18 first.
abbrev pub number_of : JobRefusal → ℕ
number_of Limits = 1
number_of Misplaced = 15
number_of CutShort = 16
number_of BytesBehind = 17
number_of TooLong = 18
