-- What was read stands at the front of the store, and the reader has lost it; each turn that goes on leaves less to fill.
use Rattle.std.proofs.Common.{◌-◌, ◌≡◌, ◌≤◌, length, take}
use Rattle.std.specs.Io.KnownBytes.{Consumes}
use Rattle.streams.proofs.input.read_full.Given as goal

abbrev pub invariant-loop-done : goal.invariant-loop-done
invariant-loop-done g l = (length l.store ≡ length l.initial.store) × (l.done ≤ length l.store) × Consumes (g.R.Read.remaining l.initial.reader) (g.R.Read.remaining l.reader) (take l.done l.store)

abbrev pub decreases-loop-done : goal.decreases-loop-done
decreases-loop-done g l = length l.store - l.done
