-- The places before this one are filled.
use Rattle.std.proofs.Common.{take}
use Rattle.streams.specs.Taken.{FilledFrom}
use Rattle.streams.proofs.values.fill.Given as goal

abbrev pub invariant-loop-place : goal.invariant-loop-place
invariant-loop-place g l = FilledFrom g.V.FromBytes.size g.V.FromBytes.made g.T.From.from_gives (g.R.Read.remaining l.initial.reader) (g.R.Read.remaining l.reader) (take l.place-index l.places)
