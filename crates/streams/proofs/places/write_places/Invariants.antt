-- What is printed so far is every place before this one.
use Rattle.std.proofs.Common.{take}
use Rattle.std.specs.Io.KnownBytes.{Appends}
use Rattle.streams.specs.Printed.{behind_blanks}
use Rattle.streams.proofs.places.write_places.Given as goal

abbrev pub invariant-loop-place : goal.invariant-loop-place
invariant-loop-place g l = Appends (g.W.Write.contents l.initial.writer) (g.W.Write.contents l.writer) (behind_blanks (g.D.Digits.digits l.digits) g.T.Bits.bits (take l.place-index l.places))
