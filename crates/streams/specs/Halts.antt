-- How programs end.
use Rattle.std.specs.Prelude.{ℕ, ◌<◌, List, [], Option, Result, Ok, Err, length, ⊤}
use Rattle.std.specs.Io.KnownBytes.{Consumes, IsAtEnd}
use Rattle.streams.specs.declared.halts.Halt.{Halt}
use Rattle.streams.specs.declared.halts.Halt.TheVariants.{Ended, Bad, Failed}

-- what a program prints last: a line after a bad request, else nothing
abbrev pub said_at_end : Result (Unit {0}) Halt → List ℕ → List ℕ
said_at_end (Ok done) line = []
said_at_end (Err Ended) line = []
said_at_end (Err Bad) line = line
said_at_end (Err (Failed error)) line = []

-- what a request of so many bytes is halted by, by what the reader had before and has afterwards: the input ends where it could begin, or within it
abbrev pub CutOff : ℕ → Option (List ℕ) → Option (List ℕ) → Halt → Type 0
CutOff size before after Ended = IsAtEnd after × Consumes before after []
CutOff size before after Bad = IsAtEnd after × ((part : List ℕ) × (0 < length part) × (length part < size) × Consumes before after part)
CutOff size before after (Failed error) = ⊤
