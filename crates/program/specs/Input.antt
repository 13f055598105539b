-- What reading answers.
use Rattle.std.specs.Prelude.{ℕ, ◌≡◌, ◌<◌, ◌≤◌, List, length, take, Option}
use Rattle.std.specs.Io.KnownBytes.{Consumes, IsAtEnd}
use Rattle.program.specs.declared.input.Input.{Input}
use Rattle.program.specs.declared.input.Input.TheVariants.{Whole, Failed}

-- What was read fits the store.
abbrev pub InRoom : ℕ → Input → Type 0
InRoom room (Whole count) = count ≤ room
InRoom room Failed = Unit

-- What was read stands at the front of the store, and is what the reader has lost. (Of standard input no bytes are known.)
abbrev pub Brought : Option (List ℕ) → Option (List ℕ) → List ℕ → Input → Type 0
Brought before after store (Whole count) = Consumes before after (take count store)
Brought before after store Failed = Unit

-- Nothing came, though there was room: the reader is at its end.
abbrev pub EndsAtNone : Option (List ℕ) → List ℕ → Input → Type 0
EndsAtNone after store (Whole count) = count ≡ 0 → 0 < length store → IsAtEnd after
EndsAtNone after store Failed = Unit

-- Less came than there was room for: the reader is at its end.
abbrev pub EndsShort : Option (List ℕ) → List ℕ → Input → Type 0
EndsShort after store (Whole count) = count < length store → IsAtEnd after
EndsShort after store Failed = Unit
