-- Values as they are read: what a reader had before, and has afterwards, where that is known.
use Rattle.std.specs.Prelude.{◌≡◌, ℕ, List, Option, length, All}
use Rattle.std.specs.List.{AllZip, concat}
use Rattle.std.specs.Io.KnownBytes.{Consumes}

-- the value is made of so many bytes, which the reader has lost
pub record ReadFrom {V : Type 0} (size : ℕ) (made : List ℕ → V) (before after : Option (List ℕ)) (value : V) : Type 0 where
  pub bytes : List ℕ
  pub sized : length bytes ≡ size
  pub lost : Consumes before after bytes
  pub is : value ≡ made bytes

-- each place stands for a value that is made of so many bytes, and the reader has lost these, one piece behind the other
pub record FilledFrom {V T : Type 0} (size : ℕ) (made : List ℕ → V) (stands_for : V → T → Type 0) (before after : Option (List ℕ)) (places : List T) : Type 0 where
  pub pieces : List (List ℕ)
  pub sized : All (λ piece. length piece ≡ size) pieces
  pub lost : Consumes before after (concat pieces)
  pub filled : AllZip (λ piece place. stands_for (made piece) place) pieces places
