-- A number in hexadecimal.
use Rattle.std.specs.Prelude.{ℕ, false, List, ◌++◌, ◌-◌, length, replicate}
use Rattle.std.specs.Fmt.{digits}

-- its digits, in small letters, with zeros in front up to `width` digits
abbrev pub hexadecimal : ℕ → ℕ → List ℕ
hexadecimal width n = replicate (width - length (digits 16 false n)) 48 ++ digits 16 false n
