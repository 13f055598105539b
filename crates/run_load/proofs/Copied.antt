-- A list copied to the front of a store that is as long.
use mathlib.Core.List.{List}
use mathlib.Core.Path.{◌≡◌, sym, ◌∙◌}
use native.Mathlib.Nat.{le_of_eq}
use lib.Ieee.{Float}
use lib.ListN.{length, take}
use lib.Seq.{take_all}

pub copied_whole : (to from : List Float) → length to ≡ length from → take (length from) to ≡ from → to ≡ from
copied_whole to from same front = sym (take_all (length from) to (le_of_eq same)) ∙ front
