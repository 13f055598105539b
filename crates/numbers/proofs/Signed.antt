-- A whole number in the machine's word: what is told of it, and which sizes fit.
use mathlib.Core.List.{List, ◌∷◌}
use mathlib.Core.Path.{◌≡◌, ap, ◌∙◌}
use Prim.Native.Nat.{ℕ, zero, suc, ◌<◌}
use native.Mathlib.Omega.{arith}
use lib.IntN.{ℤ, pos, neg_ℤ}
use mir.Syntax.{w64}
use mir.Val.{SFits, to_z, of_z}
use mir.ValLaws.{to_z-of_z}
use Rattle.numbers.specs.Numbered.{cut_or_padded, offset_numbers}

module _ (w : ℤ) (fits : SFits w64 w) where
  read_back : to_z w64 (of_z w64 w) ≡ w
  read_back = to_z-of_z w64 w fits

  pub told_back : (r room : ℕ) (store : List ℕ) → (r ≡ 0) × (store ≡ cut_or_padded room (0 ∷ 0 ∷ offset_numbers (to_z w64 (of_z w64 w))))
      → (r ≡ 0) × (store ≡ cut_or_padded room (0 ∷ 0 ∷ offset_numbers w))
  told_back r room store t = (t.0, t.1 ∙ ap (λ (z : ℤ). cut_or_padded room (0 ∷ 0 ∷ offset_numbers z)) read_back)

-- a size below 2^63 fits an i64 with either sign
pub plus_fits : (n : ℕ) → n < 9223372036854775808 → SFits w64 (pos n)
plus_fits n small = record { sfits = small }

pub minus_fits : (n : ℕ) → n < 9223372036854775808 → SFits w64 (neg_ℤ (pos n))
minus_fits zero small = record { sfits = omega arith }
minus_fits (suc n) small = record { sfits = omega arith }
