-- A fault of a pattern has a number from 1 to 5, or is 25.
use mathlib.Core.List.{List}
use mathlib.Core.Logic.{◌⊎◌, inl, inr, ⊎_elim}
use mathlib.Core.Path.{◌≡◌, sym}
use Prim.Native.Nat.{ℕ, suc, ◌≤◌}
use native.Mathlib.Omega.{arith}
use Rattle.foundation.specs.Pattern.{lent, pattern_fault}
use Rattle.foundation.proofs.Passing.{fault-known}

above : (k x : ℕ) → k ≤ x → (x ≡ k → ⊥) → suc k ≤ x
above k x h apart = omega arith

-- a number of a fault that is none of the first five is 25
pub last_fault : (x : ℕ) → ((1 ≤ x) × (x ≤ 5)) ⊎ (x ≡ 25) → (x ≡ 1 → ⊥) → (x ≡ 2 → ⊥) → (x ≡ 3 → ⊥) → (x ≡ 4 → ⊥) → (x ≡ 5 → ⊥) → 25 ≡ x
last_fault x known a b c d e =
    ⊎_elim
    (λ (h : (1 ≤ x) × (x ≤ 5)). let beyond : 6 ≤ x = above 5 x (above 4 x (above 3 x (above 2 x (above 1 x h.0 a) b) c) d) e in absurd (omega arith))
    (λ q. sym q) known

-- a fault has its number
pub fault_range :
    (most n height : ℕ) (starts columns : List ℕ) (fault : ℕ) → fault ≡ pattern_fault most (lent n height starts columns) → (fault ≡ 0 → ⊥)
    → ((1 ≤ fault) × (fault ≤ 5)) ⊎ (fault ≡ 25)
fault_range most n height starts columns fault found some =
    ⊎_elim
    (λ (h : pattern_fault most (lent n height starts columns) ≤ 5). inl (omega arith, omega arith))
    (λ (h : pattern_fault most (lent n height starts columns) ≡ 25). inr (omega arith))
    (fault-known most (lent n height starts columns))
