-- Small laws of numbers: a need that cites one does not ask arithmetic to read all that is known there.
use mathlib.Core.Path.{◌≡◌}
use Prim.Native.Nat.{ℕ, suc, ◌+◌, ◌-◌, ◌*◌, ◌^◌, ◌≤◌, ◌<◌}
use native.Mathlib.Omega.{arith}
use mir.Syntax.{w64}
use mir.Val.{Fits}

pub least : (n : ℕ) → 0 ≤ n
least n = omega arith

pub less : (n t : ℕ) → t < n → n - (t + 1) < n - t
less n t l = omega arith

pub less_one : (n : ℕ) → suc n - 1 ≡ n
less_one n = omega arith

pub next_le : (n t : ℕ) → t < n → t + 1 ≤ n
next_le n t l = omega arith

pub short_of : {s n : ℕ} → s ≤ n → (s ≡ n → ⊥) → s < n
short_of l other = omega arith

-- what lies in a store lies in one of the same length
pub still_inside : {e m n : ℕ} → e ≤ m → n ≡ m → e ≤ n
still_inside l same = omega arith

pub still_below : {i m n : ℕ} → i < m → n ≡ m → i < n
still_below l same = omega arith

-- numbers up to the length of a store that lies in memory
pub room_same : {m n : ℕ} → m ≡ n → n * 8 < 2 ^ 63 → m * 8 < 2 ^ 63
room_same same room = omega arith

pub below_fits : {i n : ℕ} → i < n → n * 8 < 2 ^ 63 → Fits w64 i
below_fits l room = record { fits = omega arith }

pub end_fits : {e n : ℕ} → e ≤ n → n * 8 < 2 ^ 63 → Fits w64 e
end_fits l room = record { fits = omega arith }

pub place_fits : {e n : ℕ} → e ≤ n → n * 8 < 2 ^ 63 → Fits w64 (e * 8)
place_fits l room = record { fits = omega arith }

pub index-fits : {i n : ℕ} → i < n → n * 8 < 2 ^ 63 → Fits w64 (i * 8)
index-fits l room = record { fits = omega arith }

pub next_fits : {i n : ℕ} → i < n → n * 8 < 2 ^ 63 → Fits w64 (i + 1)
next_fits l room = record { fits = omega arith }

pub before-fits : {i n : ℕ} → i < n → n * 8 < 2 ^ 63 → Fits w64 ((i - 1) * 8)
before-fits l room = record { fits = omega arith }

pub before_below : {i n : ℕ} → i < n → i - 1 < n
before_below l = omega arith

-- a part that begins at one number and ends at another
pub part_fits : {a e n : ℕ} → (a ≤ e) × (e ≤ n) → n * 8 < 2 ^ 63 → Fits w64 (a * 8)
part_fits within room = record { fits = omega (arith, within) }

-- the sums on the way to the place behind place t of a part that begins at a
pub sums_fit : (a t : ℕ) {n : ℕ} → a + t + 1 ≤ n → n * 8 < 2 ^ 63 → Fits w64 (a + t) × Fits w64 (a + t + 1) × Fits w64 (t + 1)
sums_fit a t l room = (record { fits = omega arith }, record { fits = omega arith }, record { fits = omega arith })

-- a number from 1 to n, at the place before it in a store of as many places
pub record Placed (size i : ℕ) : Type 0 where
  pub low : 1 ≤ i
  pub inside : i - 1 < size
  pub fits : Fits w64 ((i - 1) * 8)

pub placed : {size n i : ℕ} → (1 ≤ i) × (i ≤ n) → size ≡ n → n * 8 < 2 ^ 63 → Placed size i
placed (low, high) same room = record { low = low; inside = omega arith; fits = record { fits = omega arith } }

-- places of stores that are as long as n, or by one longer
pub below_size : {i n m : ℕ} → i ≤ n → m ≡ suc n → i < m
below_size l same = omega arith

pub before_size : {i n m : ℕ} → 1 ≤ i → i ≤ n → m ≡ n → i - 1 < m
before_size low high same = omega arith
