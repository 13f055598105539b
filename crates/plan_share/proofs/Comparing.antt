-- Laws of comparing: equal lists, a list that stands in a store.
use mathlib.Core.Bool.{true, false}
use mathlib.Core.List.{List}
use mathlib.Core.Path.{◌≡◌, sym, ap, ◌∙◌}
use Prim.Native.Nat.{ℕ, ◌+◌, ◌-◌, ◌≤◌, ◌<◌}
use native.Mathlib.Omega.{arith}
use lib.ListN.{length, take, drop, get_or, length-take, length-drop}
use lib.Seq.{length-take-le, get_or-take, get_or-drop, ext_get_or}
use Rattle.lists.specs.Functions.{same}
use Rattle.lists.proofs.Members.{by_test, same_equal, equal_same}

-- ---- equal lists

pub unequal_same : (xs ys : List ℕ) → (xs ≡ ys → ⊥) → same xs ys ≡ false
unequal_same xs ys h = by_test (same xs ys) (λ e. absurd (h (same_equal xs ys e))) (λ e. e)

-- ---- a list that stands in a store

-- the places that are compared
pub stands-inside : (n at m i : ℕ) → at ≤ n → m ≤ n - at → i < m → at + i < n
stands-inside n at m i inside room l = omega arith

module _ (list store : List ℕ) (at : ℕ) where
  -- the store is too short
  pub stands-short : length store - at < length list → same (take (length list) (drop at store)) list ≡ false
  stands-short h =
      unequal_same _ _ λ e.
      let size : length (take (length list) (drop at store)) ≡ length list = ap length e in
      omega (arith, simp (length-take, length-drop) at size)

  -- another number stands at a place
  pub stands-apart :
      (i : ℕ) → i < length list → (get_or store (at + i) 0 ≡ get_or list i 0 → ⊥) → same (take (length list) (drop at store)) list ≡ false
  stands-apart i h other =
      unequal_same _ _ λ e.
      other
      (sym (get_or-drop at store i 0) ∙ sym (get_or-take (length list) (drop at store) i 0 h)
      ∙ ap (λ (xs : List ℕ). get_or xs i 0) e)

  -- each number stands at its place
  pub stands-whole :
      length list ≤ length store - at → ((i : ℕ) → i < length list → get_or store (at + i) 0 ≡ get_or list i 0)
      → same (take (length list) (drop at store)) list ≡ true
  stands-whole room each =
      let size : length (take (length list) (drop at store)) ≡ length list = length-take-le (length list) (drop at store) (rw length-drop room) in
      equal_same _ _
      (ext_get_or 0 (take (length list) (drop at store)) list size λ i h.
      get_or-take (length list) (drop at store) i 0 (omega arith) ∙ get_or-drop at store i 0 ∙ each i (omega arith))
