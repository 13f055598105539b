-- How much of a new list stands at the end of its store, and room for the rest.
use mathlib.Core.List.{List}
use mathlib.Core.Path.{◌≡◌, sym, ◌∙◌}
use Prim.Native.Nat.{ℕ, ◌+◌, ◌-◌, ◌≤◌, ◌<◌}
use native.Mathlib.Decide.{dec_lt}
use native.Mathlib.Omega.{arith}
use lib.ListN.{length, take, drop, get_or, length-drop}
use lib.Seq.{ext_get_or, get_or-drop, get_or-take, length-take-le}
use mir.Syntax.{w64}
use mir.Val.{Fits}
use Rattle.lists.specs.Sets.{Ascending, overlap}
use Rattle.lists.proofs.Overlap.{same_at, last_same, overlap_is}
use Rattle.lists.proofs.Places.{ascending_below}

-- ---- the longest t

-- t is a length of both, and no longer end of the store is how the new list begins
pub record Reached (store new : List ℕ) (t : ℕ) : Type 0 where
  pub left : t ≤ length store
  pub right : t ≤ length new
  pub none : (u : ℕ) → t < u → u ≤ length store → u ≤ length new → drop (length store - u) store ≡ take u new → ⊥

-- end and beginning that have the same numbers are the same
same_all : (store new : List ℕ) (t : ℕ) → t ≤ length store → t ≤ length new
    → ((k : ℕ) → k < t → get_or store (length store - t + k) 0 ≡ get_or new k 0) → drop (length store - t) store ≡ take t new
same_all store new t l r same =
    let d : length (drop (length store - t) store) ≡ t = simp length-drop (omega arith) in
    let e : length (take t new) ≡ t = length-take-le t new r in
    ext_get_or 0 (drop (length store - t) store) (take t new) (cc) λ k h.
    let q : k < t = omega arith in
    get_or-drop (length store - t) store k 0 ∙ same k q ∙ sym (get_or-take t new k 0 q)

module _ (store new : List ℕ) (t : ℕ) (reached : Reached store new t) where
  -- a beginning that ends above the store's last subscript is ruled out
  pub one_shorter : 0 < t → get_or store (length store - 1) 0 < get_or new (t - 1) 0 → Reached store new (t - 1)
  one_shorter some above = record {
    left = omega (arith, reached.left);
    right = omega (arith, reached.right);
    none = λ u m l r e.
        elim (dec_lt t u) [
          | yes q ↦ reached.none u q l r e
          | no q ↦ let p : u ≡ t = omega arith in omega (arith, rw p at (last_same store new u (omega arith) l e))
        ];
  }

  -- none that differs makes t the overlap
  pub found : (i : ℕ) → t ≤ i → ((k : ℕ) → k < i → get_or store (length store - t + k) 0 ≡ get_or new k 0) → t ≡ overlap store new
  found i h same =
      let e = same_all store new t reached.left reached.right (λ k q. same k (omega arith)) in
      sym (overlap_is t store new reached.left reached.right e reached.none)

  -- no length is left
  pub nothing-shared : t ≡ 0 → 0 ≡ overlap store new
  nothing-shared e = sym e ∙ found 0 (omega arith) (λ k h. absurd (omega arith))

  -- a number that differs, where the beginning does not end above the store's last subscript, leaves no length: a shorter one ends below it
  pub none_left : (i : ℕ) → Ascending 0 new → i < t → get_or new (t - 1) 0 ≤ get_or store (length store - 1) 0
      → (get_or store (length store - t + i) 0 ≡ get_or new i 0 → ⊥) → 0 ≡ overlap store new
  none_left i up inside below differs =
      sym (overlap_is 0 store new (omega arith) (omega arith) (same_all store new 0 (omega arith) (omega arith) (λ k h. absurd (omega arith))) λ u m l r e.
      elim (dec_lt t u) [
        | yes q ↦ reached.none u q l r e
        | no q ↦
            elim (dec_lt u t) [
              | yes s ↦
                  let rises : get_or new (u - 1) 0 < get_or new (t - 1) 0 =
                  ascending_below 0 (u - 1) (t - 1) new up (omega arith) (omega (arith, reached.right)) in
                  omega (arith, last_same store new u m l e)
              | no s ↦ let p : u ≡ t = omega arith in differs (same_at store new t i inside (rw p at e))
            ]
      ])

-- ---- the rest of a list

-- there is no room for it
pub too_short : (n end m : ℕ) → n - end < m → n < end + m
too_short n end m h = omega arith

-- there is
pub long_enough : (n end m : ℕ) → end ≤ n → m ≤ n - end → end + m ≤ n
long_enough n end m inside room = omega arith

-- its members and those before it are few
pub rest-small : (s m : ℕ) → s + m < 4294967296 → Fits w64 m
rest-small s m small = record { fits = omega arith }
