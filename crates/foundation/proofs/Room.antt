-- Room: when the stores of a planning call are too short, and at which step it stops (refusals 7 and 8).
use mathlib.Core.Bool.{true, false}
use mathlib.Core.Logic.{◌↔◌}
use mathlib.Core.Path.{◌≡◌, sym, ◌∙◌}
use Prim.Native.Nat.{ℕ, zero, suc, ◌+◌, ◌-◌, ◌≤◌, ◌<◌}
use native.Mathlib.Decide.{dec_le}
use native.Mathlib.Omega.{arith}
use lib.ListN.{length}
use borrow.Author.Tests.{ltb-false, le-ltb, lt-ltb}
use Rattle.lists.proofs.Members.{by_test}
use Rattle.foundation.specs.Answer.{refused, granted}
use Rattle.foundation.specs.Plan.{Planning, Side, lower, upper}
use Rattle.foundation.specs.Subscripts.{shared, short, room_fault}
use Rattle.foundation.proofs.Opening.{length_grows}

-- ---- one step

-- a store that is not too short at a step holds what the step needs
pub short_false : (s : Planning) (side : Side) (room k : ℕ) → short s side room k ≡ false → length (shared s side k).store ≤ room
unfolding short
short_false s side room k e = ltb-false _ _ e

-- a store with fewer places than a step needs is too short at it
pub too_short : (s : Planning) (side : Side) (room k : ℕ) → room < length (shared s side k).store → short s side room k ≡ true
unfolding short
too_short s side room k h = lt-ltb _ _ h

-- a store that holds what a step needs is not too short at it
pub not_short : (s : Planning) (side : Side) (room k : ℕ) → length (shared s side k).store ≤ room → short s side room k ≡ false
unfolding short
not_short s side room k h = le-ltb _ _ h

-- a room for the store after n steps is too short at no step up to n
pub fits_all : (s : Planning) (side : Side) (room n t : ℕ) → length (shared s side n).store ≤ room → t ≤ n → short s side room t ≡ false
fits_all s side room n t h l = not_short s side room t (omega (arith, length_grows s side t n l))

-- ---- step by step

module _ (s : Planning) (a b : ℕ) where
  -- both stores suffice at step t
  abbrev pub Passes : ℕ → Type 0
  Passes t = (short s lower a t ≡ false) × (short s upper b t ≡ false)

  -- where both stores suffice at a step, the later steps decide
  pub room_passes : (k left : ℕ) → Passes k → room_fault s a b k (suc left) ≡ room_fault s a b (suc k) left
  unfolding room_fault
  room_passes k left h = rw (h.0, h.1)

  -- where both stores suffice at every step before t, the steps from t on decide
  pub room_skips :
      (k left t : ℕ) → k ≤ t → t ≤ k + left → ((u : ℕ) → k ≤ u → u < t → Passes u)
      → room_fault s a b k left ≡ room_fault s a b t (k + left - t)
  room_skips k zero t l m h =
      let e : t ≡ k = omega arith in
      let f : k + 0 - k ≡ 0 = omega arith in
      rw (e, f)
  room_skips k (suc left) t l m h =
      elim (dec_le t k) [
        | yes g ↦
            let e : t ≡ k = omega arith in
            let f : k + suc left - k ≡ suc left = omega arith in
            rw (e, f)
        | no g ↦
            let f : k + suc left - t ≡ suc k + left - t = omega arith in
            room_passes k left (h k (omega arith) (omega arith))
            ∙ room_skips (suc k) left t (omega arith) (omega arith) (λ u x y. h u (omega arith) y)
            ∙ rw f
      ]

  -- where both stores suffice at every step, the plan is granted
  pub room-granted : (k left : ℕ) → ((t : ℕ) → k ≤ t → t < k + left → Passes t) → room_fault s a b k left ≡ granted s
  unfolding room_fault
  room-granted k left h =
      let f : k + left - (k + left) ≡ 0 = omega arith in
      room_skips k left (k + left) (omega arith) (omega arith) h ∙ rw f

  -- the first step at which L's store is too short is refused with 7
  pub room_stops_lower :
      (k left t : ℕ) → k ≤ t → t < k + left → ((u : ℕ) → k ≤ u → u < t → Passes u) → short s lower a t ≡ true
      → room_fault s a b k left ≡ refused 7 t
  unfolding room_fault
  room_stops_lower k left t l m h e =
      let f : k + left - t ≡ suc (k + left - suc t) = omega arith in
      room_skips k left t l (omega arith) h ∙ rw (f, e)

  -- the first step at which U's store, and not L's, is too short is refused with 8
  pub room_stops_upper :
      (k left t : ℕ) → k ≤ t → t < k + left → ((u : ℕ) → k ≤ u → u < t → Passes u) → short s lower a t ≡ false → short s upper b t ≡ true
      → room_fault s a b k left ≡ refused 8 t
  unfolding room_fault
  room_stops_upper k left t l m h d e =
      let f : k + left - t ≡ suc (k + left - suc t) = omega arith in
      room_skips k left t l (omega arith) h ∙ rw (f, d, e)

  -- a grant from step k on says that both stores suffice at k and that the later steps grant the same
  granted_parts :
      (s' : Planning) (k left : ℕ) → room_fault s a b k (suc left) ≡ granted s' → Passes k × (room_fault s a b (suc k) left ≡ granted s')
  unfolding room_fault
  granted_parts s' k left e =
      by_test (short s lower a k)
      (λ p. let f = rw p at e in
      let z : ◌≡◌ {A = ℕ} 0 1 = cc in
      absurd (omega arith))
      (λ p. by_test (short s upper b k)
      (λ q. let f = rw (p, q) at e in
      let z : ◌≡◌ {A = ℕ} 0 1 = cc in
      absurd (omega arith))
      (λ q. ((p, q), rw (p, q) at e)))

  -- what is granted is the plan itself
  pub room_same : (s' : Planning) (k left : ℕ) → room_fault s a b k left ≡ granted s' → s' ≡ s
  unfolding room_fault
  room_same s' k zero e = cc
  room_same s' k (suc left) e = room_same s' (suc k) left (granted_parts s' k left e).1

  -- a grant says that both stores suffice at every step
  pub room_passed : (s' : Planning) (k left : ℕ) → room_fault s a b k left ≡ granted s' → (t : ℕ) → k ≤ t → t < k + left → Passes t
  room_passed s' k zero e t l m = absurd (omega arith)
  room_passed s' k (suc left) e t l m =
      let (now, later) = granted_parts s' k left e in
      elim (dec_le t k) [
        | yes g ↦
            let q : t ≡ k = omega arith in
            rw q now
        | no g ↦ room_passed s' (suc k) left later t (omega arith) (omega arith)
      ]

  -- ---- the whole call

  -- both stores hold what n steps need
  abbrev pub Fits : ℕ → Type 0
  Fits n = (length (shared s lower n).store ≤ a) × (length (shared s upper n).store ≤ b)

  -- where both stores hold what n steps need, the plan is granted
  pub fits-granted : (n : ℕ) → Fits n → room_fault s a b 1 n ≡ granted s
  fits-granted n h =
      room-granted 1 n (λ t l m. (fits_all s lower a n t h.0 (omega arith), fits_all s upper b n t h.1 (omega arith)))

  -- where a plan is granted, both stores hold what n steps need
  pub granted-fits : (s' : Planning) (n : ℕ) → room_fault s a b 1 n ≡ granted s' → Fits n
  unfolding shared
  granted-fits s' zero e = (omega arith, omega arith)
  granted-fits s' (suc n) e =
      let p : Passes (suc n) = room_passed s' 1 (suc n) e (suc n) (omega arith) (omega arith) in
      (short_false s lower a (suc n) p.0, short_false s upper b (suc n) p.1)

  -- the plan is granted exactly where both stores hold what n steps need
  pub granted_iff_fits : (n : ℕ) → (room_fault s a b 1 n ≡ granted s) ↔ Fits n
  granted_iff_fits n = (granted-fits s n, fits-granted n)

-- whatever the room, what is granted is the same plan
pub whatever_the_room :
    (s : Planning) (a b a' b' n : ℕ) (r r' : Planning) → room_fault s a b 1 n ≡ granted r → room_fault s a' b' 1 n ≡ granted r' → r ≡ r'
whatever_the_room s a b a' b' n r r' e f = room_same s a b r 1 n e ∙ sym (room_same s a' b' r' 1 n f)
