-- The lists of a plan after any number of steps: they ascend, are bounded, lie in one another, hold their own step, and are handed on.
use mathlib.Core.Bool.{true}
use mathlib.Core.List.{List, [], ◌∷◌}
use mathlib.Core.Logic.{⊎_elim}
use mathlib.Core.Path.{◌≡◌, refl, sym, ◌∙◌}
use Prim.Native.Nat.{ℕ, zero, suc, ◌+◌, ◌≤◌, ◌<◌}
use native.Mathlib.Decide.{dec_le, dec_lt}
use native.Mathlib.Omega.{arith}
use lib.ListN.{length}
use Rattle.lists.specs.Sets.{member, Ascending, from, least_above}
use Rattle.lists.proofs.Members.{member_head, member_cases, not-member-nil}
use Rattle.lists.proofs.Order.{member-low, ascending_raise, ascending-join_all, ascending-from}
use Rattle.lists.proofs.Least.{least_above_lem, least-least}
use Rattle.foundation.specs.Pattern.{Pattern}
use Rattle.foundation.specs.Plan.{Side, lower, upper, Planning, list, brings, from_steps, after}
use Rattle.foundation.specs.Facts.{Plannable}
use Rattle.foundation.proofs.Steps.{from_rows, list_later, list_none, joined, joins, plan_list}
use Rattle.foundation.proofs.Gathered.{list_done, list_row, list_step, every_member, first_met_at}

-- ---- a law of lists

-- two members that differ make a list of more than one
pub two-members : (x y : ℕ) (xs : List ℕ) → member x xs ≡ true → member y xs ≡ true → (x ≡ y → ⊥) → 1 < length xs
two-members x y [] mx my n = absurd (not-member-nil x mx)
two-members x y (z ∷ []) mx my n =
    ⊎_elim
    (λ (q : x ≡ z). ⊎_elim (λ (r : y ≡ z). absurd (n (q ∙ sym r))) (λ e. absurd (not-member-nil y e)) (member_cases y z [] my))
    (λ e. absurd (not-member-nil x e))
    (member_cases x z [] mx)
two-members x y (z ∷ (w ∷ ws)) mx my n = omega arith

-- the one member of a list of one
pub single : (x y : ℕ) → member x (y ∷ []) ≡ true → x ≡ y
single x y e = ⊎_elim (λ (q : x ≡ y). q) (λ none. absurd (not-member-nil x none)) (member_cases x y [] e)

-- ---- the lists

-- the largest number that a side's lists may have: the last row, or n
unfoldable pub limit : Pattern → Side → ℕ
limit p lower = p.height
limit p upper = p.n

module _ (p : Pattern) (ok : Plannable p) (m : ℕ) (small : m ≤ p.n) where
  -- ---- what rows bring

  -- No row is first met at a step below it.
  pub row_high : (k i : ℕ) → 1 ≤ k → k ≤ m → member i ((after p m).first_met k) ≡ true → k ≤ i
  row_high k i low high e =
      let (a, b, q) = (first_met_at p ok m k i low high).0 e in
      elim (dec_le i p.n) [
        | yes h ↦ omega (arith, least-least i 0 1 (p.row i) (ok.ascending i a b) (ok.diagonal i a h) a)
        | no n ↦ omega arith
      ]

  brings_ascend : (side : Side) (k i : ℕ) → 1 ≤ k → k ≤ m → member i ((after p m).first_met k) ≡ true → Ascending k (brings p side i)
  unfolding brings Ascending
  brings_ascend lower k i low high e = (row_high k i low high e, tt)
  brings_ascend upper k i low high e =
      let (a, b, q) = (first_met_at p ok m k i low high).0 e in
      let up : Ascending 1 (p.row i) = ok.ascending i a b in
      ascending_raise 1 k (p.row i) up (λ x mx. omega (arith, least-least x 0 1 (p.row i) up mx (member-low x 1 (p.row i) up mx)))

  brings-within : (side : Side) (k i x : ℕ) → 1 ≤ k → k ≤ m → member i ((after p m).first_met k) ≡ true → member x (brings p side i) ≡ true → x ≤ limit p side
  unfolding brings limit
  brings-within lower k i x low high e mx = let (a, b, q) = (first_met_at p ok m k i low high).0 e in omega (arith, single x i mx)
  brings-within upper k i x low high e mx = let (a, b, q) = (first_met_at p ok m k i low high).0 e in ok.bounded i x a b mx

  -- ---- order and bounds

  -- What the rows first met at a step bring ascends from the step on.
  pub rows_ascend : (side : Side) (k : ℕ) → 1 ≤ k → k ≤ m → Ascending k (from_rows p side ((after p m).first_met k))
  unfolding Ascending from_rows
  rows_ascend side k low high = ascending-join_all k (brings p side) [] ((after p m).first_met k) tt (λ i e. brings_ascend side k i low high e)

  ascends_below : (side : Side) (bound k : ℕ) → k < bound → Ascending k (list (after p m) side k)
  unfolding Ascending from_steps
  ascends_below side zero k h = absurd (omega arith)
  ascends_below side (suc bound) k h =
      elim (dec_le 1 k) [
        | yes low ↦ elim (dec_le k m) [
          | yes high ↦
              let s : Planning = after p m in
              rw (plan_list p m k side low high)
              (ascending-join_all k (λ l. from k (list s side l)) (from_rows p side (s.first_met k)) (s.S k)
              (rows_ascend side k low high)
              (λ l e. ascending-from l k (list s side l) (ascends_below side bound l (omega (arith, joined p m l k low e)))))
          | no n ↦ rw (list_later p m k side (omega arith)) tt
        ]
        | no n ↦
            let q : k ≡ 0 = omega arith in
            rw (q, list_none p m side) tt
      ]

  -- The lists of a step ascend strictly from the step on.
  pub list_ascends : (side : Side) (k : ℕ) → Ascending k (list (after p m) side k)
  list_ascends side k = ascends_below side (suc k) k (omega arith)

  -- Members of L_k are rows, members of U_k are columns.
  pub list_within : (side : Side) (k x : ℕ) → member x (list (after p m) side k) ≡ true → x ≤ limit p side
  list_within side =
      every_member p m side (λ k x. x ≤ limit p side) (λ k i x low high e mx. brings-within side k i x low high e mx) (λ k l x low high e h kx. h)

  -- L_k lies in U_k, as far as there are columns.
  pub low_in_up : (k x : ℕ) → member x (list (after p m) lower k) ≡ true → x ≤ p.n → member x (list (after p m) upper k) ≡ true
  unfolding brings
  low_in_up =
      every_member p m lower (λ k x. x ≤ p.n → member x (list (after p m) upper k) ≡ true)
      (λ k i x low high e mx h.
      let q : x ≡ i = single x i mx in
      let first = (first_met_at p ok m k i low high).0 e in
      list_row p m upper k i x low high e (rw q (ok.diagonal i first.0 (omega arith))))
      (λ k l x low high e ih kx h. list_step p m upper k l x low high e (ih h) kx)

  -- ---- handing on

  -- Where r is the least further member of U_k, no further member of L_k or U_k is below it.
  pub further_above :
      (side : Side) (k x : ℕ) → member x (list (after p m) side k) ≡ true → k < x → least_above k (list (after p m) upper k) ≤ p.n
      → least_above k (list (after p m) upper k) ≤ x
  further_above upper k x e h high = least-least x k k (list (after p m) upper k) (list_ascends upper k) e h
  further_above lower k x e h high =
      elim (dec_le x p.n) [
        | yes l ↦ least-least x k k (list (after p m) upper k) (list_ascends upper k) (low_in_up k x e l) h
        | no n ↦ omega arith
      ]

  -- A step whose L has more than one member hands its lists on to the step of its least further member of U, once that is done.
  pub handed_on :
      (side : Side) (k x : ℕ) → 1 < length (list (after p m) lower k) → 1 ≤ least_above k (list (after p m) upper k)
      → least_above k (list (after p m) upper k) ≤ m → k < x → member x (list (after p m) side k) ≡ true
      → member x (list (after p m) side (least_above k (list (after p m) upper k))) ≡ true
  unfolding list
  handed_on side k x many low high h e =
      let done = list_done p m side k x e in
      list_step p m side (least_above k ((after p m).U k)) k x low high (joins p m k done.0 done.1 many low) e
      (further_above side k x e h (omega arith))

  -- ---- k is in L_k and U_k

  own_along :
      (k : ℕ) → ((j : ℕ) → 1 ≤ j → j < k → member j (list (after p m) lower j) ≡ true) → k ≤ m
      → (fuel q : ℕ) → q ≤ k → k ≤ q + fuel → member k (list (after p m) lower q) ≡ true → member k (list (after p m) lower k) ≡ true
  own_along k earlier high zero q qk far e = let same : q ≡ k = omega arith in rw same at e
  own_along k earlier high (suc fuel) q qk far e =
      elim (dec_lt q k) [
        | yes h ↦
            let done = list_done p m lower q k e in
            let uq : List ℕ = list (after p m) upper q in
            let inside : member k uq ≡ true = low_in_up q k e (omega arith) in
            let many = two-members q k (list (after p m) lower q) (earlier q done.0 h) e (omega arith) in
            let above : q < least_above q uq = least_above_lem k q uq inside h in
            let below : least_above q uq ≤ k = least-least k q q uq (list_ascends upper q) inside h in
            own_along k earlier high fuel (least_above q uq) below (omega arith)
            (handed_on lower q k many (omega arith) (omega arith) h e)
        | no n ↦ let same : q ≡ k = omega arith in rw same at e
      ]

  own_below : (bound k : ℕ) → k < bound → 1 ≤ k → k ≤ m → member k (list (after p m) lower k) ≡ true
  unfolding brings
  own_below zero k h low high = absurd (omega arith)
  own_below (suc bound) k h low high =
      let row : List ℕ = p.row k in
      let up : Ascending 1 row = ok.ascending k low (omega (arith, ok.tall)) in
      let own : member k row ≡ true = ok.diagonal k low (omega arith) in
      let q : ℕ = least_above 0 row in
      let above : 1 ≤ q = least_above_lem k 0 row own low in
      let below : q ≤ k = least-least k 0 1 row up own low in
      let first : member k ((after p m).first_met q) ≡ true = (first_met_at p ok m q k above (omega arith)).1 (low, omega (arith, ok.tall), refl) in
      own_along k (λ j a b. own_below bound j (omega arith) a (omega arith)) high k q below (omega arith)
      (list_row p m lower q k k above (omega arith) first (member_head k []))

  -- Each step done is in its own lists.
  pub list_own : (side : Side) (k : ℕ) → 1 ≤ k → k ≤ m → member k (list (after p m) side k) ≡ true
  list_own lower k low high = own_below (suc k) k (omega arith) low high
  list_own upper k low high = low_in_up k k (own_below (suc k) k (omega arith) low high) (omega arith)

  -- A step with a further member in its L has more than one.
  pub list_many : (k x : ℕ) → member x (list (after p m) lower k) ≡ true → k < x → 1 < length (list (after p m) lower k)
  list_many k x e h =
      let done = list_done p m lower k x e in
      two-members k x (list (after p m) lower k) (list_own lower k done.0 done.1) e (omega arith)
