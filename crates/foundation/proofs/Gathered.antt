-- Who is in the lists of a plan: membership in L_k and U_k by rows and by steps, and at which step a row is first met.
use mathlib.Core.Bool.{Bool, true, false, not, false≢true}
use mathlib.Core.List.{[]}
use mathlib.Core.Logic.{◌⊎◌, inl, inr, ◌↔◌, ⊎_elim}
use mathlib.Core.Path.{◌≡◌, sym, ap, ◌∙◌}
use Prim.Native.Nat.{ℕ, zero, suc, ◌≤◌, ◌<◌}
use native.Mathlib.Decide.{dec_le}
use native.Mathlib.Omega.{arith}
use lib.Dec.{leb}
use borrow.Author.Tests.{leb-true, le-leb, not-true}
use Rattle.lists.specs.Functions.{keep}
use Rattle.lists.specs.Sets.{member, from, least_above, upto}
use Rattle.lists.proofs.Members.{by_test, or_left, or_right, or_true_cases, fails, not-member-nil, kept_in, kept_passes, in_keep, joined_keeps, joined_part, joined_cases, in_upto, upto-low, upto-high}
use Rattle.lists.proofs.Least.{least_above_lem, least-least, least_nonzero_member}
use Rattle.foundation.specs.Pattern.{Pattern, column}
use Rattle.foundation.specs.Plan.{Side, Planning, list, before_steps, unmet_rows, brings, from_steps, after}
use Rattle.foundation.specs.Facts.{Plannable}
use Rattle.foundation.proofs.Steps.{from_rows, list_later, list_none, joined, plan_list, plan_first, turn-met}

-- ---- columns

module _ (p : Pattern) where
  -- A row of column k is a row of the pattern with an entry there.
  pub column_parts : (k i : ℕ) → member i (column p k) ≡ true → (1 ≤ i) × (i ≤ p.height) × (member k (p.row i) ≡ true)
  unfolding column
  column_parts k i e =
      let t : ℕ → Bool = λ j. member k (p.row j) in
      let inside : member i (upto p.height) ≡ true = kept_in i t (upto p.height) e in
      (upto-low i p.height inside, upto-high i p.height inside, kept_passes i t (upto p.height) e)

  -- A row of the pattern with an entry in column k is a row of that column.
  pub in_column : (k i : ℕ) → 1 ≤ i → i ≤ p.height → member k (p.row i) ≡ true → member i (column p k) ≡ true
  unfolding column
  in_column k i low high e = in_keep i (λ j. member k (p.row j)) (upto p.height) (in_upto i p.height low high) e

  -- ---- members of L_k and U_k

  module _ (m : ℕ) (side : Side) where
    -- A list with a member is that of a step done.
    pub list_done : (k x : ℕ) → member x (list (after p m) side k) ≡ true → (1 ≤ k) × (k ≤ m)
    list_done zero x e = absurd (not-member-nil x (rw (list_none p m side) at e))
    list_done (suc k) x e =
        elim (dec_le (suc k) m) [
          | yes h ↦ (omega arith, h)
          | no n ↦ absurd (not-member-nil x (rw (list_later p m (suc k) side (omega arith)) at e))
        ]

    -- A member of a step's list was brought by a row first met there, or handed on by a step of its set S.
    pub list_cases_lem :
        (k x : ℕ) → member x (list (after p m) side k) ≡ true
        → ((i : ℕ) × (member i ((after p m).first_met k) ≡ true) × (member x (brings p side i) ≡ true))
        ⊎ ((l : ℕ) × (member l ((after p m).S k) ≡ true) × (member x (list (after p m) side l) ≡ true) × (k ≤ x))
    unfolding from_steps from_rows from
    list_cases_lem k x e =
        let s : Planning = after p m in
        let done = list_done k x e in
        ⊎_elim
        (λ rows. ⊎_elim (λ none. absurd (not-member-nil x none)) (λ r. inl r) (joined_cases x (brings p side) [] (s.first_met k) rows))
        (λ r. inr (r.0, r.1, kept_in x (leb k) (list s side r.0) r.2, leb-true k x (kept_passes x (leb k) (list s side r.0) r.2)))
        (joined_cases x (λ l. from k (list s side l)) _ (s.S k) (rw (plan_list p m k side done.0 done.1) at e))

    -- What a row first met at a step brings is in the step's list.
    pub list_row :
        (k i x : ℕ) → 1 ≤ k → k ≤ m → member i ((after p m).first_met k) ≡ true → member x (brings p side i) ≡ true
        → member x (list (after p m) side k) ≡ true
    unfolding from_steps from_rows
    list_row k i x low high mi mx =
        let s : Planning = after p m in
        rw (plan_list p m k side low high)
        (joined_keeps x (λ l. from k (list s side l)) _ (s.S k) (joined_part x i (brings p side) [] (s.first_met k) mi mx))

    -- What a step of the set S of k has from k on is in k's list.
    pub list_step :
        (k l x : ℕ) → 1 ≤ k → k ≤ m → member l ((after p m).S k) ≡ true → member x (list (after p m) side l) ≡ true → k ≤ x
        → member x (list (after p m) side k) ≡ true
    unfolding from_steps from
    list_step k l x low high ml mx h =
        let s : Planning = after p m in
        rw (plan_list p m k side low high)
        (joined_part x l (λ t. from k (list s side t)) _ (s.S k) ml (in_keep x (leb k) (list s side l) mx (le-leb k x h)))

    module _
        (P : ℕ → ℕ → Type 0)
        (row : (k i x : ℕ) → 1 ≤ k → k ≤ m → member i ((after p m).first_met k) ≡ true → member x (brings p side i) ≡ true → P k x)
        (step : (k l x : ℕ) → 1 ≤ k → k ≤ m → member l ((after p m).S k) ≡ true → P l x → k ≤ x → P k x) where
      every_below : (bound k x : ℕ) → k < bound → member x (list (after p m) side k) ≡ true → P k x
      every_below zero k x h e = absurd (omega arith)
      every_below (suc bound) k x h e =
          let done = list_done k x e in
          ⊎_elim
          (λ r. row k r.0 x done.0 done.1 r.1 r.2)
          (λ r.
          let earlier : r.0 < bound = omega (arith, joined p m r.0 k done.0 r.1) in
          step k r.0 x done.0 done.1 r.1 (every_below bound r.0 x earlier r.2) r.3)
          (list_cases_lem k x e)

      -- What holds of all that rows bring, and is handed on with what steps hand on, holds of every member.
      pub every_member : (k x : ℕ) → member x (list (after p m) side k) ≡ true → P k x
      every_member k x = every_below (suc k) k x (omega arith)

-- ---- rows first met

module _ (p : Pattern) (ok : Plannable p) where
  -- A row in column k has its least column from 1 to k.
  pub least_column : (k i : ℕ) → 1 ≤ k → member i (column p k) ≡ true → (1 ≤ least_above 0 (p.row i)) × (least_above 0 (p.row i) ≤ k)
  least_column k i low e =
      let (a, b, c) = column_parts p k i e in
      (least_above_lem k 0 (p.row i) c low, least-least k 0 1 (p.row i) (ok.ascending i a b) c low)

  -- A met row has its least column among the steps done.
  pub met-least : (m i : ℕ) → (after p m).met i ≡ true → (1 ≤ i) × (i ≤ p.height) × (1 ≤ least_above 0 (p.row i)) × (least_above 0 (p.row i) ≤ m)
  unfolding after before_steps unmet_rows
  met-least zero i e = absurd (false≢true e)
  met-least (suc m) i e =
      let s : Planning = after p m in
      ⊎_elim
      (λ old. let r = met-least m i old in (r.0, r.1, r.2, omega arith))
      (λ new.
      let c : member i (column p (suc m)) ≡ true = kept_in i (λ j. not (s.met j)) (column p (suc m)) new in
      let (a, b, d) = column_parts p (suc m) i c in
      let (low, high) = least_column (suc m) i (omega arith) c in
      (a, b, low, high))
      (or_true_cases (s.met i) (member i (unmet_rows p s (suc m))) (rw (turn-met p (suc m) s i) at e))

  in_least : (k i : ℕ) → 1 ≤ i → i ≤ p.height → least_above 0 (p.row i) ≡ suc k → member i (column p (suc k)) ≡ true
  in_least k i low high q = in_column p (suc k) i low high (rw q at (least_nonzero_member 0 (p.row i) (omega arith)))

  -- A row whose least column is among the steps done is met.
  pub least-met : (m i : ℕ) → 1 ≤ i → i ≤ p.height → 1 ≤ least_above 0 (p.row i) → least_above 0 (p.row i) ≤ m → (after p m).met i ≡ true
  unfolding after unmet_rows
  least-met zero i a b low high = absurd (omega arith)
  least-met (suc m) i a b low high =
      let s : Planning = after p m in
      rw (turn-met p (suc m) s i)
      (by_test (s.met i)
      (λ t. or_left (s.met i) (member i (unmet_rows p s (suc m))) t)
      (λ t.
      elim (dec_le (least_above 0 (p.row i)) m) [
        | yes h ↦ absurd (false≢true (sym t ∙ least-met m i a b low h))
        | no n ↦
            or_right (s.met i) (member i (unmet_rows p s (suc m)))
            (in_keep i (λ j. not (s.met j)) (column p (suc m)) (in_least m i a b (omega arith)) (ap not t))
      ]))

  -- A row is first met exactly at its least column.
  pub first_met_at :
      (m k i : ℕ) → 1 ≤ k → k ≤ m → (member i ((after p m).first_met k) ≡ true) ↔ ((1 ≤ i) × (i ≤ p.height) × (least_above 0 (p.row i) ≡ k))
  unfolding unmet_rows
  first_met_at m zero i low high = absurd (omega arith)
  first_met_at m (suc k) i low high = (to, back)
    where
      s : Planning
      s = after p k

      to : member i ((after p m).first_met (suc k)) ≡ true → (1 ≤ i) × (i ≤ p.height) × (least_above 0 (p.row i) ≡ suc k)
      to e =
          let new : member i (keep (λ j. not (s.met j)) (column p (suc k))) ≡ true = rw (plan_first p m k high) at e in
          let c : member i (column p (suc k)) ≡ true = kept_in i (λ j. not (s.met j)) (column p (suc k)) new in
          let unmet : s.met i ≡ false = not-true (s.met i) (kept_passes i (λ j. not (s.met j)) (column p (suc k)) new) in
          let (a, b, d) = column_parts p (suc k) i c in
          let (lo, hi) = least_column (suc k) i (omega arith) c in
          elim (dec_le (least_above 0 (p.row i)) k) [
            | yes h ↦ absurd (false≢true (sym unmet ∙ least-met k i a b lo h))
            | no n ↦ (a, b, omega arith)
          ]

      back : (1 ≤ i) × (i ≤ p.height) × (least_above 0 (p.row i) ≡ suc k) → member i ((after p m).first_met (suc k)) ≡ true
      back r =
          rw (plan_first p m k high)
          (in_keep i (λ j. not (s.met j)) (column p (suc k)) (in_least k i r.0 r.1 r.2)
          (ap not (fails (s.met i) (λ t. omega (arith, met-least k i t)))))
