-- The claims about orthogonal steps (document 02, Ticket 7), on patterns of n rows and of more (Ticket 9: "Ticket 7's property covers them"): each one proposition that can be read
-- alone. "Show for square patterns": those whose row count, `height`, is n.
use Rattle.std.specs.Prelude.{Bool, true, false, List, [], ◌∷◌, ◌++◌, ◌⊎◌, ◌↔◌, ◌≡◌, ℕ, suc, ◌≤◌, ◌<◌, take}
use Rattle.lists.specs.Sets.{member}
use Rattle.foundation.specs.Closed.{Involved, marked}
use Rattle.foundation.specs.Pattern.{Lent, Pattern, pattern_of, pattern_fault}
use Rattle.foundation.specs.Plan.{Planning, plan}
use Rattle.foundation.specs.Slots.{has_slot}
use Rattle.foundation.specs.Square.{Square}
use Rattle.foundation.specs.Free.{FreeStep, FreeState, free_after}
use Rattle.foundation.specs.Orthogonal.{OrthogonalStep, OrthogonalState, orthogonal_start, orthogonal_taken, orthogonal_step, orthogonal_run, orthogonal_after}

-- "no nonzero of row, vector or upper factor at any step lies outside the plan": a nonzero of a row stands in rows 1 to `height` and columns 1 to n, and in a slot; one of the vector of
-- step l at a row of L_l; one of row l of the upper factor in a column of U_l (l itself is in both, by the plan: `PlanFacts.own`). Only steps that were taken, those before k, have a vector
-- and a row of the upper factor, which is the row as it stands. In columns before k no row has a nonzero below the diagonal any more: the slots of L_l are free for the vector of step l,
-- but for its number at l itself, since the slot of (l, l) has the upper factor's.
pub record WithinPlan {ℓ} {A : Type ℓ} (p : Pattern) (s : Planning) (is_zero : A → Bool) (o : OrthogonalState A) : Type ℓ where
  pub k_range : (1 ≤ o.k) × (o.k ≤ suc p.n)
  pub rows : (i j : ℕ) → is_zero (o.rows i j) ≡ false → (1 ≤ i) × (i ≤ p.height) × (1 ≤ j) × (j ≤ p.n) × (has_slot s i j ≡ true)
  pub vectors : (i l : ℕ) → is_zero (o.vectors i l) ≡ false → (1 ≤ l) × (l < o.k) × (member i (s.L l) ≡ true)
  pub factor : (l j : ℕ) → is_zero (o.factor l j) ≡ false → (1 ≤ l) × (l < o.k) × (member j (s.U l) ≡ true)
  pub factor_is_row : (l j : ℕ) → (1 ≤ l) × (l < o.k) → o.factor l j ≡ o.rows l j
  pub cleared : (i l : ℕ) → l < i → l < o.k → is_zero (o.rows i l) ≡ true

-- What was written stays: rows, vectors and rows of the upper factor of the steps before k are the same in the later state.
pub record WrittenStays {ℓ} {A : Type ℓ} (o later : OrthogonalState A) : Type ℓ where
  pub rows : (l j : ℕ) → l < o.k → later.rows l j ≡ o.rows l j
  pub vectors : (i l : ℕ) → l < o.k → later.vectors i l ≡ o.vectors i l
  pub factor : (l j : ℕ) → l < o.k → later.factor l j ≡ o.factor l j

-- Ticket 7, one claim about the whole list of steps, the empty list included: for every pattern that passes 1 to 5, every set of numbers at its places (of any kind A, of which only
-- whether one is zero counts) and every list of orthogonal steps, refused ones included: after the first t of them, for every t, all is within the plan, and what is written then
-- stays after the first t', for every t' from t on.
unfoldable pub OrthogonalSuffices : Type 1
OrthogonalSuffices =
    (most : ℕ) (p : Lent)
    → pattern_fault most p ≡ 0
    → (A : Type 0) (is_zero : A → Bool) (zero : A)
    → is_zero zero ≡ true
    → (values : Square A) (steps : List (OrthogonalStep A)) (t : ℕ)
    → WithinPlan (pattern_of p) (plan (pattern_of p)) is_zero (orthogonal_after (pattern_of p) is_zero zero values steps t)
    × ((t' : ℕ)
    → t ≤ t'
    → WrittenStays (orthogonal_after (pattern_of p) is_zero zero values steps t) (orthogonal_after (pattern_of p) is_zero zero values steps t'))

-- ---- which steps these are, and what they leave, said of places

-- "row k and the rows below it that have a nonzero in column k": whether row i is one of those that step k of a state replaces
abbrev pub Replaces {ℓ} : {A : Type ℓ} → (A → Bool) → OrthogonalState A → ℕ → Type 0
Replaces is_zero s i = Involved s.k (marked is_zero s.rows) i

-- "row k and the rows below it that have a nonzero in column k are replaced by any rows whose nonzeros lie in the union of their columns, those below k having none in column k": from any
-- state, a step is taken just where k is at most n and each nonzero that it brings for such a row i, in rows up to `height` and columns 1 to n, stands in a column in which one of those
-- rows, h, has a nonzero, and not in column k if i is below k.
unfoldable pub TakenAsSaid : Type 1
TakenAsSaid =
    (p : Pattern) (A : Type 0) (is_zero : A → Bool) (s : OrthogonalState A) (step : OrthogonalStep A)
    → (orthogonal_taken p is_zero s step ≡ true)
    ↔ ((s.k ≤ p.n)
    × ((i j : ℕ)
    → Replaces is_zero s i
    → (i ≤ p.height) × (1 ≤ j) × (j ≤ p.n)
    → is_zero (step.rows i j) ≡ false
    → ((h : ℕ) × Replaces is_zero s h × (h ≤ p.height) × (is_zero (s.rows h j) ≡ false))
    × ((s.k < i) × (j ≡ s.k) → ⊥)))

-- What a step leaves that is taken. "row k and the rows below it that have a nonzero in column k are replaced", in columns 1 to n, "all other rows unchanged, and vectors are kept for those
-- rows only"; row k of the upper factor is row k as it now stands.
pub record StepLeaves {ℓ} {A : Type ℓ} (p : Pattern) (is_zero : A → Bool) (s : OrthogonalState A) (step : OrthogonalStep A) (after : OrthogonalState A) : Type ℓ where
  pub next_k : after.k ≡ suc s.k
  pub rows : (i j : ℕ) → Replaces is_zero s i → (1 ≤ j) × (j ≤ p.n) → after.rows i j ≡ step.rows i j
  pub other_rows : (i j : ℕ) → (Replaces is_zero s i × ((1 ≤ j) × (j ≤ p.n)) → ⊥) → after.rows i j ≡ s.rows i j
  pub vector : (i : ℕ) → Replaces is_zero s i → after.vectors i s.k ≡ step.vector i
  pub other_vectors : (i l : ℕ) → (Replaces is_zero s i × (l ≡ s.k) → ⊥) → after.vectors i l ≡ s.vectors i l
  pub factor : (j : ℕ) → after.factor s.k j ≡ after.rows s.k j
  pub other_factor : (l j : ℕ) → (l ≡ s.k → ⊥) → after.factor l j ≡ s.factor l j

-- From any state a step that is taken leaves that, and one that is refused the state as it was.
unfoldable pub LeftAsSaid : Type 1
LeftAsSaid =
    (p : Pattern) (A : Type 0) (is_zero : A → Bool) (s : OrthogonalState A) (step : OrthogonalStep A)
    → (orthogonal_taken p is_zero s step ≡ true → StepLeaves p is_zero s step (orthogonal_step p is_zero s step))
    × (orthogonal_taken p is_zero s step ≡ false → orthogonal_step p is_zero s step ≡ s)

-- Each step gets what the last one left, and nothing else is done: the run of no step leaves the state as it is, that of one step does what the step does, and the run of a list and what
-- follows it is the run of what follows from where the list came. "After the first t" steps is after their run from the given numbers on.
unfoldable pub OrthogonalRunsOn : Type 1
OrthogonalRunsOn =
    (p : Pattern) (A : Type 0) (is_zero : A → Bool)
    → ((s : OrthogonalState A)
    → (orthogonal_run p is_zero s [] ≡ s)
    × ((step : OrthogonalStep A) → orthogonal_run p is_zero s (step ∷ []) ≡ orthogonal_step p is_zero s step)
    × ((steps later : List (OrthogonalStep A)) → orthogonal_run p is_zero s (steps ++ later) ≡ orthogonal_run p is_zero (orthogonal_run p is_zero s steps) later))
    × ((zero : A) (values : Square A) (steps : List (OrthogonalStep A)) (t : ℕ)
    → orthogonal_after p is_zero zero values steps t ≡ orthogonal_run p is_zero (orthogonal_start p zero values) (take t steps))

-- ---- Gaussian steps

-- A state of the free elimination and one of orthogonal steps say the same in columns 1 to n: k is the same, and so are the rows, but below the diagonal in columns before k, where the
-- free elimination keeps its multipliers: there each multiplier is the vector's number, or both are zero. The upper factor is the square's.
pub record SameElimination {ℓ} {A : Type ℓ} (p : Pattern) (is_zero : A → Bool) (f : FreeState A) (o : OrthogonalState A) : Type ℓ where
  pub same_k : o.k ≡ f.k
  pub rows : (i j : ℕ) → (1 ≤ j) × (j ≤ p.n) → (i ≤ j) ⊎ (o.k ≤ j) → o.rows i j ≡ f.square i j
  pub vectors :
      (i l : ℕ) → (1 ≤ l) × (l < o.k) × (l < i)
      → (o.vectors i l ≡ f.square i l) ⊎ ((is_zero (o.vectors i l) ≡ true) × (is_zero (f.square i l) ≡ true))
  pub factor : (l j : ℕ) → (1 ≤ l) × (l < o.k) × (l ≤ j) × (j ≤ p.n) → o.factor l j ≡ f.square l j

-- Gaussian steps are orthogonal steps, those without an exchange and, since rows k and p are both among the rows that are replaced, those with one: for every pattern, any numbers and
-- every list of steps of the free elimination, refused ones included, there is one list of orthogonal steps that goes the same way: for every t, the first t steps of the free elimination
-- come to the same as some first t' of these (fewer, where steps among them are refused).
unfoldable pub GaussianSteps : Type 1
GaussianSteps =
    (p : Pattern) (A : Type 0) (is_zero : A → Bool) (zero : A)
    → is_zero zero ≡ true
    → (values : Square A) (steps : List (FreeStep A))
    → (orthogonal : List (OrthogonalStep A))
    × ((t : ℕ) → (t' : ℕ) × SameElimination p is_zero (free_after p is_zero zero values steps t) (orthogonal_after p is_zero zero values orthogonal t'))
