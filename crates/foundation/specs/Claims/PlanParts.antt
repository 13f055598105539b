-- The claims about planning in the report's step order (document 02, Ticket 4: "state what the lists, the met rows and the sets S hold after each of them at every k"): for every
-- pattern that can be planned and every k from 1 to n, one claim for each of the parts 2.1 to 2.5 of step k, and one for the reads. Each can be read alone, with the few words that
-- stand first here.
use Rattle.std.specs.Prelude.{true, false, [], ◌↔◌, ◌⊎◌, ◌≡◌, ℕ, suc, ◌+◌, ◌-◌, ◌≤◌, ◌<◌, length}
use Rattle.lists.specs.Functions.{total}
use Rattle.lists.specs.Sets.{member, Ascending, Falling, least_above}
use Rattle.foundation.specs.Pattern.{Lent, row_of, column, pattern_of, pattern_fault}
use Rattle.foundation.specs.Plan.{Planning, InStep, influenced, after, after_initialization, after_rows, after_test, after_steps, plan}

-- ---- what planning knows, in the words of the pattern and of its plan

-- Row i has its first entry in column k: one there and none before.
unfoldable pub FirstEntry : Lent → ℕ → ℕ → Type 0
FirstEntry p k i = (1 ≤ i) × (i ≤ p.height) × (member k (row_of p i) ≡ true) × ((j : ℕ) → j < k → member j (row_of p i) ≡ false)

-- The met rows are those with an entry in some column up to m; and those that were met first at a step, one of the steps 1 to m, are those with their first entry in its column.
unfoldable pub RowsMet : Lent → Planning → ℕ → Type 0
RowsMet p s m =
    ((i : ℕ) → (s.met i ≡ true) ↔ ((1 ≤ i) × (i ≤ p.height) × ((j : ℕ) × (j ≤ m) × (member j (row_of p i) ≡ true))))
    × ((l i : ℕ) → (member i (s.first_met l) ≡ true) ↔ ((1 ≤ l) × (l ≤ m) × FirstEntry p l i))

-- Step l is in S_r just where it is one of the steps 1 to m, L_l has more than one member and r is the least member of U_l above l, so that S_0 is empty (document 02, ticket 9: "step k
-- joins no S if U_k has no further member"); and no set has a step twice, since each has the newest first.
unfoldable pub SetsJoined : Lent → Planning → ℕ → Type 0
SetsJoined p s m =
    ((l r : ℕ) → (member l (s.S r) ≡ true)
    ↔ ((1 ≤ r) × (1 ≤ l) × (l ≤ m) × (1 < length ((plan (pattern_of p)).L l)) × (least_above l ((plan (pattern_of p)).U l) ≡ r)))
    × ((r : ℕ) → Falling (suc m) (s.S r))

-- The lists of the steps up to m are those of the plan, those of the steps after m are empty.
unfoldable pub ListsMade : Lent → Planning → ℕ → Type 0
ListsMade p s m =
    ((l : ℕ) → l ≤ m → (s.L l ≡ (plan (pattern_of p)).L l) × (s.U l ≡ (plan (pattern_of p)).U l))
    × ((l : ℕ) → m < l → (s.L l ≡ []) × (s.U l ≡ []))

-- L_k and U_k ascend strictly, with no member below k.
unfoldable pub ListsAscend : ℕ → InStep → Type 0
ListsAscend k t = Ascending k t.Lk × Ascending k t.Uk

-- L_k has the rows with their first entry in column k, and U_k the columns of these rows.
unfoldable pub ListsOfRows : Lent → ℕ → InStep → Type 0
ListsOfRows p k t =
    ((i : ℕ) → (member i t.Lk ≡ true) ↔ FirstEntry p k i)
    × ((j : ℕ) → (member j t.Uk ≡ true) ↔ ((i : ℕ) × FirstEntry p k i × (member j (row_of p i) ≡ true)))

-- ---- after each part of step k

-- Report, 2.1: "Local initialization: Set L_k = ∅ and U_k = ∅." Nothing else has changed since step k-1.
unfoldable pub LocalInitialization : Type 0
LocalInitialization =
    (most : ℕ) (p : Lent) → pattern_fault most p ≡ 0
    → (k : ℕ) → (1 ≤ k) × (k ≤ p.n) → ((after_initialization (pattern_of p) k).Lk ≡ [])
    × ((after_initialization (pattern_of p) k).Uk ≡ [])
    × ((after_initialization (pattern_of p) k).known ≡ after (pattern_of p) (k - 1))
    × RowsMet p (after_initialization (pattern_of p) k).known (k - 1)
    × SetsJoined p (after_initialization (pattern_of p) k).known (k - 1)
    × ListsMade p (after_initialization (pattern_of p) k).known (k - 1)

-- Report, 2.2: "Obtain structures of those unprocessed rows": L_k has the rows that are met now, U_k their columns, and the met rows are one column further; sets and
-- earlier lists are as they were.
unfoldable pub RowsObtained : Type 0
RowsObtained =
    (most : ℕ) (p : Lent) → pattern_fault most p ≡ 0
    → (k : ℕ) → (1 ≤ k) × (k ≤ p.n) → ListsOfRows p k (after_rows (pattern_of p) k)
    × ListsAscend k (after_rows (pattern_of p) k)
    × RowsMet p (after_rows (pattern_of p) k).known k
    × SetsJoined p (after_rows (pattern_of p) k).known (k - 1)
    × ListsMade p (after_rows (pattern_of p) k).known (k - 1)

-- Report, 2.3: "If S_k = ∅, then go to Step (2.5). (Step k is not influenced by any previous steps.)" All is as after 2.2. `influenced` is false just where S_k is empty, and that is where no
-- step before k has more than one member in its L and k as the least further member of its U; then 2.4 is passed over.
unfoldable pub StepsTested : Type 0
StepsTested =
    (most : ℕ) (p : Lent) → pattern_fault most p ≡ 0
    → (k : ℕ) → (1 ≤ k) × (k ≤ p.n) → ListsOfRows p k (after_test (pattern_of p) k)
    × ListsAscend k (after_test (pattern_of p) k)
    × RowsMet p (after_test (pattern_of p) k).known k
    × SetsJoined p (after_test (pattern_of p) k).known (k - 1)
    × ListsMade p (after_test (pattern_of p) k).known (k - 1)
    × ((influenced k (after_test (pattern_of p) k) ≡ false) ↔ ((after_test (pattern_of p) k).known.S k ≡ []))
    × ((influenced k (after_test (pattern_of p) k) ≡ false)
    ↔ ((l : ℕ) → 1 ≤ l → l < k → 1 < length ((plan (pattern_of p)).L l) → least_above l ((plan (pattern_of p)).U l) ≡ k → ⊥))
    × (influenced k (after_test (pattern_of p) k) ≡ false → after_steps (pattern_of p) k ≡ after_test (pattern_of p) k)

-- Report, 2.4: "collect influence caused by step i": a member of L_k is one of 2.2's, or it is k or more and in L_l of a step l in S_k; likewise U_k. Both are now the plan's. Met rows,
-- sets and earlier lists are as they were.
unfoldable pub InfluenceCollected : Type 0
InfluenceCollected =
    (most : ℕ) (p : Lent) → pattern_fault most p ≡ 0
    → (k : ℕ) → (1 ≤ k) × (k ≤ p.n) → ((i : ℕ) → (member i (after_steps (pattern_of p) k).Lk ≡ true)
    ↔ (FirstEntry p k i
    ⊎ ((l : ℕ) × (member l ((after_steps (pattern_of p) k).known.S k) ≡ true) × (member i ((plan (pattern_of p)).L l) ≡ true) × (k ≤ i))))
    × ((j : ℕ) → (member j (after_steps (pattern_of p) k).Uk ≡ true)
    ↔ (((i : ℕ) × FirstEntry p k i × (member j (row_of p i) ≡ true))
    ⊎ ((l : ℕ) × (member l ((after_steps (pattern_of p) k).known.S k) ≡ true) × (member j ((plan (pattern_of p)).U l) ≡ true) × (k ≤ j))))
    × ((after_steps (pattern_of p) k).Lk ≡ (plan (pattern_of p)).L k)
    × ((after_steps (pattern_of p) k).Uk ≡ (plan (pattern_of p)).U k)
    × ListsAscend k (after_steps (pattern_of p) k)
    × RowsMet p (after_steps (pattern_of p) k).known k
    × SetsJoined p (after_steps (pattern_of p) k).known (k - 1)
    × ListsMade p (after_steps (pattern_of p) k).known (k - 1)

-- Report, 2.5: "Update S: (..) set S_ρ = S_ρ ∪ {k} if |L_k| > 1." Step k is now among those that are in a set where they should be, and its lists stand with the others. After this
-- part of step n it is the plan.
unfoldable pub SetsUpdated : Type 0
SetsUpdated =
    (most : ℕ) (p : Lent) → pattern_fault most p ≡ 0
    → (k : ℕ) → (1 ≤ k) × (k ≤ p.n) → RowsMet p (after (pattern_of p) k) k
    × SetsJoined p (after (pattern_of p) k) k
    × ListsMade p (after (pattern_of p) k) k

-- ---- the reads

-- Document 01: "each C_k once, each R_i once, and L_l and U_l once for each l taken from an S": 2.2 reads C_k and the R_i of the rows that it puts into L_k, 2.4 the L_l and U_l of the
-- steps in S_k, no other part reads anything.
unfoldable pub ReadsOfParts : Type 0
ReadsOfParts =
    (most : ℕ) (p : Lent) → pattern_fault most p ≡ 0
    → (k : ℕ) → (1 ≤ k) × (k ≤ p.n) → ((after_initialization (pattern_of p) k).known.reads ≡ (after (pattern_of p) (k - 1)).reads)
    × ((after_rows (pattern_of p) k).known.reads
    ≡ (after_initialization (pattern_of p) k).known.reads
    + (length (column (pattern_of p) k) + total (λ i. length (row_of p i)) (after_rows (pattern_of p) k).Lk))
    × ((after_test (pattern_of p) k).known.reads ≡ (after_rows (pattern_of p) k).known.reads)
    × ((after_steps (pattern_of p) k).known.reads
    ≡ (after_test (pattern_of p) k).known.reads
    + total (λ l. length ((plan (pattern_of p)).L l) + length ((plan (pattern_of p)).U l)) ((after_test (pattern_of p) k).known.S k))
    × ((after (pattern_of p) k).reads ≡ (after_steps (pattern_of p) k).known.reads)
