-- The claims about every elimination, free or float, about the slots, the rows met and the program's room: each one proposition that can be read alone.
-- Those about offsets in degrees, minutes and seconds stand in Claims/Offsets, those about the tally in Claims/Tallies, those about test loads in Claims/Loads,
-- those about planning after each of the report's parts 2.1 to 2.5 in Claims/PlanParts, those about orthogonal steps in Claims/Orthogonal.
-- "A pattern that can be planned" is one that passes 1 to 5, and so 25: its `pattern_fault` is 0, whatever the largest n. Where a claim speaks of the square, a pattern
-- with more rows than n has the full rectangle of its rows and n columns in its place (document 02, ticket 9).
pub mod Offsets
pub mod Tallies
pub mod Loads
pub mod PlanParts
pub mod Orthogonal
use Rattle.std.specs.Prelude.{Bool, true, false, cond, List, ◌++◌, map, ◌↔◌, ◌≡◌, ℕ, ◌+◌, ◌-◌, ◌*◌, ◌≤◌, ◌<◌, eqb, ltb, Float, length, get_or, take, drop}
use Rattle.std.specs.Float.Ieee.{lt, le}
use Rattle.lists.specs.Functions.{keep, empty, chain, padded}
use Rattle.lists.specs.Sets.{upto}
use Rattle.foundation.specs.Answer.{Answer, refused, granted, and_then}
use Rattle.foundation.specs.Pattern.{Lent, Pattern, present, row_of, pattern_of, pattern_fault, judged}
use Rattle.foundation.specs.Plan.{Planning, Side, plan, lower, upper}
use Rattle.foundation.specs.Subscripts.{kept, room_fault}
use Rattle.foundation.specs.Slots.{Slot, none, on_diagonal, in_side, has_slot, slot_at, slots_of}
use Rattle.foundation.specs.Numbers.{plus_zero, finite, magnitude, least_pivot, may_pivot}
use Rattle.foundation.specs.Square.{Square}
use Rattle.foundation.specs.Reference.{Choice, largest, listed, Extent, whole, cut, steps_of, pivot_row, noPivot, Going, Course, going, stopped, number_of, reference}
use Rattle.foundation.specs.Shown.{shown, shown_diagonal, laid}
use Rattle.foundation.specs.Free.{FreeStep, FreeState, free_start, free_run, free_after}
use Rattle.foundation.specs.PlanCall.{SideStores, PlanStores, LentPlan, WorkSizes, work_fits, sizes_fit, agrees, counts_of, planned, plan_leaves, held}
use Rattle.foundation.specs.RunCall.{Lending, lending_fits, all_finite, choice_fits, order_fits, may_run, value_at, right_at, Ran, ran_with, ran, legal, run_answer, run_leaves}
use Rattle.foundation.specs.Job.{Job}
use Rattle.foundation.specs.Printing.{job_run, printed}

-- Demand 3, first half, "one claim about the whole list of steps, the empty list included": for every pattern that can be planned, every set of
-- numbers at its places (of any kind A, of which only whether one is zero counts), and every list of steps of the free elimination, refused steps
-- included: after the first t of them, for every t, each nonzero of the square stands in one of the plan's slots, and what then stands before column k,
-- multipliers among it, stands there after the first t' steps too, for every t' from t on. Any pivot that is not zero will do: the limit of Ticket 14 is one of runs alone, whose
-- steps are among these.
unfoldable pub FirstHalf : Type 1
FirstHalf =
    (most : ℕ) (p : Lent)
    → pattern_fault most p ≡ 0
    → (A : Type 0) (is_zero : A → Bool) (zero : A)
    → is_zero zero ≡ true
    → (values : Square A) (steps : List (FreeStep A)) (t i j : ℕ)
    → (is_zero ((free_after (pattern_of p) is_zero zero values steps t).square i j) ≡ false
    → (1 ≤ i) × (i ≤ p.height) × (1 ≤ j) × (j ≤ p.n) × (has_slot (plan (pattern_of p)) i j ≡ true))
    × ((t' : ℕ)
    → t ≤ t'
    → j < (free_after (pattern_of p) is_zero zero values steps t).k
    → (free_after (pattern_of p) is_zero zero values steps t').square i j ≡ (free_after (pattern_of p) is_zero zero values steps t).square i j)

-- "Each step gets the square and the k that the last one left; nothing else writes them": the run of a list and what follows it is the run of what
-- follows from where the list came.
unfoldable pub RunsOn : Type 1
RunsOn =
    (p : Pattern) (A : Type 0) (is_zero : A → Bool) (s : FreeState A) (steps later : List (FreeStep A))
    → free_run p is_zero s (steps ++ later) ≡ free_run p is_zero (free_run p is_zero s steps) later

-- The first part of `FirstHalf` alone: for every pattern that can be planned, every set of numbers at its places (of any kind A, of which only whether one
-- is zero counts) and every list of steps of the free elimination, refused steps included, at the start and after every step, that is after
-- the first t of them for every t, each nonzero of the square stands in one of the plan's slots.
unfoldable pub SlotsSuffice : Type 1
SlotsSuffice =
    (most : ℕ) (p : Lent)
    → pattern_fault most p ≡ 0
    → (A : Type 0) (is_zero : A → Bool) (zero : A)
    → is_zero zero ≡ true
    → (values : Square A) (steps : List (FreeStep A)) (t i j : ℕ)
    → is_zero ((free_run (pattern_of p) is_zero (free_start (pattern_of p) zero values) (take t steps)).square i j) ≡ false
    → (1 ≤ i) × (i ≤ p.height) × (1 ≤ j) × (j ≤ p.n) × (has_slot (plan (pattern_of p)) i j ≡ true)

-- The second part of `FirstHalf`, "earlier multipliers staying where they were written", from any state: whatever steps follow, refused or taken, columns before
-- k stay.
unfoldable pub MultipliersStay : Type 1
MultipliersStay =
    (p : Pattern) (A : Type 0) (is_zero : A → Bool) (s : FreeState A) (steps : List (FreeStep A)) (i j : ℕ)
    → j < s.k
    → (free_run p is_zero s steps).square i j ≡ s.square i j

-- The reference stays in the slots: for every pattern that can be planned, all values and right sides, either choice of rows, and a run
-- whole or cut after any number of steps that does not stop, each place of the square without a slot holds +0, the bits.
unfoldable pub ZeroOutside : Type 0
ZeroOutside =
    (most : ℕ) (p : Lent)
    → pattern_fault most p ≡ 0
    → (choice : Choice) (extent : Extent)
    → order_fits (pattern_of p) choice extent ≡ true
    → (values : Square Float) (right : ℕ → Float) (g : Going)
    → reference choice extent (pattern_of p) values right ≡ going g
    → (i j : ℕ)
    → has_slot (plan (pattern_of p)) i j ≡ false
    → g.square i j ≡ plus_zero

-- Hence the square is determined by its slots: what the slots show, laid back into a square, is the square.
unfoldable pub LaidBack : Type 0
LaidBack =
    (most : ℕ) (p : Lent)
    → pattern_fault most p ≡ 0
    → (choice : Choice) (extent : Extent)
    → order_fits (pattern_of p) choice extent ≡ true
    → (values : Square Float) (right : ℕ → Float) (g : Going)
    → reference choice extent (pattern_of p) values right ≡ going g
    → (i j : ℕ)
    → (1 ≤ i) × (i ≤ p.height) × (1 ≤ j) × (j ≤ p.n)
    → laid (plan (pattern_of p)) (shown (plan (pattern_of p)) lower p.n g.square) (shown (plan (pattern_of p)) upper p.n g.square) (shown_diagonal p.n g.square) i j
    ≡ g.square i j

-- Each place of the square that has a slot has one of its own: a place has a slot exactly where `slot_at` is some slot, and two places of the square
-- never have the same.
unfoldable pub OwnSlots : Type 0
OwnSlots =
    (s : Planning) (i j : ℕ)
    → ((has_slot s i j ≡ true) ↔ (slot_at s i j ≡ none → ⊥))
    × ((i' j' : ℕ)
    → (1 ≤ i) × (1 ≤ j) × (1 ≤ i') × (1 ≤ j')
    → has_slot s i j ≡ true
    → slot_at s i j ≡ slot_at s i' j'
    → (i ≡ i') × (j ≡ j'))

-- whether a slot is one of the diagonal's n, or of those planned for its side
unfoldable pub slot_within : Planning → ℕ → Slot → Bool
slot_within s n none = false
slot_within s n (on_diagonal q) = ltb q n
slot_within s n (in_side side q) = ltb q (slots_of s side n)

-- The slot of a place lies within them, whatever rows there are: no slot beyond those that 10 asks room for.
unfoldable pub SlotsWithin : Type 0
SlotsWithin =
    (s : Planning) (n i j : ℕ)
    → (1 ≤ i) × (1 ≤ j) × (j ≤ n)
    → has_slot s i j ≡ true
    → slot_within s n (slot_at s i j) ≡ true

-- Each row is met exactly once, and an empty one, which only rows above n can be, never: in the lists of rows first met at steps 1 to n, one behind the other,
-- row i stands once or not at all.
unfoldable pub MetOnce : Type 0
MetOnce =
    (most : ℕ) (p : Lent)
    → pattern_fault most p ≡ 0
    → (i : ℕ)
    → (1 ≤ i) × (i ≤ p.height)
    → length (keep (eqb i) (chain (plan (pattern_of p)).first_met (upto p.n))) ≡ cond (empty (row_of p i)) 0 1

-- What the program lends always fits but for its room: a job's run is never refused with 6, and 7, 8 and 10 are those of 2,048 subscripts and 2,048 slots
-- a side.
unfoldable pub JobRoom : Type 0
JobRoom =
    (job : Job)
    → job_run job
    ≡ and_then
    (and_then (judged 128 job.pattern) (λ pattern. room_fault (plan pattern) 2048 2048 1 job.pattern.n))
    (ran_with job.pattern job.choice whole
    (record {
      values = job.values;
      right = job.right;
      solution = job.pattern.n;
      pivots = job.pattern.n;
      diagonal = job.pattern.n;
      lower_slots = 2048;
      upper_slots = 2048;
    }))

-- 8,192 bytes are room for every answer: whatever bytes the program reads, a job or not, it prints no more.
unfoldable pub AnswerRoom : Type 0
AnswerRoom = (job : List ℕ) → length (printed job) ≤ 8192

-- ---- demand 3, second half: the run in the slots and the full square's

-- The full square came to its end, g, and so did the run: the answer is finished with the square's updates; at every place (i, j) of the square
-- the result stores read its number, bits and all, which is +0 where there is no slot; the solution store has its right side (whole: the
-- solution); the pivot rows are its own, and 0 after the last step done.
pub record RunAlike (p : Lent) (w : Lending) (g : Going) (answer : Answer Ran) : Type 0 where
  pub finished : run_answer answer ≡ granted g.updates
  pub places :
      (i j : ℕ) → (1 ≤ i) × (i ≤ p.height) × (1 ≤ j) × (j ≤ p.n)
      → laid (plan (pattern_of p)) (run_leaves p w answer).lower_slots (run_leaves p w answer).upper_slots (run_leaves p w answer).diagonal i j ≡ g.square i j
  pub outside : (i j : ℕ) → has_slot (plan (pattern_of p)) i j ≡ false → g.square i j ≡ plus_zero
  pub solution : (run_leaves p w answer).solution ≡ map g.right (upto p.height)
  pub pivots : (run_leaves p w answer).pivots ≡ padded 0 p.n g.pivots

-- Either the full square comes to its end and the run is alike, or it stops and the run is refused with the same number, 13 or 14, at the same step.
unfoldable pub RunIs : Lent → Lending → Course → Answer Ran → Type 0
RunIs p w (going g) answer = RunAlike p w g answer
RunIs p w (stopped reason k) answer = run_answer answer ≡ refused (number_of reason) k

-- Demand 3, second half: for every pattern that passes 1 to 5, with its plan lent in stores of the right lengths (6, 9), values and right side as
-- many as they should be and stores that have room for the planned slots (10), all finite (11), either choice of rows and every list and extent that
-- 12 lets pass, a whole one only of a square (26), the run is what the full square's is. No such run is refused for storage.
unfoldable pub RunsAlike : Type 0
RunsAlike =
    (most : ℕ) (p : Lent) (q : LentPlan) (work : WorkSizes) (choice : Choice) (extent : Extent) (w : Lending)
    → pattern_fault most p ≡ 0
    → sizes_fit p q.stores work ≡ true
    → may_run p extent ≡ true
    → agrees p (plan (pattern_of p)) q ≡ true
    → lending_fits p (plan (pattern_of p)) w ≡ true
    → all_finite w ≡ true
    → order_fits (pattern_of p) choice extent ≡ true
    → RunIs p w (reference choice extent (pattern_of p) (value_at p w.values) (right_at w.right)) (ran most p q work choice extent w)

-- Document 01: "pivot rows are p_k up to the last step done": with a given list, the square's pivot rows are the list's first ones.
unfoldable pub ListedPivots : Type 0
ListedPivots =
    (p : Pattern) (rows : List ℕ) (extent : Extent)
    → order_fits p (listed rows) extent ≡ true
    → (values : Square Float) (right : ℕ → Float) (g : Going)
    → reference (listed rows) extent p values right ≡ going g
    → g.pivots ≡ take (steps_of extent p.n) rows

-- "up to the last step done": by either choice there is a pivot row for each step done, and no other.
unfoldable pub PivotsCounted : Type 0
PivotsCounted =
    (p : Pattern) (choice : Choice) (extent : Extent) (values : Square Float) (right : ℕ → Float) (g : Going)
    → reference choice extent p values right ≡ going g
    → length g.pivots ≡ steps_of extent p.n

-- What planning leaves in its stores, lent with the counts that it answered, is this pattern's plan: 9 never meets a plan just made.
unfoldable pub PlanAccepted : Type 0
PlanAccepted =
    (most : ℕ) (p : Lent) (stores : PlanStores) (work later : WorkSizes) (s : Planning)
    → planned most p stores work ≡ granted s
    → work_fits p later ≡ true
    → held most p (record { counts = counts_of p s; stores = plan_leaves p (granted s) stores }) later ≡ granted s

-- Twice as many subscripts, or slots, of a side as are always enough: n(n-1)/2, and for L n more for each row above n.
unfoldable pub twice_enough : Lent → Side → ℕ
twice_enough p lower = p.n * (p.n - 1) + 2 * (p.n * (p.height - p.n))
twice_enough p upper = p.n * (p.n - 1)

-- Who lends that many subscripts never sees 7 or 8.
unfoldable pub RoomEnough : Type 0
RoomEnough =
    (most : ℕ) (p : Lent) (stores : PlanStores) (work : WorkSizes)
    → pattern_fault most p ≡ 0
    → sizes_fit p stores work ≡ true
    → twice_enough p lower ≤ 2 * length stores.lower_side.subs
    → twice_enough p upper ≤ 2 * length stores.upper_side.subs
    → planned most p stores work ≡ granted (plan (pattern_of p))

-- and no plan has more slots.
unfoldable pub SlotsEnough : Type 0
SlotsEnough = (most : ℕ) (p : Lent) → pattern_fault most p ≡ 0 → (side : Side) → 2 * slots_of (plan (pattern_of p)) side p.n ≤ twice_enough p side

-- Demand 3, second half, from the pattern to the run: for every pattern that passes 1 to 5, "all finite values and right sides, every list naming for
-- each step k one of the rows k to n (ticket 9: "to the row count, its whole runs are those of squares"), and a run whole or cut after any number of
-- steps, the run in the slots and the full square's are alike", and "No such run is ever refused for storage". What a caller answers for is said in n, the
-- row count, entries and lengths alone: the lengths of 6 in both calls, room enough for subscripts and slots a side, the other lengths of 10, then 26, 11 and 12. Planning then grants the pattern's plan, so neither 7 nor
-- 8; and the run on the plan just made comes to the full square's end alike, or stops where it stops with 13 or 14.
unfoldable pub PlannedRunsAlike : Type 0
PlannedRunsAlike =
    (most : ℕ) (p : Lent) (stores : PlanStores) (work later : WorkSizes) (choice : Choice) (extent : Extent) (w : Lending)
    → pattern_fault most p ≡ 0
    → (sizes_fit p stores work ≡ true) × (work_fits p later ≡ true)
    → (twice_enough p lower ≤ 2 * length stores.lower_side.subs) × (twice_enough p upper ≤ 2 * length stores.upper_side.subs)
    → (twice_enough p lower ≤ 2 * w.lower_slots) × (twice_enough p upper ≤ 2 * w.upper_slots)
    → (length w.values ≡ length p.columns) × (length w.right ≡ p.height) × (w.solution ≡ p.height) × (w.pivots ≡ p.n) × (w.diagonal ≡ p.n)
    → may_run p extent ≡ true
    → (all_finite w ≡ true) × (order_fits (pattern_of p) choice extent ≡ true)
    → (planned most p stores work ≡ granted (plan (pattern_of p)))
    × RunIs p w
    (reference choice extent (pattern_of p) (value_at p w.values) (right_at w.right))
    (ran most p (record { counts = counts_of p (plan (pattern_of p)); stores = plan_leaves p (planned most p stores work) stores }) later choice extent w)

-- ---- the pivot row of a step

-- Document 01, "Elimination": r is "the row from k to n with the largest magnitude in column k, the lowest row number if equal", `last` being n, by document 02's ticket 9 the row count: it lies
-- there and its entry may serve, no entry there has a larger magnitude, and each before it has a smaller one. Document 02, Ticket 14: "choice among rows
-- passes over the rest, and 13 is given where none is left": r is 0 just where no entry there may serve.
pub record LargestFrom (k last : ℕ) (entry : ℕ → Float) (r : ℕ) : Type 0 where
  pub without : (r ≡ 0) ↔ ((i : ℕ) → (k ≤ i) × (i ≤ last) → may_pivot (entry i) ≡ false)
  pub found : 1 ≤ r → (k ≤ r) × (r ≤ last) × (may_pivot (entry r) ≡ true)
  pub greatest : 1 ≤ r → (i : ℕ) → (k ≤ i) × (i ≤ last) → lt (magnitude (entry r)) (magnitude (entry i)) ≡ false
  pub lowest : 1 ≤ r → (i : ℕ) → (k ≤ i) × (i < r) → lt (magnitude (entry i)) (magnitude (entry r)) ≡ true

-- The row of a step by the largest entry is that row, in every column whose entries are finite.
unfoldable pub LargestRow : Type 0
LargestRow =
    (last k : ℕ) (entry : ℕ → Float)
    → 1 ≤ k
    → ((i : ℕ) → (k ≤ i) × (i ≤ last) → finite (entry i) ≡ true)
    → LargestFrom k last entry (pivot_row largest last k entry)

-- "or row p_k of a given list": the row of a step by a list is p_k if its entry may serve, else there is none (13).
unfoldable pub ListedRow : Type 0
ListedRow =
    (rows : List ℕ) (last k : ℕ) (entry : ℕ → Float)
    → 1 ≤ k
    → (may_pivot (entry (get_or rows (k - 1) 0)) ≡ true → pivot_row (listed rows) last k entry ≡ get_or rows (k - 1) 0)
    × (may_pivot (entry (get_or rows (k - 1) 0)) ≡ false → pivot_row (listed rows) last k entry ≡ 0)

-- ---- the plan's stores

-- A side of a plan of n steps opens in its stores. Document 01, "Shared subscripts": "Value slots run list after list without sharing": the first slot is 0, and the
-- slots of step k begin where those of k-1 end, as many as the kept list of k has subscripts. "Each side has its own subscript store": the part of it from the start of
-- k on, as long as k has slots, lies in the store and is the kept list of k. "places in stores from 0": the start of k stands at place k-1, as does that of its slots.
pub record SideOpens (s : Planning) (side : Side) (n : ℕ) (q : SideStores) : Type 0 where
  pub first : get_or q.slot_starts 0 0 ≡ 0
  pub slots : (k : ℕ) → (1 ≤ k) × (k ≤ n) → get_or q.slot_starts k 0 ≡ get_or q.slot_starts (k - 1) 0 + length (kept s side k)
  pub inside : (k : ℕ) → (1 ≤ k) × (k ≤ n) → get_or q.starts (k - 1) 0 + length (kept s side k) ≤ length q.subs
  pub opens :
      (k : ℕ) → (1 ≤ k) × (k ≤ n)
      → take (get_or q.slot_starts k 0 - get_or q.slot_starts (k - 1) 0) (drop (get_or q.starts (k - 1) 0) q.subs) ≡ kept s side k

-- For every pattern, limit, stores and work for which planning grants a plan, the stores that it leaves, filled up with zeros as they are, open on either side to the
-- plan's kept lists.
unfoldable pub StoresOpen : Type 0
StoresOpen =
    (most : ℕ) (p : Lent) (stores : PlanStores) (work : WorkSizes) (s : Planning)
    → planned most p stores work ≡ granted s
    → SideOpens s lower p.n (plan_leaves p (planned most p stores work) stores).lower_side
    × SideOpens s upper p.n (plan_leaves p (planned most p stores work) stores).upper_side

-- ---- a run of finite numbers

-- What 11 lets pass: each value of the pattern's places and each row's right side is finite.
unfoldable pub FiniteGiven : Pattern → Square Float → (ℕ → Float) → Type 0
FiniteGiven p values right =
    ((i j : ℕ) → present p i j ≡ true → finite (values i j) ≡ true)
    × ((i : ℕ) → (1 ≤ i) × (i ≤ p.height) → finite (right i) ≡ true)

-- A reference that goes on is finite throughout. Table, 14: it stops where "a quotient, product or difference is not finite"; so for every pattern, finite values and
-- right sides, every choice of rows and every extent that 12 lets pass, a run whole or cut after any number of steps that does not stop has a finite number at every
-- place of the square and of the right side (whole: the solution).
unfoldable pub FiniteThroughout : Type 0
FiniteThroughout =
    (p : Pattern) (choice : Choice) (extent : Extent)
    → order_fits p choice extent ≡ true
    → (values : Square Float) (right : ℕ → Float)
    → FiniteGiven p values right
    → (g : Going)
    → reference choice extent p values right ≡ going g
    → ((i j : ℕ) → (1 ≤ i) × (i ≤ p.height) × (1 ≤ j) × (j ≤ p.n) → finite (g.square i j) ≡ true)
    × ((i : ℕ) → (1 ≤ i) × (i ≤ p.height) → finite (g.right i) ≡ true)

-- Document 01, "Elimination": "At step k the pivot row is the row from k to n with the largest magnitude in column k, the lowest row number if equal", at every step of
-- a run, the rows going to `height`, in document 01 n. For every pattern, finite values and right sides and a run by the largest entry, whole or cut, and each of its
-- steps k: where the run goes on, it went on after k-1 steps, and p_k is that row in column k of the square that those steps left. Document 02, Ticket 14, "13 is given
-- where none is left": a run that came to step k stops there with 13 just where no row from k on has an entry in that column that may serve.
unfoldable pub LargestAtEveryStep : Type 0
LargestAtEveryStep =
    (p : Pattern) (extent : Extent)
    → order_fits p largest extent ≡ true
    → (values : Square Float) (right : ℕ → Float)
    → FiniteGiven p values right
    → (k : ℕ)
    → (1 ≤ k) × (k ≤ steps_of extent p.n)
    → ((g : Going)
    → reference largest extent p values right ≡ going g
    → (before : Going)
    × (reference largest (cut (k - 1)) p values right ≡ going before)
    × (1 ≤ get_or g.pivots (k - 1) 0)
    × LargestFrom k p.height (λ i. before.square i k) (get_or g.pivots (k - 1) 0))
    × ((before : Going)
    → reference largest (cut (k - 1)) p values right ≡ going before
    → (reference largest extent p values right ≡ stopped noPivot k)
    ↔ ((i : ℕ) → (k ≤ i) × (i ≤ p.height) → may_pivot (before.square i k) ≡ false))

-- ---- the limit of a pivot, written out, so that these can be read without `may_pivot`

-- Document 02, Ticket 14: "A pivot must have magnitude at least 2 to the power -1022". For every pattern, all values and right sides, either choice of rows and every
-- list and extent that 12 lets pass: a run whole or cut that goes on has at place (k, k), for each of its steps k, the number that row p_k had in column k before that
-- step, which is the step's pivot; and its magnitude is at least 2 to the power -1022.
unfoldable pub PivotsReach : Type 0
PivotsReach =
    (p : Pattern) (choice : Choice) (extent : Extent) (order : order_fits p choice extent ≡ true) (values : Square Float) (right : ℕ → Float) (g : Going)
    → reference choice extent p values right ≡ going g
    → (k : ℕ) (range : (1 ≤ k) × (k ≤ steps_of extent p.n))
    → (before : Going)
    × (reference choice (cut (k - 1)) p values right ≡ going before)
    × (g.square k k ≡ before.square (get_or g.pivots (k - 1) 0) k)
    × (le least_pivot (magnitude (g.square k k)) ≡ true)

-- "13 is given where none is left or the listed row is fainter". Where none is left: `LargestAtEveryStep`. By a list: for every pattern, all values and right sides and every
-- list and extent that 12 lets pass, a run that came to step k stops there with 13 just where the entry of row p_k in column k of the square that the steps before left does not
-- reach 2 to the power -1022.
unfoldable pub ListedStops : Type 0
ListedStops =
    (p : Pattern) (rows : List ℕ) (extent : Extent) (order : order_fits p (listed rows) extent ≡ true) (values : Square Float) (right : ℕ → Float)
    → (k : ℕ) (before : Going) (range : (1 ≤ k) × (k ≤ steps_of extent p.n))
    → reference (listed rows) (cut (k - 1)) p values right ≡ going before
    → (reference (listed rows) extent p values right ≡ stopped noPivot k)
    ↔ (le least_pivot (magnitude (before.square (get_or rows (k - 1) 0) k)) ≡ false)

-- "Legal row lists are those whose pivots meet this limit": of the lists that 12 lets pass, those with which, at each step k that the reference comes to, the entry of row p_k in
-- column k meets it.
unfoldable pub LegalLists : Type 0
LegalLists =
    (p : Lent) (w : Lending) (rows : List ℕ)
    → (legal p w rows ≡ true)
    ↔ ((choice_fits (pattern_of p) (listed rows) ≡ true)
    × ((k : ℕ)
    → (1 ≤ k) × (k ≤ p.n)
    → (before : Going)
    → reference (listed rows) (cut (k - 1)) (pattern_of p) (value_at p w.values) (right_at w.right) ≡ going before
    → le least_pivot (magnitude (before.square (get_or rows (k - 1) 0) k)) ≡ true))
