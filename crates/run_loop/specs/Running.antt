-- What the steps of a run, one after the other, and a whole run take for granted, and what they leave.
use Rattle.std.specs.Prelude.{true, List, [], map, ◌≡◌, ℕ, suc, ◌+◌, ◌≤◌, Float, length, replicate}
use Rattle.lists.specs.Functions.{all, padded}
use Rattle.lists.specs.Sets.{upto}
use Rattle.foundation.specs.Numbers.{finite}
use Rattle.foundation.specs.Pattern.{Lent, Pattern, pattern_of}
use Rattle.foundation.specs.Plan.{Planning}
use Rattle.foundation.specs.PlanCall.{SideStores, PlanStores}
use Rattle.foundation.specs.Reference.{Choice, Extent, whole, cut, Reason, Going, Course, going, stopped, noPivot, notFinite, running, solved, reference}
use Rattle.foundation.specs.RunCall.{RunStores, choice_fits, order_fits, may_run, value_at, right_at}
use Rattle.answers.specs.declared.RunOutcome.{RunOutcome}
use Rattle.answers.specs.declared.RunOutcome.TheVariants.{Finished, Stopped}
use Rattle.answers.specs.declared.RunReason.{RunReason}
use Rattle.answers.specs.declared.RunReason.TheVariants.{NoPivot, NotFinite}
use Rattle.run_slots.specs.Handing.{Clear, LoadAsks, SolveAsks}
use Rattle.run_slots.specs.Index.{Layout}
use Rattle.run_slots.specs.Shows.{SquareStores, square_stores, ShowsAll, Stands}

-- of a run's result stores the four that hold a square and its right side
abbrev pub square_in : RunStores → SquareStores
square_in results = square_stores results.lower_slots results.upper_slots results.diagonal results.solution

-- ---- a run that stopped

-- the answer's name for each reason of the reference to stop
unfoldable pub reason_of : Reason → RunReason
reason_of noPivot = NoPivot
reason_of notFinite = NotFinite

-- The reference stopped at step k (in back substitution: at row k), for the reason that the answer names.
pub record Halts (reason : RunReason) (k : ℕ) (course : Course) : Type 0 where
  pub why : Reason
  pub named : reason ≡ reason_of why
  pub course_is : course ≡ stopped why k

-- ---- the steps

-- A run that has not begun: it stands before step 1, no row is chosen, nothing is counted; the first steps are asked for, at most n.
pub record StepsAsk (count : ℕ) (choice : Choice) (q : PlanStores) (results : RunStores) (copy dense : List Float) : Type 0 where
  pub p : Pattern
  pub s : Planning
  pub n : ℕ
  pub start : Going
  pub layout : Layout p s n q
  pub within : count ≤ n
  pub fits : choice_fits p choice ≡ true
  pub stands : Stands p s n 1 start (square_in results)
  pub none_chosen : start.pivots ≡ []
  pub none_counted : start.updates ≡ 0
  pub copy_size : length copy ≡ p.height
  pub dense_size : length dense ≡ p.height + 1
  pub clear : Clear dense
  pub pivots_blank : results.pivots ≡ replicate n 0

-- The reference is still going after its first t steps, and the stores, the pivot rows and the count are its own.
pub record Reached (p : Pattern) (s : Planning) (n : ℕ) (choice : Choice) (start : Going) (t updates : ℕ) (results : RunStores) : Type 0 where
  pub g : Going
  pub course : running choice p.height n start t ≡ going g
  pub counted : updates ≡ g.updates
  pub stands : Stands p s n (suc t) g (square_in results)
  pub chosen : length g.pivots ≡ t
  pub pivots_are : results.pivots ≡ padded 0 n g.pivots

-- how the reference went through its first steps, by how they ended
abbrev pub StepsLeave : RunOutcome → (count : ℕ) (choice : Choice) (q : PlanStores) (results : RunStores) (copy dense : List Float) (results' : RunStores)
    → StepsAsk count choice q results copy dense → Type 0
StepsLeave (Finished updates) count choice q results copy dense results' w = Reached w.p w.s w.n choice w.start count updates results'
StepsLeave (Stopped reason k) count choice q results copy dense results' w = Halts reason k (running choice w.p.height w.n w.start count)

-- ---- the end of a run

-- A whole run that came through its steps can be solved; one that is cut, or that stopped, asks for nothing.
abbrev pub FinishAsks : RunOutcome → Extent → (n : ℕ) (i : SideStores) (u d x : List Float) → Type 0
FinishAsks (Finished updates) whole n i u d x = SolveAsks n i u d x
FinishAsks (Finished updates) (cut s) n i u d x = Unit {0}
FinishAsks (Stopped reason k) extent n i u d x = Unit {0}

-- A whole run that came through its steps goes on to back substitution: its solution, or 14 at its row. One that is cut stays as it is, with its
-- right side; one that stopped stays so.
abbrev pub FinishLeaves : (end : RunOutcome) (extent : Extent) (r : RunOutcome) (n : ℕ) (i : SideStores) (u d x x' : List Float) → FinishAsks end extent n i u d x → Type 0
FinishLeaves (Finished updates) whole (Finished updates') n i u d x x' w =
    (h : Going) × (solved n (going w.g) ≡ going h) × (updates' ≡ updates) × (x' ≡ map h.right (upto n))
FinishLeaves (Finished updates) whole (Stopped reason k) n i u d x x' w = Halts reason k (solved n (going w.g))
FinishLeaves (Finished updates) (cut s) r n i u d x x' w = (r ≡ Finished updates) × (x' ≡ x)
FinishLeaves (Stopped reason k) extent r n i u d x x' w = r ≡ Stopped reason k

-- ---- the whole run

-- What loading asks for; all numbers are finite; row list and extent pass 12, and a whole run is of as many rows as columns; the pivot rows are
-- zero, the work stores have their lengths and the second is +0 throughout.
pub record RunAsks (p : Lent) (values right : List Float) (q : PlanStores) (choice : Choice) (extent : Extent) (results : RunStores) (copy dense : List Float) : Type 0 where
  pub load : LoadAsks p values right q (square_in results)
  pub values-finite : all finite values ≡ true
  pub right_finite : all finite right ≡ true
  pub order : order_fits (pattern_of p) choice extent ≡ true
  pub may : may_run p extent ≡ true
  pub copy_size : length copy ≡ p.height
  pub dense_size : length dense ≡ p.height + 1
  pub clear : Clear dense
  pub pivots_blank : results.pivots ≡ replicate p.n 0

-- the reference came to its end, and the stores, the pivot rows and the count are its own
pub record Finishes (s : Planning) (n height : ℕ) (course : Course) (updates : ℕ) (results : RunStores) : Type 0 where
  pub g : Going
  pub course_is : course ≡ going g
  pub counted : updates ≡ g.updates
  pub shows : ShowsAll s n height g.square g.right (square_in results)
  pub pivots_are : results.pivots ≡ padded 0 n g.pivots

-- how a course ended, by how the run did
abbrev pub EndsAs : RunOutcome → Planning → (n height : ℕ) → Course → RunStores → Type 0
EndsAs (Finished updates) s n height course results = Finishes s n height course updates results
EndsAs (Stopped reason k) s n height course results = Halts reason k course

abbrev pub RunLeaves : RunOutcome → (p : Lent) (values right : List Float) (q : PlanStores) (choice : Choice) (extent : Extent) (results : RunStores) (copy dense : List Float) (results' : RunStores)
    → RunAsks p values right q choice extent results copy dense → Type 0
RunLeaves end p values right q choice extent results copy dense results' w =
    EndsAs end w.load.s p.n p.height (reference choice extent (pattern_of p) (value_at p values) (right_at right)) results'
