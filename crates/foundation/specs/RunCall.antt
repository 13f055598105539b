-- What a run answers and leaves in the lent stores.
use Rattle.std.specs.Prelude.{Bool, true, false, not, ◌&&◌, List, [], ◌∷◌, map, ℕ, zero, suc, ◌+◌, eqb, leb, Float, length, get_or}
use Rattle.lists.specs.Functions.{all}
use Rattle.lists.specs.Sets.{index_of, upto}
use Rattle.foundation.specs.Answer.{Answer, refused, granted, refuse_if, and_then, result_store}
use Rattle.foundation.specs.Pattern.{Lent, Pattern, pattern_of, row_of}
use Rattle.foundation.specs.Plan.{Planning, Side, lower, upper}
use Rattle.foundation.specs.Slots.{slots_of}
use Rattle.foundation.specs.Numbers.{plus_zero, finite}
use Rattle.foundation.specs.Square.{Square}
use Rattle.foundation.specs.Reference.{Choice, largest, listed, Extent, whole, cut, Going, Course, going, stopped, noPivot, notFinite, number_of, reference}
use Rattle.foundation.specs.Shown.{shown, shown_diagonal}
use Rattle.foundation.specs.PlanCall.{WorkSizes, LentPlan, held_if}

-- the lent values and right side, and the lengths of the lent result stores
pub record Lending : Type 0 where
  pub values : List Float
  pub right : List Float
  pub solution : ℕ
  pub pivots : ℕ
  pub diagonal : ℕ
  pub lower_slots : ℕ
  pub upper_slots : ℕ

-- Table, 10: "values are not as many as entries, right side, solution, pivot rows or diagonal not n, or slots fewer than planned"; ticket 9: "right side,
-- solution store (..) go by the row count".
unfoldable pub lending_fits : Lent → Planning → Lending → Bool
lending_fits p s w =
    eqb (length w.values) (length p.columns)
    && (eqb (length w.right) p.height
    && (eqb w.solution p.height
    && (eqb w.pivots p.n
    && (eqb w.diagonal p.n && (leb (slots_of s lower p.n) w.lower_slots && leb (slots_of s upper p.n) w.upper_slots)))))

-- Table, 11: "a value or right side is not finite".
unfoldable pub all_finite : Lending → Bool
all_finite w = all finite w.values && all finite w.right

-- Table, 12: "p_k is below k or above n": the rows that a list names from step k on; ticket 9: "12 taking the row count as the upper bound of p_k".
unfoldable pub rows_in_range : ℕ → ℕ → List ℕ → Bool
rows_in_range height k [] = true
rows_in_range height k (p ∷ ps) = (leb k p && leb p height) && rows_in_range height (suc k) ps

-- the list's part of 12
unfoldable pub choice_fits : Pattern → Choice → Bool
choice_fits p largest = true
choice_fits p (listed rows) = eqb (length rows) p.n && rows_in_range p.height 1 rows

-- the cut's part of 12
unfoldable pub extent_fits : Pattern → Extent → Bool
extent_fits p whole = true
extent_fits p (cut s) = leb s p.n

-- Table, 12: "the row list is not n long, p_k is below k or above n, or s is above n".
unfoldable pub order_fits : Pattern → Choice → Extent → Bool
order_fits p choice extent = choice_fits p choice && extent_fits p extent

-- ---- the numbers by place: the values lie as the columns do, row after row

unfoldable pub value_at : Lent → List Float → Square Float
value_at p values zero j = plus_zero
value_at p values (suc i) j = get_or values (get_or p.starts i 0 + index_of j (row_of p (suc i))) plus_zero

unfoldable pub right_at : List Float → ℕ → Float
right_at right zero = plus_zero
right_at right (suc i) = get_or right i plus_zero

-- ---- the run

-- the plan that a run went by, and where it ended
pub record Ran : Type 0 where
  pub plan : Planning
  pub end : Going

-- Document 01, "Free elimination": "Finished: (..). Stopped: 13 or 14 with its step."
unfoldable pub course_answer : Planning → Course → Answer Ran
course_answer s (going g) = granted (record { plan = s; end = g })
course_answer s (stopped reason k) = refused (number_of reason) k

-- 10, 11, 12, then 13 and 14 "as the run meets them", on a plan that is known to be the pattern's
unfoldable pub ran_with : Lent → Choice → Extent → Lending → Planning → Answer Ran
ran_with p choice extent w s =
    refuse_if (not (lending_fits p s w)) 10
    (refuse_if (not (all_finite w)) 11
    (refuse_if (not (order_fits (pattern_of p) choice extent)) 12
    (course_answer s (reference choice extent (pattern_of p) (value_at p w.values) (right_at w.right)))))

-- Document 02, ticket 9: "a tall pattern is run only when cut", "solving with more rows than n is 26": whole runs are those of squares.
unfoldable pub may_run : Lent → Extent → Bool
may_run p whole = leb p.height p.n
may_run p (cut s) = true

-- a run on a lent plan: 1 to 6, 26, 9, then the rest
unfoldable pub ran : ℕ → Lent → LentPlan → WorkSizes → Choice → Extent → Lending → Answer Ran
ran most p q work choice extent w = and_then (held_if (may_run p extent) most p q work) (ran_with p choice extent w)

-- whether a course stopped with 13
unfoldable pub lacks_pivot : Course → Bool
lacks_pivot (going g) = false
lacks_pivot (stopped noPivot k) = true
lacks_pivot (stopped notFinite k) = false

-- Document 01, "Free elimination", its own term: "A list that 12 lets pass is legal unless the reference with it stops with 13." Document 02, Ticket 14: "Legal row lists
-- are those whose pivots meet this limit", which is what the reference asks of a pivot.
unfoldable pub legal : Lent → Lending → List ℕ → Bool
legal p w rows =
    choice_fits (pattern_of p) (listed rows)
    && not (lacks_pivot (reference (listed rows) whole (pattern_of p) (value_at p w.values) (right_at w.right)))

-- the answer: "finished with its updates or stopped with its number and step"
unfoldable pub run_answer : Answer Ran → Answer ℕ
run_answer answer = and_then answer (λ r. granted r.end.updates)

-- ---- what the result stores hold afterwards, `room` being a store's length

unfoldable pub slots_after : Side → ℕ → ℕ → Answer Ran → List Float
slots_after side n room answer = result_store plus_zero room (λ r. shown r.plan side n r.end.square) answer

unfoldable pub diagonal_after : ℕ → ℕ → Answer Ran → List Float
diagonal_after n room answer = result_store plus_zero room (λ r. shown_diagonal n r.end.square) answer

-- "the solution store has the right side (whole: the solution)"
unfoldable pub solution_after : ℕ → ℕ → Answer Ran → List Float
solution_after height room answer = result_store plus_zero room (λ r. map r.end.right (upto height)) answer

-- "pivot rows are p_k up to the last step done and 0 after it"
unfoldable pub pivots_after : ℕ → Answer Ran → List ℕ
pivots_after room answer = result_store 0 room (λ r. r.end.pivots) answer

-- the five result stores of a run
pub record RunStores : Type 0 where
  pub lower_slots : List Float
  pub upper_slots : List Float
  pub diagonal : List Float
  pub solution : List Float
  pub pivots : List ℕ

-- all result stores of a run afterwards, by the lengths that were lent
unfoldable pub run_leaves : Lent → Lending → Answer Ran → RunStores
run_leaves p w answer =
    record {
      lower_slots = slots_after lower p.n w.lower_slots answer;
      upper_slots = slots_after upper p.n w.upper_slots answer;
      diagonal = diagonal_after p.n w.diagonal answer;
      solution = solution_after p.height w.solution answer;
      pivots = pivots_after w.pivots answer;
    }
