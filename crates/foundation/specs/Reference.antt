-- The reference elimination on the full square of f64, or on the full rectangle (document 02, Ticket 9) where a pattern has more rows than n: row by largest magnitude or by a given list,
-- whole or cut to its first s steps.
use Rattle.std.specs.Prelude.{Bool, true, cond, not, ◌&&◌, ◌||◌, List, [], ◌∷◌, ◌++◌, ℕ, zero, suc, ◌+◌, eqb, ltb, Float, get_or}
use Rattle.std.specs.Float.Ieee.{lt}
use Rattle.lists.specs.Functions.{all, total, update}
use Rattle.lists.specs.Sets.{between}
use Rattle.foundation.specs.Pattern.{Pattern}
use Rattle.foundation.specs.Numbers.{plus_zero, is_zero, finite, magnitude, may_pivot, product, difference, quotient}
use Rattle.foundation.specs.Square.{Square, swap, placed, exchanged}

-- ---- the two parameters of a run

-- Document 01, "Elimination": the pivot row is the one "with the largest magnitude in column k (..); or row p_k of a given list".
pub data Choice : Type 0 where
  largest : Choice
  listed : List ℕ → Choice

-- "A run may be cut to its first s steps, without back substitution".
pub data Extent : Type 0 where
  whole : Extent
  cut : ℕ → Extent

-- how many steps a run of that extent has
unfoldable pub steps_of : Extent → ℕ → ℕ
steps_of whole n = n
steps_of (cut s) n = s

-- ---- the pivot row of a step

-- of two rows the one with the larger entry, "the lowest row number if equal"; `best` is 0 while no row has served. Document 02, Ticket 14: "choice among rows passes over
-- the rest", those that may not serve, so two of these are never compared.
unfoldable pub better : (ℕ → Float) → ℕ → ℕ → ℕ
better entry best i = cond (may_pivot (entry i) && (eqb best 0 || lt (magnitude (entry best)) (magnitude (entry i)))) i best

-- the row that serves best among those found so far and the rows of a list
unfoldable pub best : (ℕ → Float) → ℕ → List ℕ → ℕ
best entry found [] = found
best entry found (i ∷ rows) = best entry (better entry found i) rows

-- The row of step k by its column's entries, 0 where there is none. "At step k the pivot row is the row from k to n with the largest
-- magnitude in column k, the lowest row number if equal; or row p_k of a given list." p_k stands at place k-1 of the list. Ticket 9: "pivot choice go by the row
-- count", which is `height`. Ticket 14: "13 is given where none is left or the
-- listed row is fainter".
unfoldable pub pivot_row : Choice → ℕ → ℕ → (ℕ → Float) → ℕ
pivot_row largest height zero entry = 0
pivot_row largest height (suc before) entry = best entry 0 (between (suc before) height)
pivot_row (listed rows) height zero entry = 0
pivot_row (listed rows) height (suc before) entry = let p = get_or rows before 0 in cond (may_pivot (entry p)) p 0

-- ---- one step: exchanged, then divided, then updated

-- "For each row i below k with a nonzero entry in column k, m = entry / pivot replaces it; a zero entry stays."
unfoldable pub multiplier : ℕ → Square Float → ℕ → Float
multiplier k square i = cond (is_zero (square i k)) (square i k) (quotient (square i k) (square k k))

-- "If m is not zero, for each column j above k in ascending order with a nonzero pivot-row entry u, the place becomes place - m × u".
unfoldable pub reduced : Float → Float → Float → Float
reduced m u place = cond (is_zero m || is_zero u) place (difference place (product m u))

-- The square after the exchange, with the multipliers in column k and the places right of it reduced. Each place is written at most once in
-- a step, so the order within a step does not show.
unfoldable pub eliminated : ℕ → Square Float → Square Float
eliminated k square i j =
    cond (ltb k i)
    (cond (eqb j k) (multiplier k square i) (cond (ltb k j) (reduced (multiplier k square i) (square k j) (square i j)) (square i j)))
    (square i j)

-- "Rows k and p are exchanged (..) in the right side."
unfoldable pub exchanged_right : ℕ → ℕ → (ℕ → Float) → ℕ → Float
exchanged_right k p right i = right (swap k p i)

-- "The right side follows with m not zero."
unfoldable pub eliminated_right : ℕ → (ℕ → Float) → (ℕ → Float) → ℕ → Float
eliminated_right k multipliers right i =
    let m = multipliers i in
    cond (ltb k i && not (is_zero m)) (difference (right i) (product m (right k))) (right i)

-- "Updates counts the matrix subtractions, not the right side's."
unfoldable pub updates_at : ℕ → ℕ → ℕ → Square Float → ℕ
updates_at height n k square =
    total (λ i. cond (is_zero (multiplier k square i)) 0 (total (λ j. cond (is_zero (square k j)) 0 1) (between (suc k) n))) (between (suc k) height)

-- Table, 14: "a quotient, product or difference is not finite": whether one that is taken, m × u off the place, is finite.
unfoldable pub sound_update : Float → Float → Float → Bool
sound_update m u place = finite (product m u) && finite (difference place (product m u))

unfoldable pub sound_place : Float → Float → Float → Bool
sound_place m u place = is_zero u || sound_update m u place

-- row i of a step: its quotient, and where m is not zero its updates and that of its right side
unfoldable pub sound_row : ℕ → ℕ → Square Float → (ℕ → Float) → ℕ → Bool
sound_row n k square right i =
    let m = multiplier k square i in
    is_zero (square i k)
    || (finite m
    && (is_zero m
    || (sound_update m (right k) (right i) && all (λ j. sound_place m (square k j) (square i j)) (between (suc k) n))))

unfoldable pub sound_step : ℕ → ℕ → ℕ → Square Float → (ℕ → Float) → Bool
sound_step height n k square right = all (sound_row n k square right) (between (suc k) height)

-- ---- a run

-- Table, 13, as Ticket 14 of document 02 has it, and 14.
pub data Reason : Type 0 where
  noPivot notFinite : Reason

unfoldable pub number_of : Reason → ℕ
number_of noPivot = 13
number_of notFinite = 14

-- the square, the right side, the pivot rows of the steps done, and the updates so far
pub record Going : Type 0 where
  pub square : Square Float
  pub right : ℕ → Float
  pub pivots : List ℕ
  pub updates : ℕ

-- Document 01, "Elimination": "A run is either finished with its updates or stopped with its number and step."
pub data Course : Type 0 where
  going : Going → Course
  stopped : Reason → ℕ → Course

-- step k with pivot row p
unfoldable pub stepped : ℕ → ℕ → ℕ → ℕ → Going → Going
stepped height n k p g =
    let square = exchanged k p g.square in
    record {
      square = eliminated k square;
      right = eliminated_right k (multiplier k square) (exchanged_right k p g.right);
      pivots = g.pivots ++ (p ∷ []);
      updates = g.updates + updates_at height n k square;
    }

unfoldable pub sound_with : ℕ → ℕ → ℕ → ℕ → Going → Bool
sound_with height n k p g = sound_step height n k (exchanged k p g.square) (exchanged_right k p g.right)

-- step k once its pivot row is known, 0 for none
unfoldable pub step_with : ℕ → ℕ → ℕ → Going → ℕ → Course
step_with height n k g zero = stopped noPivot k
step_with height n k g (suc p) =
    cond (sound_with height n k (suc p) g) (going (stepped height n k (suc p) g)) (stopped notFinite k)

unfoldable pub step : Choice → ℕ → ℕ → ℕ → Course → Course
step choice height n k (stopped reason at) = stopped reason at
step choice height n k (going g) = step_with height n k g (pivot_row choice height k (λ i. g.square i k))

-- the run after its first s steps
unfoldable pub running : Choice → ℕ → ℕ → Going → ℕ → Course
running choice height n g zero = going g
running choice height n g (suc s) = step choice height n (suc s) (running choice height n g s)

-- Document 01, "Elimination": "The reference is a full n by n square of f64, +0 outside the pattern"; document 02, Ticket 9: "the full rectangle of that many rows and n columns in place of
-- the square". Values and right side are those of the
-- places and rows; before the first step no row is chosen.
unfoldable pub starting : Pattern → Square Float → (ℕ → Float) → Going
unfolding plus_zero
starting p values right = record { square = placed p plus_zero values; right = right; pivots = []; updates = 0 }

-- ---- back substitution

-- a number, and whether all that led to it was finite
pub record Checked : Type 0 where
  pub value : Float
  pub sound : Bool

-- "subtract u × solution for nonzero u, columns ascending": row i of the square against the solution so far
unfoldable pub substituted : (ℕ → Float) → (ℕ → Float) → Checked → List ℕ → Checked
substituted row solution c [] = c
substituted row solution c (j ∷ js) =
    let u = row j in
    let taken = product u (solution j) in
    let next : Checked =
    record { value = difference c.value taken; sound = c.sound && (finite taken && finite (difference c.value taken)) } in
    substituted row solution (cond (is_zero u) c next) js

-- "then divide by the diagonal"
unfoldable pub solved_row : ℕ → Square Float → (ℕ → Float) → ℕ → Checked
solved_row n square solution i =
    let c = substituted (square i) solution (record { value = solution i; sound = true }) (between (suc i) n) in
    let x = quotient c.value (square i i) in
    record { value = x; sound = c.sound && finite x }

-- "Back: for i from n to 1": rows i and below of the right side become solutions; 14 names the row.
unfoldable pub back : ℕ → ℕ → Going → Course
back n zero g = going g
back n (suc i) g =
    let c = solved_row n g.square g.right (suc i) in
    let next : Going =
    record { square = g.square; right = update g.right (suc i) c.value; pivots = g.pivots; updates = g.updates } in
    let later = back n i next in
    cond c.sound later (stopped notFinite (suc i))

-- back substitution of a run that came through its steps
unfoldable pub solved : ℕ → Course → Course
solved n (going g) = back n n g
solved n (stopped reason at) = stopped reason at

-- "A run may be cut to its first s steps, without back substitution": a whole run is solved, a cut one, to n steps too, is not.
unfoldable pub ended : Extent → ℕ → Course → Course
ended whole n c = solved n c
ended (cut s) n c = c

-- Document 01, "Elimination": the reference, with its choice of rows and its extent as parameters.
unfoldable pub reference : Choice → Extent → Pattern → Square Float → (ℕ → Float) → Course
reference choice extent p values right =
    ended extent p.n (running choice p.height p.n (starting p values right) (steps_of extent p.n))
