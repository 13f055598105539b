-- The run in the slots is what the full square's is: the definitions of the answer and of the stores afterwards, read at every place.
use mathlib.Core.Bool.{true, false}
use mathlib.Core.List.{List, [], ◌∷◌, ◌++◌, map}
use mathlib.Core.Path.{◌≡◌, refl, sym, ap, ◌∙◌}
use Prim.Native.Nat.{ℕ, zero, suc, ◌-◌, ◌≤◌}
use native.Mathlib.Omega.{arith}
use lib.Dec.{eqb}
use lib.Ieee.{Float}
use lib.ListN.{length, get_or, take, replicate, length-map}
use lib.Seq.{take-suc}
use borrow.Author.Tests.{eqb-true}
use Rattle.lists.specs.Functions.{padded}
use Rattle.lists.specs.Sets.{upto}
use Rattle.lists.proofs.Members.{by_test, and_left, and_right}
use Rattle.lists.proofs.Places.{length-upto, padded-full}
use Rattle.foundation.specs.Answer.{granted, refuse_if, and_then, result_store}
use Rattle.foundation.specs.Claims.{RunAlike, RunIs, RunsAlike, ListedPivots, PivotsCounted, ZeroOutside}
use Rattle.foundation.specs.Facts.{Plannable, PlanFacts}
use Rattle.foundation.specs.Numbers.{plus_zero, may_pivot}
use Rattle.foundation.specs.Pattern.{Lent, Pattern, pattern_of, pattern_fault, judged}
use Rattle.foundation.specs.Plan.{Planning, lower, upper, plan}
use Rattle.foundation.specs.PlanCall.{LentPlan, WorkSizes, sizes_fit, agrees, held_if, held}
use Rattle.foundation.specs.Reference.{Choice, listed, Extent, steps_of, Going, Course, going, stopped, pivot_row, running, starting, stepped, reference}
use Rattle.foundation.specs.RunCall.{Lending, lending_fits, all_finite, choice_fits, extent_fits, order_fits, may_run, value_at, right_at, course_answer, ran_with, ran, run_answer, slots_after, diagonal_after, solution_after, pivots_after, run_leaves}
use Rattle.foundation.specs.Shown.{slot_read, laid}
use Rattle.foundation.specs.Slots.{Slot, none, on_diagonal, in_side, slot_at, has_slot}
use Rattle.foundation.specs.Square.{Square}
use Rattle.foundation.proofs.FloatRun.{run_did, run_to, pivots-length, reference_keeps, steps_fit, zero-outside-from}
use Rattle.foundation.proofs.LaidBack.{laid-back}

-- ---- the answer

-- a pattern that passes is judged so
pub judged_passes : (most : ℕ) (p : Lent) → pattern_fault most p ≡ 0 → judged most p ≡ granted (pattern_of p)
unfolding judged
judged_passes most p ok = rw ok

-- a lent plan that passes 6 and 9 is the pattern's plan
pub held_passes :
    (most : ℕ) (p : Lent) (q : LentPlan) (work : WorkSizes) → pattern_fault most p ≡ 0 → sizes_fit p q.stores work ≡ true
    → agrees p (plan (pattern_of p)) q ≡ true → held most p q work ≡ granted (plan (pattern_of p))
unfolding held held_if and_then refuse_if
held_passes most p q work ok sizes same = rw (judged_passes most p ok, sizes, same)

-- what passes 1 to 12 answers as the full square does
pub ran_passes :
    (most : ℕ) (p : Lent) (q : LentPlan) (work : WorkSizes) (choice : Choice) (extent : Extent) (w : Lending) → pattern_fault most p ≡ 0
    → sizes_fit p q.stores work ≡ true → may_run p extent ≡ true → agrees p (plan (pattern_of p)) q ≡ true → lending_fits p (plan (pattern_of p)) w ≡ true
    → all_finite w ≡ true → order_fits (pattern_of p) choice extent ≡ true
    → ran most p q work choice extent w
    ≡ course_answer (plan (pattern_of p)) (reference choice extent (pattern_of p) (value_at p w.values) (right_at w.right))
unfolding ran held_if ran_with and_then refuse_if
ran_passes most p q work choice extent w ok sizes may same fits sound order = rw (judged_passes most p ok, sizes, may, same, fits, sound, order)

-- ---- the stores

-- what stands behind a list that is filled up with the number read beyond its end makes no difference
pub padded_reads : (blank : Float) (room : ℕ) (xs : List Float) (q : ℕ) → get_or (padded blank room xs) q blank ≡ get_or xs q blank
unfolding padded
padded_reads blank room xs q = behind (room - length xs) xs q
  where
    blanks : (m q : ℕ) → get_or (replicate m blank) q blank ≡ blank
    blanks zero q = refl
    blanks (suc m) zero = refl
    blanks (suc m) (suc q) = blanks m q

    behind : (m : ℕ) (xs : List Float) (q : ℕ) → get_or (xs ++ replicate m blank) q blank ≡ get_or xs q blank
    behind m [] q = blanks m q
    behind m (x ∷ xs) zero = refl
    behind m (x ∷ xs) (suc q) = behind m xs q

-- so the square that stores show does not change with their room
pub laid-padded :
    (s : Planning) (a b c : ℕ) (lowers uppers diagonal : List Float) (i j : ℕ)
    → laid s (padded plus_zero a lowers) (padded plus_zero b uppers) (padded plus_zero c diagonal) i j ≡ laid s lowers uppers diagonal i j
unfolding laid slot_read
laid-padded s a b c lowers uppers diagonal i j = at (slot_at s i j)
  where
    at : (slot : Slot)
        → slot_read (padded plus_zero a lowers) (padded plus_zero b uppers) (padded plus_zero c diagonal) slot ≡ slot_read lowers uppers diagonal slot
    at none = refl
    at (on_diagonal q) = padded_reads plus_zero c diagonal q
    at (in_side lower q) = padded_reads plus_zero a lowers q
    at (in_side upper q) = padded_reads plus_zero b uppers q

-- ---- the claim

module _
    (facts : (p : Pattern) → Plannable p → PlanFacts p (plan p)) (passes : (most : ℕ) (p : Lent) → pattern_fault most p ≡ 0 → Plannable (pattern_of p))
  where
    -- a run whose square came to its end
    ended_alike :
        (most : ℕ) (p : Lent) (choice : Choice) (extent : Extent) (w : Lending) → pattern_fault most p ≡ 0 → lending_fits p (plan (pattern_of p)) w ≡ true
        → order_fits (pattern_of p) choice extent ≡ true → (g : Going)
        → reference choice extent (pattern_of p) (value_at p w.values) (right_at w.right) ≡ going g
        → RunAlike p w g (course_answer (plan (pattern_of p)) (going g))
    unfolding course_answer run_answer and_then run_leaves slots_after diagonal_after solution_after pivots_after result_store lending_fits ZeroOutside
    ended_alike most p choice extent w ok fits order g e =
        let outside : (i j : ℕ) → has_slot (plan (pattern_of p)) i j ≡ false → g.square i j ≡ plus_zero =
        zero-outside-from facts passes most p ok choice extent order (value_at p w.values) (right_at w.right) g e in
        record {
          finished = refl;
          places = λ i j b. laid-padded (plan (pattern_of p)) w.lower_slots w.upper_slots w.diagonal _ _ _ i j
              ∙ laid-back (plan (pattern_of p)) p.n g.square outside i j b.0 b.2 b.3;
          outside = outside;
          solution = rw sizes.0 (full (map g.right (upto p.height)) (length-map (upto p.height) g.right ∙ length-upto p.height));
          pivots = rw sizes.1;
        }
      where
        full : (xs : List Float) → length xs ≡ p.height → padded plus_zero p.height xs ≡ xs
        full xs h = rw (← h) (padded-full plus_zero xs)

        sizes : (w.solution ≡ p.height) × (w.pivots ≡ p.n)
        sizes =
            let a = and_right (eqb (length w.values) (length p.columns)) _ fits in
            let b = and_right (eqb (length w.right) p.height) _ a in
            let c = and_right (eqb w.solution p.height) _ b in
            (eqb-true _ _ (and_left (eqb w.solution p.height) _ b), eqb-true _ _ (and_left (eqb w.pivots p.n) _ c))

    -- Demand 3, second half.
    pub runs_alike_from : RunsAlike
    unfolding RunsAlike RunIs course_answer run_answer and_then
    runs_alike_from most p q work choice extent w ok sizes may same fits sound order =
        rw (ran_passes most p q work choice extent w ok sizes may same fits sound order)
        (at (reference choice extent (pattern_of p) (value_at p w.values) (right_at w.right)) refl)
      where
        at : (c : Course) → reference choice extent (pattern_of p) (value_at p w.values) (right_at w.right) ≡ c → RunIs p w c (course_answer (plan (pattern_of p)) c)
        at (going g) e = ended_alike most p choice extent w ok fits order g e
        at (stopped reason k) e = refl

-- ---- the pivot rows of a given list

-- a listed row that serves is the list's
listed_row : (rows : List ℕ) (height s : ℕ) (entry : ℕ → Float) (r : ℕ) → pivot_row (listed rows) height (suc s) entry ≡ r → 1 ≤ r → get_or rows s 0 ≡ r
unfolding pivot_row
listed_row rows height s entry r e found =
    by_test (may_pivot (entry (get_or rows s 0))) (λ t. rw t at e)
    (λ t. let z : 0 ≡ r = rw t at e in absurd (omega arith))

-- the rows of the steps done are the list's first ones
rows-done :
    (p : Pattern) (rows : List ℕ) (values : Square Float) (right : ℕ → Float) (s : ℕ) (g : Going) → s ≤ length rows
    → run_to p (listed rows) values right s ≡ going g → g.pivots ≡ take s rows
unfolding running starting stepped
rows-done p rows values right zero g l e = let same : starting p values right ≡ g = cc in ap (λ h. h.pivots) (sym same)
rows-done p rows values right (suc s) g l e =
    let d = run_did p (listed rows) values right s g e in
    let before : d.was.pivots ≡ take s rows = rows-done p rows values right s d.was (omega arith) d.from in
    let row : get_or rows s 0 ≡ d.row = listed_row rows p.height s (λ i. d.was.square i (suc s)) d.row d.chosen d.found in
    rw (d.becomes, before, ← row) (sym (take-suc rows s 0 (omega arith)))

pub listed-pivots : ListedPivots
unfolding ListedPivots order_fits choice_fits
listed-pivots p rows extent order values right g e =
    let (was, from, same) = reference_keeps (listed rows) extent p values right g e in
    let fits : choice_fits p (listed rows) ≡ true = and_left (choice_fits p (listed rows)) (extent_fits p extent) order in
    let long : length rows ≡ p.n = eqb-true _ _ (and_left (eqb (length rows) p.n) _ fits) in
    let within : steps_of extent p.n ≤ p.n = steps_fit p extent (and_right (choice_fits p (listed rows)) (extent_fits p extent) order) in
    same.pivots ∙ rows-done p rows values right (steps_of extent p.n) was (omega arith) from

-- ---- the pivot rows of either choice

pub pivots-counted : PivotsCounted
unfolding PivotsCounted
pivots-counted p choice extent values right g e =
    let (was, from, same) = reference_keeps choice extent p values right g e in
    ap length same.pivots ∙ pivots-length p choice values right (steps_of extent p.n) was from
