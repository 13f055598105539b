-- The run of the reference, step after step: what it has done where it is still going, that it stays in the slots of lists that are closed,
-- and that back substitution changes the right side alone.
use mathlib.Core.Bool.{true, false, not, false≢true}
use mathlib.Core.List.{List, [], ◌∷◌, ◌++◌}
use mathlib.Core.Path.{◌≡◌, refl, sym, ap, subst, ◌∙◌}
use Prim.Native.Nat.{ℕ, zero, suc, ◌+◌, ◌≤◌, ◌<◌}
use native.Mathlib.Decide.{dec_lt}
use native.Mathlib.Omega.{arith}
use lib.Ieee.{Float}
use lib.ListN.{length, get_or, length-append, get_or-append}
use lib.Seq.{get_or-append-add}
use borrow.Author.Tests.{leb-true}
use Rattle.lists.proofs.Members.{by_test, and_left, and_right}
use Rattle.foundation.specs.Claims.{ZeroOutside}
use Rattle.foundation.specs.Closed.{Closed, marked, Held}
use Rattle.foundation.specs.Facts.{Plannable, PlanFacts}
use Rattle.foundation.specs.Numbers.{plus_zero, may_pivot, is_plus_zero}
use Rattle.foundation.specs.Pattern.{Lent, Pattern, present, pattern_of, pattern_fault}
use Rattle.foundation.specs.Plan.{plan}
use Rattle.foundation.specs.Reference.{Choice, Extent, whole, cut, steps_of, pivot_row, notFinite, Going, Course, going, stopped, stepped, sound_with, step_with, step, running, starting, solved_row, back, solved, ended, reference}
use Rattle.foundation.specs.RunCall.{choice_fits, extent_fits, order_fits}
use Rattle.foundation.specs.Slots.{slot_in, has_slot}
use Rattle.foundation.specs.Square.{Square, placed}
use Rattle.foundation.proofs.Containment.{held_at_start, held_after_step, contained}
use Rattle.foundation.proofs.FreeSteps.{marked-present, columns-from-one}
use Rattle.foundation.proofs.FloatSteps.{plus_zero_is, is_plus_zero_lem, stepped_on, pivot_found}

-- ---- a step that was done

-- Step k led from c to g: c was going too, a pivot row was found, all was finite, and g is what the step makes.
pub record Did (choice : Choice) (height n k : ℕ) (c : Course) (g : Going) : Type 0 where
  pub was : Going
  pub from : c ≡ going was
  pub row : ℕ
  pub chosen : pivot_row choice height k (λ i. was.square i k) ≡ row
  pub found : 1 ≤ row
  pub sound : sound_with height n k row was ≡ true
  pub becomes : g ≡ stepped height n k row was

-- A step that goes on was done.
pub step_did : (choice : Choice) (height n k : ℕ) (c : Course) (g : Going) → step choice height n k c ≡ going g → Did choice height n k c g
unfolding step step_with
step_did choice height n k (stopped reason at) g e = let z : ◌≡◌ {A = ℕ} 0 1 = cc in absurd (omega arith)
step_did choice height n k (going was) g e = at (pivot_row choice height k (λ i. was.square i k)) refl e
  where
    at :
        (r : ℕ) → pivot_row choice height k (λ i. was.square i k) ≡ r → step_with height n k was r ≡ going g
        → Did choice height n k (going was) g
    at zero chosen e = let z : ◌≡◌ {A = ℕ} 0 1 = cc in absurd (omega arith)
    at (suc r) chosen e =
        by_test (sound_with height n k (suc r) was)
        (λ t.
        let done : going (stepped height n k (suc r) was) ≡ going g = rw t at e in
        record { was = was; from = refl; row = suc r; chosen = chosen; found = omega arith; sound = t; becomes = cc })
        (λ t.
        let halted : stopped notFinite k ≡ going g = rw t at e in
        let z : ◌≡◌ {A = ℕ} 0 1 = cc in absurd (omega arith))

-- What step t + 1 of a run with a fitting choice did: its pivot row lies in range and may be a pivot.
pub pivot_in_range :
    (p : Pattern) (choice : Choice) → choice_fits p choice ≡ true → (t : ℕ) → t < p.n → {c : Course} {g : Going}
    → (d : Did choice p.height p.n (suc t) c g)
    → (suc t ≤ d.row) × (d.row ≤ p.height) × (may_pivot (d.was.square d.row (suc t)) ≡ true)
pivot_in_range p choice fits t h d = pivot_found p choice fits t h (λ i. d.was.square i (suc t)) d.row d.chosen d.found

-- ---- the run

-- the first s rows of a list lie each from its step to the last row
unfoldable InRange : ℕ → ℕ → List ℕ → Type 0
InRange height s rows = (t : ℕ) → t < s → (suc t ≤ get_or rows t 0) × (get_or rows t 0 ≤ height)

range_next :
    (height s : ℕ) (rows : List ℕ) (r : ℕ) → length rows ≡ s → InRange height s rows → suc s ≤ r → r ≤ height
    → InRange height (suc s) (rows ++ r ∷ [])
unfolding InRange
range_next height s rows r long before low high t l =
    elim (dec_lt t s) [
      | yes earlier ↦ rw (get_or-append rows (r ∷ []) 0 t (omega arith)) (before t earlier)
      | no now ↦
          let place : t ≡ length rows + 0 = omega arith in
          let same : get_or (rows ++ r ∷ []) t 0 ≡ r = rw place (get_or-append-add rows (r ∷ []) 0 0) in
          rw same (omega arith)
    ]

-- the run of a pattern's values after its first s steps
abbrev pub run_to : Pattern → Choice → Square Float → (ℕ → Float) → ℕ → Course
run_to p choice values right s = running choice p.height p.n (starting p values right) s

module _ (p : Pattern) (choice : Choice) (values : Square Float) (right : ℕ → Float) where
  -- A run that goes on after a step did the step.
  pub run_did : (s : ℕ) (g : Going) → run_to p choice values right (suc s) ≡ going g → Did choice p.height p.n (suc s) (run_to p choice values right s) g
  unfolding running
  run_did s g e = step_did choice p.height p.n (suc s) (run_to p choice values right s) g e

  -- A run that goes on has a pivot row for each step done.
  pub pivots-length : (s : ℕ) (g : Going) → run_to p choice values right s ≡ going g → length g.pivots ≡ s
  unfolding running starting stepped
  pivots-length zero g e = let same : starting p values right ≡ g = cc in ap (λ h. length h.pivots) (sym same)
  pivots-length (suc s) g e =
      let d = run_did s g e in
      let before : length d.was.pivots ≡ s = pivots-length s d.was d.from in
      rw (d.becomes, length-append) (omega arith)

module _ (p : Pattern) (choice : Choice) (fits : choice_fits p choice ≡ true) (values : Square Float) (right : ℕ → Float) where
  -- Each pivot row of a run that goes on lies from its step to the last row.
  pub pivots_in_range :
      (s : ℕ) (g : Going) → s ≤ p.n → run_to p choice values right s ≡ going g → (t : ℕ) → t < s
      → (suc t ≤ get_or g.pivots t 0) × (get_or g.pivots t 0 ≤ p.height)
  unfolding stepped InRange
  pivots_in_range zero g h e t l = absurd (omega arith)
  pivots_in_range (suc s) g h e t l =
      let d = run_did p choice values right s g e in
      let (low, high, may) = pivot_in_range p choice fits s (omega arith) d in
      subst (λ x. InRange p.height (suc s) x.pivots) (sym d.becomes)
      (range_next p.height s d.was.pivots d.row (pivots-length p choice values right s d.was d.from) (pivots_in_range s d.was (omega arith) d.from) low high)
      t l

  module _ {L U : ℕ → List ℕ} (closed : Closed p L U) (from_one : (i j : ℕ) → present p i j ≡ true → 1 ≤ j) where
    -- The invariant holds after any number of steps that the run does.
    pub held_running : (s : ℕ) (g : Going) → s ≤ p.n → run_to p choice values right s ≡ going g → Held p L U (suc s) (marked is_plus_zero g.square)
    unfolding running starting
    held_running zero g h e =
        let same : starting p values right ≡ g = cc in
        rw (← same) (held_at_start closed (marked is_plus_zero (placed p plus_zero values))
        (marked-present p is_plus_zero plus_zero (is_plus_zero_lem plus_zero refl) values) from_one)
    held_running (suc s) g h e =
        let d = run_did p choice values right s g e in
        let (low, high, may) = pivot_in_range p choice fits s (omega arith) d in
        rw d.becomes
        (held_after_step closed (suc s) (omega arith) (held_running s d.was (omega arith) d.from)
        (stepped_on p.height p.n (suc s) d.row d.was low may))

    -- Where the run is still going, each place without a slot holds +0, the bits.
    pub run_zero-outside :
        (s : ℕ) (g : Going) → s ≤ p.n → run_to p choice values right s ≡ going g → (i j : ℕ) → slot_in L U i j ≡ false → g.square i j ≡ plus_zero
    run_zero-outside s g h e i j none =
        by_test (is_plus_zero (g.square i j))
        (λ z. plus_zero_is (g.square i j) z)
        (λ z. absurd (false≢true (sym none ∙ contained closed (held_running s g h e) i j (ap not z))))

-- ---- back substitution

-- The parts of a run that back substitution leaves: the square, the pivot rows and the updates.
pub record Alike (g h : Going) : Type 0 where
  pub square : g.square ≡ h.square
  pub pivots : g.pivots ≡ h.pivots
  pub updates : g.updates ≡ h.updates

-- a run is alike to itself
alike_self : (g : Going) → Alike g g
alike_self g = record { square = refl; pivots = refl; updates = refl }

-- Back substitution that goes on leaves them.
pub back_keeps : (n i : ℕ) (g h : Going) → back n i g ≡ going h → Alike h g
unfolding back
back_keeps n zero g h e = let same : g ≡ h = cc in rw (← same) (alike_self g)
back_keeps n (suc i) g h e =
    by_test (solved_row n g.square g.right (suc i)).sound
    (λ t.
    let rest : Alike h _ = back_keeps n i _ h (rw t at e) in
    record { square = rest.square; pivots = rest.pivots; updates = rest.updates })
    (λ t.
    let halted : stopped notFinite (suc i) ≡ going h = rw t at e in
    let z : ◌≡◌ {A = ℕ} 0 1 = cc in absurd (omega arith))

-- What a run came from by back substitution: a run that was going, alike.
pub solved_keeps : (n : ℕ) (c : Course) (h : Going) → solved n c ≡ going h → (g : Going) × (c ≡ going g) × Alike h g
unfolding solved
solved_keeps n (going g) h e = (g, refl, back_keeps n n g h e)
solved_keeps n (stopped reason at) h e = let z : ◌≡◌ {A = ℕ} 0 1 = cc in absurd (omega arith)

-- Likewise by its end, whole or cut.
pub ended_keeps : (extent : Extent) (n : ℕ) (c : Course) (h : Going) → ended extent n c ≡ going h → (g : Going) × (c ≡ going g) × Alike h g
unfolding ended
ended_keeps whole n c h e = solved_keeps n c h e
ended_keeps (cut s) n c h e = (h, e, alike_self h)

-- The reference, whole or cut, is alike to the run after its steps.
pub reference_keeps :
    (choice : Choice) (extent : Extent) (p : Pattern) (values : Square Float) (right : ℕ → Float) (h : Going) → reference choice extent p values right ≡ going h
    → (g : Going) × (run_to p choice values right (steps_of extent p.n) ≡ going g) × Alike h g
unfolding reference
reference_keeps choice extent p values right h e = ended_keeps extent p.n (run_to p choice values right (steps_of extent p.n)) h e

-- An extent that fits has at most n steps.
pub steps_fit : (p : Pattern) (extent : Extent) → extent_fits p extent ≡ true → steps_of extent p.n ≤ p.n
unfolding extent_fits steps_of
steps_fit p whole e = omega arith
steps_fit p (cut s) e = leb-true _ _ e

-- The reference stays in the slots, if what passes can be planned and the plan of such a pattern is as PlanFacts says.
pub zero-outside-from :
    ((p : Pattern) → Plannable p → PlanFacts p (plan p)) → ((most : ℕ) (p : Lent) → pattern_fault most p ≡ 0 → Plannable (pattern_of p)) → ZeroOutside
unfolding ZeroOutside has_slot order_fits
zero-outside-from facts passes most p ok choice extent order values right g e i j none =
    let able : Plannable (pattern_of p) = passes most p ok in
    let fits : choice_fits (pattern_of p) choice ≡ true = and_left (choice_fits (pattern_of p) choice) (extent_fits (pattern_of p) extent) order in
    let within : steps_of extent (pattern_of p).n ≤ (pattern_of p).n =
    steps_fit (pattern_of p) extent (and_right (choice_fits (pattern_of p) choice) (extent_fits (pattern_of p) extent) order)
    in
    let (was, from, same) = reference_keeps choice extent (pattern_of p) values right g e in
    rw same.square (run_zero-outside (pattern_of p) choice fits values right (facts (pattern_of p) able).closed (columns-from-one (pattern_of p) able) (steps_of extent (pattern_of p).n) was within from i j none)
