-- A whole run: from what loading leaves to the steps, from the steps to back substitution, and what that is of the reference.
use mathlib.Core.Bool.{true}
use mathlib.Core.List.{List, map}
use mathlib.Core.Path.{◌≡◌, refl, sym, ap, ◌∙◌}
use Prim.Native.Nat.{ℕ, zero, suc, ◌≤◌}
use native.Mathlib.Omega.{arith}
use lib.Ieee.{Float}
use borrow.Author.Tests.{leb-true}
use Rattle.lists.specs.Functions.{all, padded}
use Rattle.lists.specs.Sets.{upto}
use Rattle.lists.proofs.Members.{by_test, and_left, and_right}
use Rattle.foundation.specs.Closed.{Closed, marked}
use Rattle.foundation.specs.Facts.{Plannable}
use Rattle.foundation.specs.Numbers.{plus_zero, finite, is_plus_zero}
use Rattle.foundation.specs.Pattern.{Lent, Pattern, present, pattern_of}
use Rattle.foundation.specs.Plan.{Planning}
use Rattle.foundation.specs.Reference.{Choice, Extent, whole, cut, steps_of, Going, Course, going, running, starting, solved, ended, reference}
use Rattle.foundation.specs.PlanCall.{PlanStores}
use Rattle.foundation.specs.RunCall.{choice_fits, extent_fits, order_fits, may_run, value_at, right_at}
use Rattle.foundation.specs.Square.{Square, placed}
use Rattle.foundation.proofs.Containment.{held_at_start}
use Rattle.foundation.proofs.FloatRun.{ended_keeps, steps_fit}
use Rattle.foundation.proofs.FiniteRun.{number-finite}
use Rattle.foundation.proofs.FloatSteps.{is_plus_zero_lem}
use Rattle.foundation.proofs.FreeSteps.{marked-present, columns-from-one}
use Rattle.foundation.proofs.PivotSteps.{ended-stopped}
use Rattle.answers.specs.RunStores.{run_stores}
use Rattle.answers.specs.declared.RunOutcome.{RunOutcome}
use Rattle.answers.specs.declared.RunOutcome.TheVariants.{Finished, Stopped}
use Rattle.answers.specs.declared.RunReason.{RunReason}
use Rattle.run_slots.specs.Handing.{LoadLeaves, SolveAsks}
use Rattle.run_slots.specs.Shows.{SquareStores, square_stores, ShowsAll, Stands}
use Rattle.run_slots.proofs.Exchange.{outside-before}
use Rattle.run_loop.specs.Running.{Halts, StepsAsk, StepsLeave, Reached, FinishAsks, FinishLeaves, RunAsks, Finishes, EndsAs}

-- ---- finite numbers

value-finite : (p : Lent) (values : List Float) → all finite values ≡ true → (i j : ℕ) → finite (value_at p values i j) ≡ true
unfolding value_at finite plus_zero
value-finite p values h zero j = refl
value-finite p values h (suc i) j = number-finite values _ h

right_finite : (right : List Float) → all finite right ≡ true → (i : ℕ) → finite (right_at right i) ≡ true
unfolding right_at finite plus_zero
right_finite right h zero = refl
right_finite right h (suc i) = number-finite right i h

placed-finite : (p : Pattern) (values : Square Float) → ((i j : ℕ) → finite (values i j) ≡ true) → (i j : ℕ) → finite (placed p plus_zero values i j) ≡ true
unfolding placed finite plus_zero
placed-finite p values h i j = by_test (present p i j) (λ e. rw e (h i j)) (λ e. rw e)

-- ---- from loading to the steps

-- The run stands before its first step.
stands_first : (p : Pattern) (s : Planning) (n : ℕ) (values : Square Float) (right : ℕ → Float) (z : SquareStores) → Plannable p → Closed p s.L s.U
    → ((i j : ℕ) → finite (values i j) ≡ true) → ((i : ℕ) → finite (right i) ≡ true) → ShowsAll s n p.height (placed p plus_zero values) right z
    → Stands p s n 1 (starting p values right) z
unfolding starting
stands_first p s n values right z able closed fine fine-right shows = record {
  shows = shows;
  held = held_at_start closed (marked is_plus_zero (placed p plus_zero values)) (marked-present p is_plus_zero plus_zero (is_plus_zero_lem plus_zero refl) values) (columns-from-one p able);
  sound = placed-finite p values fine;
  right_sound = fine-right;
}

-- ---- the reference by its steps

module _ (choice : Choice) (extent : Extent) (values : Square Float) (right : ℕ → Float) (n : ℕ) where
  -- the reference is its steps, then its end
  reference_is : (p : Pattern) → p.n ≡ n → (count : ℕ) → count ≡ steps_of extent n
      → reference choice extent p values right ≡ ended extent n (running choice p.height n (starting p values right) count)
  unfolding reference
  reference_is p width count steps = at p.height p.n (starting p values right) width ∙ rw steps
    where
      at : (h m : ℕ) (g : Going) → m ≡ n → ended extent m (running choice h m g (steps_of extent m)) ≡ ended extent n (running choice h n g (steps_of extent n))
      at h m g e = rw e

module _ {p : Lent} {values right : List Float} {q : PlanStores} {choice : Choice} {extent : Extent} {l u d x : List Float} {pivots : List ℕ} {copy dense : List Float}
    (w : RunAsks p values right q choice extent (run_stores l u d x pivots) copy dense) where
  -- the pattern, where the reference starts, and its course
  abbrev pub pattern : Pattern
  pattern = pattern_of p

  abbrev pub start : Going
  start = starting pattern (value_at p values) (right_at right)

  abbrev pub course : Course
  course = reference choice extent pattern (value_at p values) (right_at right)

  -- a whole run has as many rows as columns
  as_many-rows : extent ≡ whole → p.height ≡ p.n
  unfolding may_run pattern_of
  as_many-rows is = omega (arith, leb-true p.height p.n (ap (may_run p) (sym is) ∙ w.may), w.load.layout.tall)

  course_is : (count : ℕ) → count ≡ steps_of extent p.n → course ≡ ended extent p.n (running choice pattern.height p.n start count)
  course_is count steps =
      reference_is choice extent (value_at p values) (right_at right) p.n pattern w.load.layout.width count steps

  module _ {count : ℕ} (steps : count ≡ steps_of extent p.n) where
    few-steps : count ≤ p.n
    unfolding order_fits
    few-steps = few pattern.n w.load.layout.width (steps_fit pattern extent (and_right (choice_fits pattern choice) (extent_fits pattern extent) w.order))
      where
        few : (m : ℕ) → m ≡ p.n → steps_of extent m ≤ m → count ≤ p.n
        few m e h = rw steps (rw e at h)

    -- What the steps take for granted, once the values are loaded.
    pub steps_ask : {l' u' d' x' : List Float} → LoadLeaves p values right q (square_stores l u d x) (square_stores l' u' d' x') w.load
        → StepsAsk count choice q (run_stores l' u' d' x' pivots) copy dense
    unfolding starting order_fits pattern_of
    steps_ask {l'} {u'} {d'} {x'} shows = record {
      p = pattern;
      s = w.load.s;
      n = p.n;
      start = start;
      layout = w.load.layout;
      within = few-steps;
      fits = and_left (choice_fits pattern choice) (extent_fits pattern extent) w.order;
      stands = stands_first pattern w.load.s p.n (value_at p values) (right_at right) (square_stores l' u' d' x') w.load.plannable w.load.layout.closed (value-finite p values w.values-finite) (right_finite right w.right_finite) shows;
      none_chosen = refl;
      none_counted = refl;
      copy_size = w.copy_size;
      dense_size = w.dense_size;
      clear = w.clear;
      pivots_blank = w.pivots_blank;
    }

    module _ {l' u' d' x' : List Float} (shows : LoadLeaves p values right q (square_stores l u d x) (square_stores l' u' d' x') w.load) where
      -- 13 and 14 in the steps
      pub steps_halt : {reason : RunReason} {k : ℕ} → ((v : StepsAsk count choice q (run_stores l' u' d' x' pivots) copy dense)
          → Halts reason k (running choice v.p.height v.n v.start count)) → Halts reason k course
      unfolding steps_ask
      steps_halt {reason} {k} leaves =
          let halted : Halts reason k (running choice pattern.height p.n start count) = leaves (steps_ask shows) in
          record {
            why = halted.why;
            named = halted.named;
            course_is = course_is count steps ∙ ap (ended extent p.n) halted.course_is ∙ ended-stopped extent p.n halted.why k;
          }

      -- all steps are done
      pub steps_all : {updates : ℕ} {l'' u'' d'' x'' : List Float} {pivots'' : List ℕ}
          → ((v : StepsAsk count choice q (run_stores l' u' d' x' pivots) copy dense)
          → Reached v.p v.s v.n choice v.start count updates (run_stores l'' u'' d'' x'' pivots''))
          → Reached pattern w.load.s p.n choice start count updates (run_stores l'' u'' d'' x'' pivots'')
      unfolding steps_ask
      steps_all leaves = leaves (steps_ask shows)

    module _ {updates : ℕ} {l'' u'' d'' x'' : List Float} {pivots'' : List ℕ} (done : Reached pattern w.load.s p.n choice start count updates (run_stores l'' u'' d'' x'' pivots'')) where
      -- what back substitution takes for granted
      solve-asks : extent ≡ whole → SolveAsks p.n q.upper_side u'' d'' x''
      unfolding pattern_of
      solve-asks is =
          let rows = as_many-rows is in
          record {
            s = w.load.s;
            g = done.g;
            some = w.load.layout.some;
            few = w.load.layout.few;
            index = w.load.layout.uppers;
            grid = rw rows at w.load.layout.grid;
            uppers = done.stands.shows.uppers;
            diagonal = done.stands.shows.diagonal;
            rights = rw rows at done.stands.shows.rights;
            outside = outside-before pattern w.load.s w.load.layout.closed (suc count) (omega arith) done.g done.stands.held;
            sound = done.stands.sound;
          }

      pub finish_asks : (e : Extent) → extent ≡ e → FinishAsks (Finished updates) e p.n q.upper_side u'' d'' x''
      finish_asks whole is = solve-asks is
      finish_asks (cut s) is = tt

      went_to : (e : Extent) → extent ≡ e → course ≡ ended e p.n (going done.g)
      went_to e is = course_is count steps ∙ ap (ended extent p.n) done.course ∙ ap (λ (a : Extent). ended a p.n (going done.g)) is

      -- the run is at its end: the reference is h, with the square, the pivot rows and the count of its steps
      finish_with : {updates' : ℕ} {x' : List Float} (h : Going) (e : Extent) → extent ≡ e → ended e p.n (going done.g) ≡ going h → updates' ≡ updates
          → x' ≡ map h.right (upto p.height) → Finishes w.load.s p.n p.height course updates' (run_stores l'' u'' d'' x' pivots'')
      finish_with {updates'} h e is to counted rights =
          let (g, same, alike) = ended_keeps e p.n (going done.g) h to in
          let going_is : done.g ≡ g = cc in
          let square : done.g.square ≡ h.square = ap (λ (r : Going). r.square) going_is ∙ sym alike.square in
          record {
            g = h;
            course_is = went_to e is ∙ to;
            counted = counted ∙ done.counted ∙ ap (λ (r : Going). r.updates) going_is ∙ sym alike.updates;
            shows = record {
              lowers = rw square at done.stands.shows.lowers;
              uppers = rw square at done.stands.shows.uppers;
              diagonal = rw square at done.stands.shows.diagonal;
              rights = rights;
            };
            pivots_are = done.pivots_are ∙ ap (padded 0 p.n) (ap (λ (r : Going). r.pivots) going_is ∙ sym alike.pivots);
          }

      -- whole or cut
      pub finish_ends : (e : Extent) → extent ≡ e → (r : RunOutcome) (x' : List Float)
          → ((v : FinishAsks (Finished updates) e p.n q.upper_side u'' d'' x'') → FinishLeaves (Finished updates) e r p.n q.upper_side u'' d'' x'' x' v)
          → EndsAs r w.load.s p.n p.height course (run_stores l'' u'' d'' x' pivots'')
      unfolding solve-asks ended pattern_of
      finish_ends whole is (Finished updates') x' leaves =
          let (h, to, counted, rights) = leaves (solve-asks is) in
          finish_with h whole is to counted (rights ∙ ap (λ (m : ℕ). map h.right (upto m)) (sym (as_many-rows is)))
      finish_ends whole is (Stopped reason k) x' leaves =
          let halted : Halts reason k (solved p.n (going done.g)) = leaves (solve-asks is) in
          record { why = halted.why; named = halted.named; course_is = went_to whole is ∙ halted.course_is }
      finish_ends (cut s) is r x' leaves =
          let (same, kept) = leaves tt in
          rw same (finish_with done.g (cut s) is refl refl (kept ∙ done.stands.shows.rights))

  -- ---- the three parts in turn

  module _ {count : ℕ} (steps : count ≡ steps_of extent p.n) {l' u' d' x' : List Float}
      (shows : LoadLeaves p values right q (square_stores l u d x) (square_stores l' u' d' x') w.load) where
    -- whatever the steps came to, the end may follow
    pub end_asks : (end : RunOutcome) (l'' u'' d'' x'' : List Float) (pivots'' : List ℕ)
        → ((v : StepsAsk count choice q (run_stores l' u' d' x' pivots) copy dense)
        → StepsLeave end count choice q (run_stores l' u' d' x' pivots) copy dense (run_stores l'' u'' d'' x'' pivots'') v)
        → FinishAsks end extent p.n q.upper_side u'' d'' x''
    end_asks (Finished updates) l'' u'' d'' x'' pivots'' leaves = finish_asks steps (steps_all steps shows leaves) extent refl
    end_asks (Stopped reason k) l'' u'' d'' x'' pivots'' leaves = tt

    -- and the run is the reference's
    pub run_ends : (end r : RunOutcome) (l'' u'' d'' x'' x''' : List Float) (pivots'' : List ℕ)
        → ((v : StepsAsk count choice q (run_stores l' u' d' x' pivots) copy dense)
        → StepsLeave end count choice q (run_stores l' u' d' x' pivots) copy dense (run_stores l'' u'' d'' x'' pivots'') v)
        → ((v : FinishAsks end extent p.n q.upper_side u'' d'' x'') → FinishLeaves end extent r p.n q.upper_side u'' d'' x'' x''' v)
        → EndsAs r w.load.s p.n p.height course (run_stores l'' u'' d'' x''' pivots'')
    run_ends (Finished updates) r l'' u'' d'' x'' x''' pivots'' leaves last = finish_ends steps (steps_all steps shows leaves) extent refl r x''' last
    run_ends (Stopped reason k) r l'' u'' d'' x'' x''' pivots'' leaves last =
        let e : r ≡ Stopped reason k = last tt in
        rw e (steps_halt steps shows leaves)
