-- The steps of a run one after the other: what a step is handed, and where the run stands after it.
use mathlib.Core.Bool.{true, false}
use mathlib.Core.List.{List, [], ◌∷◌, ◌++◌, append_assoc}
use mathlib.Core.Path.{◌≡◌, refl, sym, ap, ◌∙◌}
use Prim.Native.Nat.{ℕ, suc, ◌+◌, ◌-◌, ◌*◌, ◌≤◌, ◌<◌}
use native.Mathlib.Omega.{arith}
use mir.Syntax.{w64}
use mir.Val.{Fits}
use lib.Dec.{eqb}
use lib.Ieee.{Float}
use lib.ListN.{length, set, replicate, length-append, length-set, length-replicate}
use lib.Seq.{set_at}
use borrow.Author.Tests.{eqb-true}
use Rattle.lists.specs.Functions.{padded}
use Rattle.lists.proofs.Members.{and_left}
use Rattle.lists.proofs.Places.{padded-nil}
use Rattle.foundation.specs.Reference.{Choice, listed, stopped, noPivot, notFinite, pivot_row, sound_with, updates_at, stepped, running}
use Rattle.foundation.specs.PlanCall.{PlanStores}
use Rattle.foundation.specs.RunCall.{RunStores, choice_fits}
use Rattle.foundation.specs.Square.{exchanged}
use Rattle.run_slots.specs.Handing.{Clear, asked, StepAsks, StepLeaves}
use Rattle.run_slots.specs.Shows.{SquareStores, Stands}
use Rattle.run_slots.specs.declared.StepEnd.{StepEnd}
use Rattle.run_slots.specs.declared.StepEnd.TheVariants.{Went, NoPivot, NotFinite}
use Rattle.answers.specs.Runs.{chosen_by}
use Rattle.answers.specs.declared.PivotChoice.{PivotChoice}
use Rattle.answers.specs.declared.PivotChoice.TheVariants.{Listed}
use Rattle.answers.specs.declared.RunReason.TheVariants.{NoPivot as NoPivotReason, NotFinite as NotFiniteReason}
use Rattle.run_loop.specs.Running.{square_in, reason_of, Halts, StepsAsk, Reached}
use Rattle.run_loop.proofs.Sizes.{SameSizes, then_sizes}
use Rattle.run_loop.proofs.Course.{goes_on, lacks_pivot_lem, not_sound, stays-stopped}

-- ---- pivot rows

-- a pivot row behind the others takes the place of the first zero
set-padded : (ps : List ℕ) (t n r : ℕ) → length ps ≡ t → t < n → set (padded 0 n ps) t r ≡ padded 0 n (ps ++ r ∷ [])
unfolding padded
set-padded ps t n r size h =
    let before : n - length ps ≡ suc (n - suc t) = omega arith in
    let after : n - length (ps ++ r ∷ []) ≡ n - suc t = omega (arith, length-append ps (r ∷ [])) in
    rw (before, after, append_assoc) (set_at ps 0 (replicate (n - suc t) 0) r t size)

-- ---- the numbers that the code makes

-- step k's place, and the step behind it
pub place_fits : {k : ℕ} → k ≤ 1024 → Fits w64 ((k - 1) * 8)
place_fits small = record { fits = omega arith }

pub next_fits : {k : ℕ} → k ≤ 1024 → Fits w64 (k + 1)
next_fits small = record { fits = omega arith }

pub updates_fit : {k updates more : ℕ} → k ≤ 1024 → updates ≤ k * 2097152 → more ≤ 2097152 → Fits w64 (updates + more)
updates_fit small few more-few = record { fits = omega arith }

-- the steps to come
pub steps_less : {k count : ℕ} → k ≤ count → count + 1 - (k + 1) < count + 1 - k
steps_less high = omega arith

-- ---- a step

-- Step k is one of those asked for, the row is the one that the choice names, and the work stores have their lengths, the second +0 throughout.
pub record Handed (height count : ℕ) (choice : Choice) (k row : ℕ) (copy dense : List Float) : Type 0 where
  pub high : k ≤ count
  pub row_is : row ≡ asked choice k
  pub copy_size : length copy ≡ height
  pub dense_size : length dense ≡ height + 1
  pub clear : Clear dense

-- what is known of step k by its end, for every witness of what it took for granted
abbrev pub StepKnown : (k row : ℕ) (q : PlanStores) (results : RunStores) (copy dense : List Float) → StepEnd → SquareStores → Type 0
StepKnown k row q results copy dense end z' =
    (v : StepAsks k row q (square_in results) copy dense) → StepLeaves end k row q (square_in results) copy dense z' v

module _ {count : ℕ} {choice : Choice} {q : PlanStores} {results₀ : RunStores} {copy₀ dense₀ : List Float}
    (w : StepsAsk count choice q results₀ copy₀ dense₀) where
  -- the run after its first t steps
  abbrev pub At : (t updates : ℕ) → RunStores → Type 0
  At t updates results = Reached w.p w.s w.n choice w.start t updates results

  -- no step is done
  pub at_start : At 0 0 results₀
  unfolding running
  at_start = record {
    g = w.start;
    course = refl;
    counted = sym w.none_counted;
    stands = w.stands;
    chosen = ap length w.none_chosen;
    pivots_are = w.pivots_blank ∙ sym (padded-nil 0 w.n) ∙ ap (padded 0 w.n) (sym w.none_chosen);
  }

  module _ {k t row updates : ℕ} {results : RunStores} {copy dense : List Float} (here : At t updates results) (e : k ≡ suc t)
      (handed : Handed w.p.height count choice k row copy dense) where
    -- what step k takes for granted
    pub step_asks : StepAsks k row q (square_in results) copy dense
    step_asks = record {
      p = w.p;
      s = w.s;
      n = w.n;
      choice = choice;
      g = here.g;
      layout = w.layout;
      low = omega arith;
      high = omega (arith, w.within, handed.high);
      fits = w.fits;
      row_is = handed.row_is;
      stands = rw e here.stands;
      copy_size = handed.copy_size;
      dense_size = handed.dense_size;
      clear = handed.clear;
    }

    -- the step is done: the run stands after it
    pub went : {r more updates' : ℕ} {results' : RunStores} → StepKnown k row q results copy dense (Went r more) (square_in results') → updates' ≡ updates + more → results'.pivots ≡ set results.pivots t r
        → At (suc t) updates' results'
    unfolding stepped step_asks
    went {r} {more} {updates'} {results'} leaves added chosen =
        let after = leaves step_asks in
        let row : pivot_row choice w.p.height k (λ i. here.g.square i k) ≡ r = after.1 in
        let sound : sound_with w.p.height w.n k r here.g ≡ true = after.2 in
        let taken : more ≡ updates_at w.p.height w.n k (exchanged k r here.g.square) = after.3 in
        let stands : Stands w.p w.s w.n (suc k) (stepped w.p.height w.n k r here.g) (square_in results') = after.5 in
        record {
          g = stepped w.p.height w.n (suc t) r here.g;
          course = goes_on choice w.p.height w.n w.start t r here.g here.course (rw e at row) after.0 (rw e at sound);
          counted = added ∙ ap (λ (a : ℕ). a + more) here.counted ∙ ap (λ (a : ℕ). here.g.updates + a) (rw e at taken);
          stands = rw e at stands;
          chosen = rw (length-append, here.chosen) (omega arith);
          pivots_are = chosen ∙ ap (λ (ps : List ℕ). set ps t r) here.pivots_are ∙ set-padded here.g.pivots t w.n r here.chosen (omega (arith, w.within, handed.high));
        }

    -- it counts at most so many updates
    pub went_few : {r more : ℕ} {z' : SquareStores} → StepKnown k row q results copy dense (Went r more) z' → more ≤ 2097152
    went_few leaves = (leaves step_asks).4

    -- 13
    pub lacked : StepKnown k row q results copy dense NoPivot (square_in results) → running choice w.p.height w.n w.start count ≡ stopped noPivot k
    unfolding step_asks
    lacked leaves =
        let none : pivot_row choice w.p.height k (λ i. here.g.square i k) ≡ 0 = leaves step_asks in
        rw e (stays-stopped choice w.p.height w.n w.start noPivot (suc t) (suc t) count (omega (arith, handed.high))
        (lacks_pivot_lem choice w.p.height w.n w.start t here.g here.course (rw e at none)))

    -- 14
    pub unsound : StepKnown k row q results copy dense NotFinite (square_in results) → running choice w.p.height w.n w.start count ≡ stopped notFinite k
    unfolding step_asks
    unsound leaves = let after = leaves step_asks in at after.0 after.1 after.2
      where
        at : (r : ℕ) → pivot_row choice w.p.height k (λ i. here.g.square i k) ≡ suc r → sound_with w.p.height w.n k (suc r) here.g ≡ false
            → running choice w.p.height w.n w.start count ≡ stopped notFinite k
        at r row bad =
            rw e (stays-stopped choice w.p.height w.n w.start notFinite (suc t) (suc t) count (omega (arith, handed.high))
            (not_sound choice w.p.height w.n w.start t r here.g here.course (rw e at row) (rw e at bad)))

-- ---- the loop

-- The steps before k are done, in stores of the lengths that were lent.
pub record Underway (count : ℕ) (choice : Choice) (q : PlanStores) (results₀ : RunStores) (copy₀ dense₀ : List Float)
    (results : RunStores) (copy dense : List Float) (updates k : ℕ) : Type 0 where
  pub low : 1 ≤ k
  pub high : k ≤ count + 1
  pub few : updates ≤ k * 2097152
  pub clear : Clear dense
  pub sizes : SameSizes results₀ results
  pub copy_size : length copy ≡ length copy₀
  pub dense_size : length dense ≡ length dense₀
  pub at : (w : StepsAsk count choice q results₀ copy₀ dense₀)
      → Reached w.p w.s w.n choice w.start (k - 1) updates results

-- k is the step behind the last one done
one-back : {count : ℕ} {choice : Choice} {q : PlanStores} {results₀ : RunStores} {copy₀ dense₀ : List Float} {results : RunStores} {copy dense : List Float} {updates k : ℕ}
    → Underway count choice q results₀ copy₀ dense₀ results copy dense updates k → k ≡ suc (k - 1)
one-back here = omega (arith, here.low)

module _ {count : ℕ} {choice : Choice} {q : PlanStores} {results₀ : RunStores} {copy₀ dense₀ : List Float}
    (w : StepsAsk count choice q results₀ copy₀ dense₀) where
  pub under_start : Underway count choice q results₀ copy₀ dense₀ results₀ copy₀ dense₀ 0 1
  under_start = record {
    low = omega arith;
    high = omega arith;
    few = omega arith;
    clear = w.clear;
    sizes = record { l_size = refl; u_size = refl; d_size = refl; x_size = refl; pivots_size = refl };
    copy_size = refl;
    dense_size = refl;
    at = λ v. at_start v;
  }

  module _ {results : RunStores} {copy dense : List Float} {updates k : ℕ}
      (here : Underway count choice q results₀ copy₀ dense₀ results copy dense updates k) where
    -- k and the updates are small
    pub under-small : k ≤ count → k ≤ 1024
    under-small high = omega (arith, w.within, w.layout.few)

    -- and step k's row has its place
    pub under-room : k ≤ count → k - 1 < length results.pivots
    under-room high = omega (arith, here.low, here.sizes.pivots_size, ap length w.pivots_blank, length-replicate {A = ℕ} w.n 0, w.within)

    pub handed : {row : ℕ} → k ≤ count → row ≡ asked choice k → Handed w.p.height count choice k row copy dense
    handed high row_is = record {
      high = high;
      row_is = row_is;
      copy_size = here.copy_size ∙ w.copy_size;
      dense_size = here.dense_size ∙ w.dense_size;
      clear = here.clear;
    }

    module _ {row : ℕ} (high : k ≤ count) (row_is : row ≡ asked choice k) where
      pub under-asks : StepAsks k row q (square_in results) copy dense
      under-asks = step_asks w (here.at w) (one-back here) (handed high row_is)

      pub under-few : {r more : ℕ} {z' : SquareStores} → StepKnown k row q results copy dense (Went r more) z' → more ≤ 2097152
      under-few leaves = went_few w (here.at w) (one-back here) (handed high row_is) leaves

module _ {count : ℕ} {choice : Choice} {q : PlanStores} {results₀ : RunStores} {copy₀ dense₀ : List Float}
    {results : RunStores} {copy dense : List Float} {updates k row : ℕ}
    (here : Underway count choice q results₀ copy₀ dense₀ results copy dense updates k)
    (high : k ≤ count) (row_is : row ≡ asked choice k) where
  Asks : Type 0
  Asks = StepsAsk count choice q results₀ copy₀ dense₀

  -- the loop goes on
  pub under_on : {r more updates' : ℕ} {results' : RunStores} {copy' dense' : List Float}
      → StepsAsk count choice q results₀ copy₀ dense₀
      → StepKnown k row q results copy dense (Went r more) (square_in results')
      → Clear dense' → length results'.lower_slots ≡ length results.lower_slots → length results'.upper_slots ≡ length results.upper_slots
      → length results'.diagonal ≡ length results.diagonal → length results'.solution ≡ length results.solution → length copy' ≡ length copy → length dense' ≡ length dense
      → updates' ≡ updates + more → results'.pivots ≡ set results.pivots (k - 1) r
      → Underway count choice q results₀ copy₀ dense₀ results' copy' dense' updates' (k + 1)
  under_on {r} w leaves clear a b c d e f added chosen = record {
    low = omega arith;
    high = omega arith;
    few = omega (arith, here.few, under-few w here high row_is leaves);
    clear = clear;
    sizes = then_sizes here.sizes
        (record { l_size = a; u_size = b; d_size = c; x_size = d; pivots_size = ap length chosen ∙ length-set results.pivots (k - 1) r });
    copy_size = e ∙ here.copy_size;
    dense_size = f ∙ here.dense_size;
    at = λ v.
        let next : k + 1 - 1 ≡ suc (k - 1) = omega (arith, here.low) in
        rw next (went v (here.at v) (one-back here) (handed v here high row_is) leaves added chosen);
  }

  -- 13
  pub under_lacks :
      StepKnown k row q results copy dense NoPivot (square_in results)
      → (w : StepsAsk count choice q results₀ copy₀ dense₀)
      → Halts NoPivotReason k (running choice w.p.height w.n w.start count)
  unfolding reason_of
  under_lacks leaves w = record { why = noPivot; named = refl; course_is = lacked w (here.at w) (one-back here) (handed w here high row_is) leaves }

  -- 14
  pub under_unsound :
      StepKnown k row q results copy dense NotFinite (square_in results)
      → (w : StepsAsk count choice q results₀ copy₀ dense₀)
      → Halts NotFiniteReason k (running choice w.p.height w.n w.start count)
  unfolding reason_of
  under_unsound leaves w = record { why = notFinite; named = refl; course_is = unsound w (here.at w) (one-back here) (handed w here high row_is) leaves }

-- a list has a row for each step
pub rows-enough : {count : ℕ} (by : PivotChoice) (rows : List ℕ) {q : PlanStores} {results : RunStores} {copy dense : List Float}
    → StepsAsk count (chosen_by by rows) q results copy dense → (k : ℕ) → k ≤ count → by ≡ Listed → k ≤ length rows
unfolding chosen_by choice_fits
rows-enough by rows w k high is =
    let fits : choice_fits w.p (listed rows) ≡ true = ap (λ (b : PivotChoice). choice_fits w.p (chosen_by b rows)) (sym is) ∙ w.fits in
    omega (arith, eqb-true (length rows) w.p.n (and_left (eqb (length rows) w.p.n) _ fits), w.layout.width, w.within)

-- all steps are done
pub under_end : {count : ℕ} {choice : Choice} {q : PlanStores} {results₀ : RunStores} {copy₀ dense₀ : List Float}
    {results : RunStores} {copy dense : List Float} {updates k : ℕ}
    → Underway count choice q results₀ copy₀ dense₀ results copy dense updates k → count < k
    → (w : StepsAsk count choice q results₀ copy₀ dense₀)
    → Reached w.p w.s w.n choice w.start count updates results
under_end {count} {k = k} here past w = let last : k - 1 ≡ count = omega (arith, here.low, here.high) in rw last at (here.at w)
