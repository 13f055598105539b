-- The pivot of every step of a run, by either choice of rows: which row it comes from, where it stays and how large it is; and where a run stops with 13.
use mathlib.Core.Bool.{true, false, not, true≢false, false≢true}
use mathlib.Core.List.{List, [], ◌∷◌, ◌++◌}
use mathlib.Core.Logic.{◌↔◌}
use mathlib.Core.Path.{◌≡◌, refl, sym, ap, subst, ◌∙◌}
use Prim.Native.Nat.{ℕ, zero, suc, ◌+◌, ◌-◌, ◌≤◌, ◌<◌}
use native.Mathlib.Decide.{dec_lt}
use native.Mathlib.Omega.{arith}
use lib.Ieee.{Float}
use lib.ListN.{length, get_or, get_or-append}
use lib.Seq.{get_or-append-add}
use borrow.Author.Tests.{not-true}
use Rattle.lists.proofs.Members.{by_test, and_left, and_right, and_both, fails}
use Rattle.lists.proofs.Small.{less_one}
use Rattle.foundation.specs.Claims.{PivotsReach, ListedStops, LegalLists}
use Rattle.foundation.specs.Numbers.{may_pivot}
use Rattle.foundation.specs.Pattern.{Pattern, pattern_of}
use Rattle.foundation.specs.Reference.{Choice, listed, Extent, whole, cut, steps_of, pivot_row, eliminated, Reason, noPivot, notFinite, Going, Course, going, stopped, stepped, sound_with, step_with, step, running, solved_row, back, solved, ended, reference}
use Rattle.foundation.specs.RunCall.{value_at, right_at, choice_fits, extent_fits, order_fits, lacks_pivot, legal}
use Rattle.foundation.specs.Square.{Square, exchanged}
use Rattle.foundation.proofs.FloatSteps.{eliminated-above, eliminated_left, listed_in_range, pivot_found}
use Rattle.foundation.proofs.FloatRun.{run_to, run_did, pivots-length, steps_fit, reference_keeps}
use Rattle.foundation.proofs.FreeSteps.{swap_first, exchanged_left, exchanged_right_lem}

-- ---- the pivot's place

-- A step puts its pivot on the diagonal.
pivot_put : (k r : ℕ) (square : Square Float) → eliminated k (exchanged k r square) k k ≡ square r k
pivot_put k r square =
    eliminated-above k (exchanged k r square) k k (omega arith) ∙ exchanged_right_lem k r square k k (omega arith) ∙ ap (λ i. square i k) (swap_first k r)

-- A later step leaves it there.
pivot_left : (k r : ℕ) (square : Square Float) (t : ℕ) → t < k → eliminated k (exchanged k r square) t t ≡ square t t
pivot_left k r square t l = eliminated_left k (exchanged k r square) t t l ∙ exchanged_left k r square t t l

module _ (p : Pattern) (choice : Choice) (values : Square Float) (right : ℕ → Float) where
  -- Step t + 1 of a run: where the run was before it, the pivot row among those of a later time, and the pivot in a later square.
  pub record Chosen (t : ℕ) (rows : List ℕ) (square : Square Float) : Type 0 where
    pub before : Going
    pub from : run_to p choice values right t ≡ going before
    pub row : pivot_row choice p.height (suc t) (λ i. before.square i (suc t)) ≡ get_or rows t 0
    pub some : 1 ≤ get_or rows t 0
    pub pivot : square (suc t) (suc t) ≡ before.square (get_or rows t 0) (suc t)

  -- A run that goes on chose a row at each step done, and left the pivot on the diagonal.
  chosen_at : (s : ℕ) (g : Going) → run_to p choice values right s ≡ going g → (t : ℕ) → t < s → Chosen t g.pivots g.square
  unfolding stepped
  chosen_at zero g e t l = absurd (omega arith)
  chosen_at (suc s) g e t l =
      let d = run_did p choice values right s g e in
      let long : length d.was.pivots ≡ s = pivots-length p choice values right s d.was d.from in
      subst (λ x. Chosen t x.pivots x.square) (sym d.becomes)
      (elim (dec_lt t s) [
        | yes earlier ↦
            let c = chosen_at s d.was d.from t earlier in
            let same : get_or (d.was.pivots ++ d.row ∷ []) t 0 ≡ get_or d.was.pivots t 0 = get_or-append d.was.pivots (d.row ∷ []) 0 t (omega arith) in
            record {
              before = c.before;
              from = c.from;
              row = rw same c.row;
              some = rw same c.some;
              pivot = rw same (pivot_left (suc s) d.row d.was.square (suc t) (omega arith) ∙ c.pivot);
            }
        | no now ↦
            let place : t ≡ length d.was.pivots + 0 = omega arith in
            let last : get_or (d.was.pivots ++ d.row ∷ []) t 0 ≡ d.row = rw place (get_or-append-add d.was.pivots (d.row ∷ []) 0 0) in
            let this : s ≡ t = omega arith in
            record {
              before = d.was;
              from = subst (λ u. run_to p choice values right u ≡ going d.was) this d.from;
              row = subst (λ u. pivot_row choice p.height (suc u) (λ i. d.was.square i (suc u)) ≡ d.row) this d.chosen ∙ sym last;
              some = rw last d.found;
              pivot = rw last (subst (λ u. eliminated (suc s) (exchanged (suc s) d.row d.was.square) (suc u) (suc u) ≡ d.was.square d.row (suc u)) this
                  (pivot_put (suc s) d.row d.was.square));
            }
      ])

  -- So did the reference, whole or cut.
  pub chosen_by_lem :
      (extent : Extent) (t : ℕ) → suc t ≤ steps_of extent p.n → (g : Going) → reference choice extent p values right ≡ going g → Chosen t g.pivots g.square
  chosen_by_lem extent t high g e =
      let (was, from, same) = reference_keeps choice extent p values right g e in
      subst (λ (rows : List ℕ). Chosen t rows g.square) (sym same.pivots)
      (subst (Chosen t was.pivots) (sym same.square) (chosen_at (steps_of extent p.n) was from t high))

  -- ---- 13

  -- A run that stopped stays so.
  stays-stopped :
      (s m : ℕ) (reason : Reason) (k : ℕ) → s ≤ m → run_to p choice values right s ≡ stopped reason k → run_to p choice values right m ≡ stopped reason k
  unfolding running step
  stays-stopped s zero reason k h e = let same : s ≡ 0 = omega arith in subst (λ u. run_to p choice values right u ≡ stopped reason k) same e
  stays-stopped s (suc m) reason k h e =
      elim (dec_lt m s) [
        | yes l ↦ let same : s ≡ suc m = omega arith in subst (λ u. run_to p choice values right u ≡ stopped reason k) same e
        | no l ↦ rw (stays-stopped s m reason k (omega arith) e)
      ]

  -- Without a pivot row it stops with 13.
  stops_without :
      (t : ℕ) (before : Going) → run_to p choice values right t ≡ going before → pivot_row choice p.height (suc t) (λ i. before.square i (suc t)) ≡ 0
      → run_to p choice values right (suc t) ≡ stopped noPivot (suc t)
  unfolding running step step_with
  stops_without t before e none = rw (e, none)

  -- Where a run stopped with 13: it came to that step, which had no pivot row.
  record Lacked (s k : ℕ) : Type 0 where
    done : ℕ
    before : Going
    next : k ≡ suc done
    within : done < s
    from : run_to p choice values right done ≡ going before
    none : pivot_row choice p.height (suc done) (λ i. before.square i (suc done)) ≡ 0

  lacked : (s k : ℕ) → run_to p choice values right s ≡ stopped noPivot k → Lacked s k
  unfolding running step step_with
  lacked zero k e = let z : ◌≡◌ {A = ℕ} 0 1 = cc in absurd (omega arith)
  lacked (suc s) k e = of (run_to p choice values right s) refl (lacked s k) e
    where
      at :
          (g : Going) → run_to p choice values right s ≡ going g → (r : ℕ) → pivot_row choice p.height (suc s) (λ i. g.square i (suc s)) ≡ r
          → step_with p.height p.n (suc s) g r ≡ stopped noPivot k → Lacked (suc s) k
      at g f zero chosen e = record { done = s; before = g; next = cc; within = omega arith; from = f; none = chosen }
      at g f (suc r) chosen e =
          by_test (sound_with p.height p.n (suc s) (suc r) g)
          (λ x. let on : going (stepped p.height p.n (suc s) (suc r) g) ≡ stopped noPivot k = rw x at e in
          let z : ◌≡◌ {A = ℕ} 0 1 = cc in absurd (omega arith))
          (λ x. let other : stopped notFinite (suc s) ≡ stopped noPivot k = rw x at e in
          let z : ◌≡◌ {A = ℕ} 0 1 = cc in absurd (omega arith))

      of :
          (c : Course) → run_to p choice values right s ≡ c → (run_to p choice values right s ≡ stopped noPivot k → Lacked s k)
          → step choice p.height p.n (suc s) c ≡ stopped noPivot k → Lacked (suc s) k
      of (stopped reason at) f earlier e =
          let l = earlier (f ∙ e) in
          record { done = l.done; before = l.before; next = l.next; within = omega (arith, l.within); from = l.from; none = l.none }
      of (going g) f earlier e = at g f (pivot_row choice p.height (suc s) (λ i. g.square i (suc s))) refl e

  -- A run that stopped with 13 at a step, which it came to, had no pivot row there.
  stopped-without :
      (s t : ℕ) (before : Going) → run_to p choice values right t ≡ going before → run_to p choice values right s ≡ stopped noPivot (suc t)
      → pivot_row choice p.height (suc t) (λ i. before.square i (suc t)) ≡ 0
  stopped-without s t before was e =
      let l = lacked s (suc t) e in
      let this : l.done ≡ t = omega (arith, l.next) in
      let here : run_to p choice values right t ≡ going l.before = subst (λ u. run_to p choice values right u ≡ going l.before) this l.from in
      let same : l.before ≡ before = cc in
      subst (λ x. pivot_row choice p.height (suc t) (λ i. x.square i (suc t)) ≡ 0) same
      (subst (λ u. pivot_row choice p.height (suc u) (λ i. l.before.square i (suc u)) ≡ 0) this l.none)

-- Back substitution gives no 13.
back_no_pivot : (n i : ℕ) (g : Going) (k : ℕ) → back n i g ≡ stopped noPivot k → ⊥
unfolding back
back_no_pivot n zero g k e = let z : ◌≡◌ {A = ℕ} 0 1 = cc in absurd (omega arith)
back_no_pivot n (suc i) g k e =
    by_test (solved_row n g.square g.right (suc i)).sound
    (λ t. back_no_pivot n i _ k (rw t at e))
    (λ t.
    let halted : stopped notFinite (suc i) ≡ stopped noPivot k = rw t at e in
    let z : ◌≡◌ {A = ℕ} 0 1 = cc in absurd (omega arith))

ended_no_pivot : (extent : Extent) (n : ℕ) (c : Course) (k : ℕ) → ended extent n c ≡ stopped noPivot k → c ≡ stopped noPivot k
unfolding ended solved
ended_no_pivot whole n (going g) k e = absurd (back_no_pivot n n g k e)
ended_no_pivot whole n (stopped reason at) k e = e
ended_no_pivot (cut s) n c k e = e

-- a run that stopped is not solved
pub ended-stopped : (extent : Extent) (n : ℕ) (reason : Reason) (k : ℕ) → ended extent n (stopped reason k) ≡ stopped reason k
unfolding ended solved
ended-stopped whole n reason k = refl
ended-stopped (cut s) n reason k = refl

-- ---- 13 and the row of a step

module _ (p : Pattern) (choice : Choice) (extent : Extent) (values : Square Float) (right : ℕ → Float) where
  -- A run that came to a step stops there with 13 just where that step has no pivot row.
  pub stops_just_where :
      (t : ℕ) → suc t ≤ steps_of extent p.n → (before : Going) → run_to p choice values right t ≡ going before
      → (reference choice extent p values right ≡ stopped noPivot (suc t)) ↔ (pivot_row choice p.height (suc t) (λ i. before.square i (suc t)) ≡ 0)
  unfolding reference
  stops_just_where t high before e = (
    λ f. stopped-without p choice values right (steps_of extent p.n) t before e (ended_no_pivot extent p.n _ (suc t) f),
    λ none.
        let there : run_to p choice values right (steps_of extent p.n) ≡ stopped noPivot (suc t) =
        stays-stopped p choice values right (suc t) (steps_of extent p.n) noPivot (suc t) high (stops_without p choice values right t before e none) in
        ap (ended extent p.n) there ∙ ended-stopped extent p.n noPivot (suc t),
  )

-- step 0 is none
pub no_step : 1 ≤ 0 → ⊥
no_step low = omega arith

-- ---- the pivots of a run that goes on

module _ (p : Pattern) (choice : Choice) (extent : Extent) (order : order_fits p choice extent ≡ true) (values : Square Float) (right : ℕ → Float) where
  reaches :
      (t : ℕ) → suc t ≤ steps_of extent p.n → (g : Going) → reference choice extent p values right ≡ going g
      → (before : Going) × (run_to p choice values right t ≡ going before)
      × (g.square (suc t) (suc t) ≡ before.square (get_or g.pivots t 0) (suc t)) × (may_pivot (g.square (suc t) (suc t)) ≡ true)
  unfolding order_fits
  reaches t high g e =
      let c = chosen_by_lem p choice values right extent t high g e in
      let within = steps_fit p extent (and_right (choice_fits p choice) (extent_fits p extent) order) in
      let (low, high, serves) =
      pivot_found p choice (and_left (choice_fits p choice) (extent_fits p extent) order) t (omega arith) (λ i. c.before.square i (suc t)) (get_or g.pivots t 0) c.row c.some in
      (c.before, c.from, c.pivot, rw c.pivot serves)

pub pivots_reach : PivotsReach
unfolding PivotsReach may_pivot reference ended steps_of
pivots_reach p choice extent order values right g e zero (low, high) = absurd (no_step low)
pivots_reach p choice extent order values right g e (suc t) (low, high) = rw (less_one t) (reaches p choice extent order values right t high g e)

-- ---- a list's row that is too faint

-- A list that 12 lets pass has no row for a step just where the row named cannot serve.
listed-without :
    (p : Pattern) (rows : List ℕ) → choice_fits p (listed rows) ≡ true → (t : ℕ) → t < p.n → (entry : ℕ → Float)
    → (pivot_row (listed rows) p.height (suc t) entry ≡ 0) ↔ (may_pivot (entry (get_or rows t 0)) ≡ false)
unfolding pivot_row
listed-without p rows fits t l entry = (
  λ none. fails (may_pivot (entry (get_or rows t 0)))
      (λ may. let zero_row : get_or rows t 0 ≡ 0 = rw may at none in omega (arith, (listed_in_range p rows fits t l).0)),
  λ faint. rw faint,
)

pub listed_stops : ListedStops
unfolding ListedStops may_pivot reference ended steps_of order_fits
listed_stops p rows extent order values right zero before (low, high) e = absurd (no_step low)
listed_stops p rows extent order values right (suc t) before (low, high) e =
    rw (less_one t) (at (rw (less_one t) at e))
  where
    at :
        run_to p (listed rows) values right t ≡ going before
        → (reference (listed rows) extent p values right ≡ stopped noPivot (suc t)) ↔ (may_pivot (before.square (get_or rows t 0) (suc t)) ≡ false)
    at from =
        let within = steps_fit p extent (and_right (choice_fits p (listed rows)) (extent_fits p extent) order) in
        let (there, back) = stops_just_where p (listed rows) extent values right t high before from in
        let (faint, none) = listed-without p rows (and_left (choice_fits p (listed rows)) (extent_fits p extent) order) t (omega arith) (λ i. before.square i (suc t)) in
        (λ f. faint (there f), λ f. back (none f))

-- ---- legal lists

lacks_at : (c : Course) → lacks_pivot c ≡ true → (k : ℕ) × (c ≡ stopped noPivot k)
unfolding lacks_pivot
lacks_at (going g) e = absurd (false≢true e)
lacks_at (stopped noPivot k) e = (k, refl)
lacks_at (stopped notFinite k) e = absurd (false≢true e)

module _ (p : Pattern) (rows : List ℕ) (fits : choice_fits p (listed rows) ≡ true) (values : Square Float) (right : ℕ → Float) where
  -- Where no pivot of a list is too faint, its run does not stop with 13.
  never_lacks :
      ((t : ℕ) → t < p.n → (before : Going) → run_to p (listed rows) values right t ≡ going before → may_pivot (before.square (get_or rows t 0) (suc t)) ≡ true)
      → lacks_pivot (reference (listed rows) whole p values right) ≡ false
  unfolding reference steps_of
  never_lacks meets =
      fails (lacks_pivot (reference (listed rows) whole p values right))
      (λ lacks.
      let (k, stop) = lacks_at (reference (listed rows) whole p values right) lacks in
      let l = lacked p (listed rows) values right p.n k (ended_no_pivot whole p.n _ k stop) in
      true≢false (sym (meets l.done l.within l.before l.from) ∙ (listed-without p rows fits l.done l.within _).0 l.none))

  -- Where its run does not stop with 13, no pivot that it comes to is.
  never_faint :
      lacks_pivot (reference (listed rows) whole p values right) ≡ false → (t : ℕ) → t < p.n → (before : Going) → run_to p (listed rows) values right t ≡ going before
      → may_pivot (before.square (get_or rows t 0) (suc t)) ≡ true
  unfolding lacks_pivot steps_of
  never_faint none t l before from =
      by_test (may_pivot (before.square (get_or rows t 0) (suc t))) (λ may. may)
      (λ faint.
      let stop = (stops_just_where p (listed rows) whole values right t l before from).1 ((listed-without p rows fits t l (λ i. before.square i (suc t))).1 faint) in
      absurd (true≢false (sym (ap lacks_pivot stop) ∙ none)))

pub legal_lists : LegalLists
unfolding LegalLists legal may_pivot reference ended steps_of pattern_of
legal_lists p w rows = (
  λ h.
      let fits = and_left (choice_fits (pattern_of p) (listed rows)) _ h in (
        fits,
        λ k range before e.
            at k range before e
            (never_faint (pattern_of p) rows fits (value_at p w.values) (right_at w.right) (not-true _ (and_right (choice_fits (pattern_of p) (listed rows)) _ h))),
      ),
  λ h.
      and_both _ _ h.0
      (ap not (never_lacks (pattern_of p) rows h.0 (value_at p w.values) (right_at w.right) (λ t l before e. rw (less_one t) at (h.1 (suc t) (omega arith, l) before (rw (less_one t) e))))),
)
  where
    at :
        (k : ℕ) → (1 ≤ k) × (k ≤ p.n) → (before : Going) → run_to (pattern_of p) (listed rows) (value_at p w.values) (right_at w.right) (k - 1) ≡ going before
        → ((t : ℕ) → t < p.n → (b : Going) → run_to (pattern_of p) (listed rows) (value_at p w.values) (right_at w.right) t ≡ going b
        → may_pivot (b.square (get_or rows t 0) (suc t)) ≡ true)
        → may_pivot (before.square (get_or rows (k - 1) 0) k) ≡ true
    at zero range before e meets = absurd (no_step range.0)
    at (suc t) range before e meets = rw (less_one t) (meets t range.1 before (rw (less_one t) at e))
