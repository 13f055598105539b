-- A run of finite numbers that goes on is finite throughout: each step that it does, and back substitution, judged finite all that they wrote.
use mathlib.Core.Bool.{true, false, ◌&&◌, false≢true}
use mathlib.Core.List.{List, [], ◌∷◌}
use mathlib.Core.Path.{◌≡◌, refl, sym, ap, subst, ◌∙◌}
use Prim.Native.Nat.{ℕ, zero, suc, ◌≤◌, ◌<◌}
use native.Mathlib.Omega.{arith}
use lib.Dec.{eqb, ltb, leb}
use lib.Ieee.{Float}
use lib.ListN.{get_or}
use borrow.Author.Tests.{ltb-true}
use Rattle.lists.specs.Functions.{all, update}
use Rattle.lists.specs.Sets.{between}
use Rattle.lists.proofs.Members.{by_test, and_left, and_right, in_between, all_in}
use Rattle.foundation.specs.Claims.{FiniteGiven, FiniteThroughout}
use Rattle.foundation.specs.Numbers.{plus_zero, is_zero, finite, product, difference, quotient}
use Rattle.foundation.specs.Pattern.{Lent, Pattern, present, pattern_of}
use Rattle.foundation.specs.Reference.{Choice, Extent, whole, cut, steps_of, multiplier, reduced, eliminated, exchanged_right, eliminated_right, sound_update, sound_place, sound_row, sound_step, notFinite, Going, Course, going, stopped, stepped, sound_with, running, starting, Checked, substituted, solved_row, back, solved, ended, reference}
use Rattle.foundation.specs.RunCall.{Lending, all_finite, choice_fits, extent_fits, order_fits, value_at, right_at}
use Rattle.foundation.specs.Square.{Square, swap, placed, exchanged}
use Rattle.foundation.proofs.FloatSteps.{multiplier-zero}
use Rattle.foundation.proofs.FloatRun.{run_to, run_did, pivot_in_range, back_keeps, steps_fit}

-- finite at every place of a square of so many rows and columns, and of a right side
abbrev pub FiniteSquare : ℕ → ℕ → Square Float → Type 0
FiniteSquare height n square = (i j : ℕ) → (1 ≤ i) × (i ≤ height) × (1 ≤ j) × (j ≤ n) → finite (square i j) ≡ true

abbrev pub FiniteSide : ℕ → (ℕ → Float) → Type 0
FiniteSide height right = (i : ℕ) → (1 ≤ i) × (i ≤ height) → finite (right i) ≡ true

-- ---- what is given

-- a number read off a list of finite ones is finite, past its end too
pub number-finite : (xs : List Float) (q : ℕ) → all finite xs ≡ true → finite (get_or xs q plus_zero) ≡ true
unfolding all finite plus_zero
number-finite [] q e = refl
number-finite (x ∷ xs) zero e = and_left (finite x) (all finite xs) e
number-finite (x ∷ xs) (suc q) e = number-finite xs q (and_right (finite x) (all finite xs) e)

-- what 11 lets pass is finite at every place and row
pub given-finite : (p : Lent) (w : Lending) → all_finite w ≡ true → FiniteGiven (pattern_of p) (value_at p w.values) (right_at w.right)
unfolding FiniteGiven all_finite value_at right_at finite plus_zero
given-finite p w e = (value, side)
  where
    value : (i j : ℕ) → present (pattern_of p) i j ≡ true → finite (value_at p w.values i j) ≡ true
    value zero j b = refl
    value (suc i) j b = number-finite w.values _ (and_left (all finite w.values) (all finite w.right) e)

    side : (i : ℕ) → (1 ≤ i) × (i ≤ (pattern_of p).height) → finite (right_at w.right i) ≡ true
    side zero b = refl
    side (suc i) b = number-finite w.right i (and_right (all finite w.values) (all finite w.right) e)

-- ---- the exchange

-- a row of the square is exchanged for one of the square
swap-within :
    (k r i height : ℕ) → (1 ≤ k) × (k ≤ height) → (1 ≤ r) × (r ≤ height) → (1 ≤ i) × (i ≤ height) → (1 ≤ swap k r i) × (swap k r i ≤ height)
unfolding swap
swap-within k r i height a b c = by_test (eqb i k) (λ e. rw e b) (λ e. by_test (eqb i r) (λ f. rw (e, f) a) (λ f. rw (e, f) c))

module _ (height n k r : ℕ) (at : (1 ≤ k) × (k ≤ height)) (chosen : (1 ≤ r) × (r ≤ height)) where
  square-exchanged : (square : Square Float) → FiniteSquare height n square → FiniteSquare height n (exchanged k r square)
  unfolding exchanged
  square-exchanged square all_finite_lem i j (a, b, c, d) =
      by_test (leb k j)
      (λ e. let w = swap-within k r i height at chosen (a, b) in rw e (all_finite_lem (swap k r i) j (w.0, w.1, c, d)))
      (λ e. rw e (all_finite_lem i j (a, b, c, d)))

  right_exchanged : (right : ℕ → Float) → FiniteSide height right → FiniteSide height (exchanged_right k r right)
  unfolding exchanged_right
  right_exchanged right all_finite_lem i c = all_finite_lem (swap k r i) (swap-within k r i height at chosen c)

-- ---- the step

-- an update that was judged leaves a finite number
update-finite : (m u place : Float) → sound_update m u place ≡ true → finite (difference place (product m u)) ≡ true
unfolding sound_update
update-finite m u place e = and_right (finite (product m u)) (finite (difference place (product m u))) e

place_finite : (m u place : Float) → finite place ≡ true → (is_zero m ≡ false → sound_place m u place ≡ true) → finite (reduced m u place) ≡ true
unfolding reduced sound_place
place_finite m u place was sound =
    by_test (is_zero m) (λ e. rw e was)
    (λ e.
    by_test (is_zero u) (λ f. rw (e, f) was)
    (λ f. rw (e, f) (update-finite m u place (rw f at (sound e)))))

-- each row below the pivot is sound in a step that is
pub row_judged : (height n k : ℕ) (square : Square Float) (right : ℕ → Float) → sound_step height n k square right ≡ true
    → (i : ℕ) → k < i → i ≤ height → sound_row n k square right i ≡ true
unfolding sound_step
row_judged height n k square right judged i low high = all_in i (sound_row n k square right) (between (suc k) height) judged (in_between i (suc k) height low high)

module _ (height n k : ℕ) (square : Square Float) (right : ℕ → Float) (at : (1 ≤ k) × (k ≤ height))
    (square_was : FiniteSquare height n square) (right_was : FiniteSide height right) (judged : sound_step height n k square right ≡ true) where
  -- what a row was judged by, where its multiplier is not zero
  updates-judged :
      (i : ℕ) → k < i → i ≤ height → is_zero (multiplier k square i) ≡ false
      → sound_update (multiplier k square i) (right k) (right i) && all (λ j. sound_place (multiplier k square i) (square k j) (square i j)) (between (suc k) n) ≡ true
  unfolding sound_row
  updates-judged i low high e =
      by_test (is_zero (square i k))
      (λ z. absurd (false≢true (sym e ∙ ap is_zero (multiplier-zero k square i z) ∙ z)))
      (λ z. rw e at (and_right (finite (multiplier k square i)) _ (rw z at (row_judged height n k square right judged i low high))))

  multiplier-finite : (i : ℕ) → k < i → i ≤ height → k ≤ n → finite (multiplier k square i) ≡ true
  unfolding sound_row
  multiplier-finite i low high col =
      by_test (is_zero (square i k))
      (λ z. rw (multiplier-zero k square i z) (square_was i k (omega arith, high, at.0, col)))
      (λ z. and_left (finite (multiplier k square i)) _ (rw z at (row_judged height n k square right judged i low high)))

  column_judged :
      (i j : ℕ) → k < i → i ≤ height → k < j → j ≤ n → is_zero (multiplier k square i) ≡ false
      → sound_place (multiplier k square i) (square k j) (square i j) ≡ true
  column_judged i j low high left last e =
      all_in j (λ j. sound_place (multiplier k square i) (square k j) (square i j)) (between (suc k) n)
      (and_right (sound_update (multiplier k square i) (right k) (right i)) _ (updates-judged i low high e)) (in_between j (suc k) n left last)

  square-eliminated : k ≤ n → FiniteSquare height n (eliminated k square)
  unfolding eliminated
  square-eliminated col i j (a, b, c, d) =
      by_test (ltb k i)
      (λ e.
      let low : k < i = ltb-true k i e in
      by_test (eqb j k) (λ f. rw (e, f) (multiplier-finite i low b col))
      (λ f.
      by_test (ltb k j)
      (λ h. rw (e, f, h) (place_finite (multiplier k square i) (square k j) (square i j) (square_was i j (a, b, c, d)) (column_judged i j low b (ltb-true k j h) d)))
      (λ h. rw (e, f, h) (square_was i j (a, b, c, d)))))
      (λ e. rw e (square_was i j (a, b, c, d)))

  right_eliminated : FiniteSide height (eliminated_right k (multiplier k square) right)
  unfolding eliminated_right
  right_eliminated i (a, b) =
      by_test (ltb k i)
      (λ e.
      by_test (is_zero (multiplier k square i)) (λ f. rw (e, f) (right_was i (a, b)))
      (λ f.
      rw (e, f)
      (update-finite (multiplier k square i) (right k) (right i)
      (and_left (sound_update (multiplier k square i) (right k) (right i)) _ (updates-judged i (ltb-true k i e) b f)))))
      (λ e. rw e (right_was i (a, b)))

-- ---- the run

-- a run as far as it came, finite throughout
pub record Sound (p : Pattern) (g : Going) : Type 0 where
  pub square : FiniteSquare p.height p.n g.square
  pub right : FiniteSide p.height g.right

sound-stepped :
    (p : Pattern) (k r : ℕ) (g : Going) → (1 ≤ k) × (k ≤ p.n) → (k ≤ r) × (r ≤ p.height) → Sound p g → sound_with p.height p.n k r g ≡ true
    → Sound p (stepped p.height p.n k r g)
unfolding stepped sound_with
sound-stepped p k r g (low, col) (from, high) was judged =
    let at : (1 ≤ k) × (k ≤ p.height) = (low, omega arith) in
    let chosen : (1 ≤ r) × (r ≤ p.height) = (omega arith, high) in
    let square = square-exchanged p.height p.n k r at chosen g.square was.square in
    let right = right_exchanged p.height p.n k r at chosen g.right was.right in
    record {
      square = square-eliminated p.height p.n k _ _ at square right judged col;
      right = right_eliminated p.height p.n k _ _ at square right judged;
    }

module _ (p : Pattern) (values : Square Float) (right : ℕ → Float) (given : FiniteGiven p values right) where
  sound_start : Sound p (starting p values right)
  unfolding starting placed FiniteGiven finite plus_zero
  sound_start =
      record {
        square = λ i j b. by_test (present p i j) (λ e. rw e (given.0 i j e)) (λ e. rw e);
        right = given.1;
      }

  -- a run that goes on after some steps is finite throughout
  pub sound-running : (choice : Choice) → choice_fits p choice ≡ true → (s : ℕ) (g : Going) → s ≤ p.n → run_to p choice values right s ≡ going g → Sound p g
  unfolding running
  sound-running choice fits zero g h e = let same : starting p values right ≡ g = cc in subst (Sound p) same sound_start
  sound-running choice fits (suc s) g h e =
      let d = run_did p choice values right s g e in
      let (low, high, may) = pivot_in_range p choice fits s (omega arith) d in
      subst (Sound p) (sym d.becomes)
      (sound-stepped p (suc s) d.row d.was (omega arith, h) (low, high) (sound-running choice fits s d.was (omega arith) d.from) d.sound)

-- ---- back substitution

solved-finite : (n : ℕ) (square : Square Float) (solution : ℕ → Float) (i : ℕ) → (solved_row n square solution i).sound ≡ true → finite (solved_row n square solution i).value ≡ true
unfolding solved_row
solved-finite n square solution i e =
    let c : Checked = substituted (square i) solution (record { value = solution i; sound = true }) (between (suc i) n) in
    and_right c.sound (finite (quotient c.value (square i i))) e

back-finite : (height n i : ℕ) (g h : Going) → back n i g ≡ going h → FiniteSide height g.right → FiniteSide height h.right
unfolding back update
back-finite height n zero g h e was = let same : g ≡ h = cc in subst (λ x. FiniteSide height x.right) same was
back-finite height n (suc i) g h e was =
    by_test (solved_row n g.square g.right (suc i)).sound
    (λ t. back-finite height n i _ h (rw t at e) (updated _ (solved-finite n g.square g.right (suc i) t)))
    (λ t.
    let halted : stopped notFinite (suc i) ≡ going h = rw t at e in
    let z : ◌≡◌ {A = ℕ} 0 1 = cc in absurd (omega arith))
  where
    updated : (x : Float) → finite x ≡ true → FiniteSide height (update g.right (suc i) x)
    updated x e j c = by_test (eqb j (suc i)) (λ f. rw f e) (λ f. rw f (was j c))

sound-ended :
    (p : Pattern) (extent : Extent) (c : Course) (h : Going) → ended extent p.n c ≡ going h → ((g : Going) → c ≡ going g → Sound p g) → Sound p h
unfolding ended solved
sound-ended p (cut s) c h e was = was h e
sound-ended p whole (stopped reason at) h e was = let z : ◌≡◌ {A = ℕ} 0 1 = cc in absurd (omega arith)
sound-ended p whole (going g) h e was =
    let kept = back_keeps p.n p.n g h e in
    record {
      square = subst (FiniteSquare p.height p.n) (sym kept.square) (was g refl).square;
      right = back-finite p.height p.n p.n g h e (was g refl).right;
    }

pub finite_throughout : FiniteThroughout
unfolding FiniteThroughout order_fits reference
finite_throughout p choice extent order values right given g e =
    let fits : choice_fits p choice ≡ true = and_left (choice_fits p choice) (extent_fits p extent) order in
    let within : steps_of extent p.n ≤ p.n = steps_fit p extent (and_right (choice_fits p choice) (extent_fits p extent) order) in
    let sound : Sound p g = sound-ended p extent (run_to p choice values right (steps_of extent p.n)) g e (λ h f. sound-running p values right given choice fits (steps_of extent p.n) h within f) in
    (sound.square, sound.right)
