-- What a call for a test load answers.
use mathlib.Core.Bool.{Bool, true, false, true≢false, ◌||◌}
use mathlib.Core.Logic.{◌⊎◌, inl, inr}
use mathlib.Core.Path.{◌≡◌, refl, sym, ap, ◌∙◌}
use Prim.Native.Nat.{ℕ, ◌+◌, ◌*◌, ◌≤◌, ◌<◌}
use native.Mathlib.Nat.{mul-le-mul}
use native.Mathlib.Omega.{arith}
use lib.Dec.{eqb, ltb}
use lib.ListN.{length}
use borrow.Author.Tests.{eqb-true, eqb-false, eq-eqb, ne_eqb, ltb-true, ltb-false, lt-ltb, le-ltb}
use Rattle.lists.proofs.Members.{by_test, and_left, and_right}
use Rattle.foundation.specs.Answer.{refused, granted, refuse_if, and_then}
use Rattle.foundation.specs.Pattern.{max_n, max_entries}
use Rattle.foundation.specs.Load.{Load, load_of}
use Rattle.foundation.specs.LoadCall.{LoadSizes, load_sizes, load_sizes_fit, judged_load, within_entries, loaded, load_answer}
use Rattle.foundation.specs.Claims.Loads.{LoadLimits, NoDivisors, OtherSizes, EntriesAnswered, WholeSquares}
use Rattle.foundation.proofs.Stores.{same_granted, one_number_lem, not_both}
use Rattle.foundation.proofs.LoadDraws.{load-whole}

-- ---- the sizes

-- those that are asked for
abbrev pub right_sizes : ℕ → LoadSizes
right_sizes n = load_sizes (n + 1) 16384 16384 n

sizes_same : (w : LoadSizes) {a b c e : ℕ} → w.starts ≡ a → w.columns ≡ b → w.values ≡ c → w.right ≡ e → w ≡ load_sizes a b c e
sizes_same w p q r s = rw (← p, ← q, ← r, ← s)

fit_sizes : (n : ℕ) (w : LoadSizes) → load_sizes_fit n w ≡ true → w ≡ right_sizes n
unfolding load_sizes_fit max_entries
fit_sizes n w e =
    let f = and_right (eqb w.columns 16384) _ e in
    let g = and_right (eqb w.values 16384) _ f in
    sizes_same w (eqb-true _ _ (and_left (eqb w.starts (n + 1)) _ g)) (eqb-true _ _ (and_left (eqb w.columns 16384) _ e))
    (eqb-true _ _ (and_left (eqb w.values 16384) _ f)) (eqb-true _ _ (and_right (eqb w.starts (n + 1)) _ g))

sizes_fit_lem : (n : ℕ) → load_sizes_fit n (right_sizes n) ≡ true
unfolding load_sizes_fit max_entries
sizes_fit_lem n = rw (eq-eqb (n + 1) (n + 1) refl, eq-eqb n n refl)

off_sizes : (n : ℕ) (w : LoadSizes) → load_sizes_fit n w ≡ false → w ≡ right_sizes n → ⊥
off_sizes n w e same = true≢false (sym (sizes_fit_lem n) ∙ ap (load_sizes_fit n) (sym same) ∙ e)

-- ---- the limits of n

abbrev outside : ℕ → Bool
outside n = eqb n 0 || ltb 1024 n

pub some : (n : ℕ) → (n ≡ 0 → ⊥) → 1 ≤ n
some n h = by_test (ltb 0 n) (λ e. ltb-true 0 n e) (λ e. let none : n ≡ 0 = omega (arith, ltb-false 0 n e) in absurd (h none))

within : (n : ℕ) → outside n ≡ false → (1 ≤ n) × (n ≤ 1024)
within n e =
    by_test (eqb n 0)
    (λ none. absurd (true≢false (rw none at e)))
    (λ is. (some n (eqb-false n 0 is), ltb-false 1024 n (rw is at e)))

within_test : (n : ℕ) → (1 ≤ n) × (n ≤ 1024) → outside n ≡ false
within_test n (low, high) = let is : n ≡ 0 → ⊥ = λ e. omega (arith, e) in rw (ne_eqb n 0 is, le-ltb 1024 n high)

without : (n : ℕ) → outside n ≡ true → (1 ≤ n) × (n ≤ 1024) → ⊥
without n e inside = true≢false (sym e ∙ within_test n inside)

-- ---- the tests in their order

module _ (n d : ℕ) (w : LoadSizes) where
  pub outside-limits : ((1 ≤ n) × (n ≤ 1024) → ⊥) → judged_load n d w ≡ refused 1 0
  unfolding judged_load refuse_if max_n
  outside-limits out = by_test (outside n) (λ e. rw e) (λ e. absurd (out (within n e)))

  module _ (inside : (1 ≤ n) × (n ≤ 1024)) where
    pub no_divisor : d ≡ 0 → judged_load n d w ≡ refused 23 0
    unfolding judged_load refuse_if max_n
    no_divisor e = rw (within_test n inside, eq-eqb d 0 e)

    module _ (divides : d ≡ 0 → ⊥) where
      pub no_room : load_sizes_fit n w ≡ false → judged_load n d w ≡ refused 6 0
      unfolding judged_load refuse_if max_n
      no_room e = rw (within_test n inside, ne_eqb d 0 divides, e)

      pub may_draw : load_sizes_fit n w ≡ true → judged_load n d w ≡ granted 0
      unfolding judged_load refuse_if max_n
      may_draw e = rw (within_test n inside, ne_eqb d 0 divides, e)

-- what passed them
pub record Passed (n d : ℕ) (w : LoadSizes) : Type 0 where
  pub inside : (1 ≤ n) × (n ≤ 1024)
  pub divisor : 0 < d
  pub sizes : w ≡ right_sizes n

data Judged (n d : ℕ) (w : LoadSizes) : Type 0 where
  of_limits : ((1 ≤ n) × (n ≤ 1024) → ⊥) → judged_load n d w ≡ refused 1 0 → Judged n d w
  of_divisor : (1 ≤ n) × (n ≤ 1024) → d ≡ 0 → judged_load n d w ≡ refused 23 0 → Judged n d w
  of_sizes : (1 ≤ n) × (n ≤ 1024) → 0 < d → (w ≡ right_sizes n → ⊥) → judged_load n d w ≡ refused 6 0 → Judged n d w
  of_passed : Passed n d w → judged_load n d w ≡ granted 0 → Judged n d w

judged : (n d : ℕ) (w : LoadSizes) → Judged n d w
judged n d w =
    by_test (outside n)
    (λ e. of_limits (without n e) (outside-limits n d w (without n e)))
    (λ e. let inside = within n e in
    by_test (eqb d 0)
    (λ none. let zero_is = eqb-true d 0 none in of_divisor inside zero_is (no_divisor n d w inside zero_is))
    (λ is. let divides = eqb-false d 0 is in
    by_test (load_sizes_fit n w)
    (λ fits. of_passed (record { inside = inside; divisor = some d divides; sizes = fit_sizes n w fits }) (may_draw n d w inside divides fits))
    (λ off. of_sizes inside (some d divides) (off_sizes n w off) (no_room n d w inside divides off))))

pub passed : (n d : ℕ) (w : LoadSizes) (none : ℕ) → judged_load n d w ≡ granted none → Passed n d w
passed n d w none e = from (judged n d w)
  where
    from : Judged n d w → Passed n d w
    from (of_limits out r) = not_both r e
    from (of_divisor inside zero_is r) = not_both r e
    from (of_sizes inside divisor off r) = not_both r e
    from (of_passed p r) = p

-- ---- the load, or the refusal

module _ (seed n d : ℕ) (w : LoadSizes) where
  pub refused-before : (number : ℕ) → judged_load n d w ≡ refused number 0 → loaded seed n d w ≡ refused number 0
  unfolding loaded and_then
  refused-before number e = rw e

  module _ {none : ℕ} (e : judged_load n d w ≡ granted none) where
    pub passes_entries : 16384 < length (load_of seed n d).columns → loaded seed n d w ≡ refused 1 0
    unfolding loaded and_then within_entries refuse_if max_entries
    passes_entries h = rw (e, lt-ltb 16384 (length (load_of seed n d).columns) h)

    pub keeps_entries : length (load_of seed n d).columns ≤ 16384 → loaded seed n d w ≡ granted (load_of seed n d)
    unfolding loaded and_then within_entries refuse_if max_entries
    keeps_entries h = rw (e, le-ltb 16384 (length (load_of seed n d).columns) h)

  pub answer-refused : {number step : ℕ} → loaded seed n d w ≡ refused number step → load_answer seed n d w ≡ refused number step
  unfolding load_answer and_then
  answer-refused e = rw e

  pub answer-granted : {l : Load} → loaded seed n d w ≡ granted l → load_answer seed n d w ≡ granted (length l.columns)
  unfolding load_answer and_then
  answer-granted e = rw e

-- the five outcomes, each with what decides it
pub data Outcome (seed n d : ℕ) (w : LoadSizes) : Type 0 where
  at_limits : ((1 ≤ n) × (n ≤ 1024) → ⊥) → loaded seed n d w ≡ refused 1 0 → Outcome seed n d w
  at_divisor : (1 ≤ n) × (n ≤ 1024) → d ≡ 0 → loaded seed n d w ≡ refused 23 0 → Outcome seed n d w
  at_sizes : (1 ≤ n) × (n ≤ 1024) → 0 < d → (w ≡ right_sizes n → ⊥) → loaded seed n d w ≡ refused 6 0 → Outcome seed n d w
  at_entries : Passed n d w → 16384 < length (load_of seed n d).columns → loaded seed n d w ≡ refused 1 0 → Outcome seed n d w
  at_load : Passed n d w → length (load_of seed n d).columns ≤ 16384 → loaded seed n d w ≡ granted (load_of seed n d) → Outcome seed n d w

pub outcome : (seed n d : ℕ) (w : LoadSizes) → Outcome seed n d w
outcome seed n d w = from (judged n d w)
  where
    drawn : Passed n d w → judged_load n d w ≡ granted 0 → Outcome seed n d w
    drawn p e =
        by_test (ltb 16384 (length (load_of seed n d).columns))
        (λ over. let more = ltb-true _ _ over in at_entries p more (passes_entries seed n d w e more))
        (λ fits. let few = ltb-false _ _ fits in at_load p few (keeps_entries seed n d w e few))

    from : Judged n d w → Outcome seed n d w
    from (of_limits out r) = at_limits out (refused-before seed n d w 1 r)
    from (of_divisor inside zero_is r) = at_divisor inside zero_is (refused-before seed n d w 23 r)
    from (of_sizes inside divisor off r) = at_sizes inside divisor off (refused-before seed n d w 6 r)
    from (of_passed p r) = drawn p r

-- ---- the answers, each just where it is given

module _ {seed n d : ℕ} {w : LoadSizes} where
  why_1 : Outcome seed n d w → load_answer seed n d w ≡ refused 1 0
      → ((1 ≤ n) × (n ≤ 1024) → ⊥) ⊎ ((0 < d) × (w ≡ right_sizes n) × (16384 < length (load_of seed n d).columns))
  why_1 (at_limits out e) q = inl out
  why_1 (at_divisor inside zero_is e) q = one_number_lem 1 23 (λ z. omega arith) q (answer-refused seed n d w e)
  why_1 (at_sizes inside divisor off e) q = one_number_lem 1 6 (λ z. omega arith) q (answer-refused seed n d w e)
  why_1 (at_entries p over e) q = inr (p.divisor, p.sizes, over)
  why_1 (at_load p fits e) q = not_both q (answer-granted seed n d w e)

  why_23 : Outcome seed n d w → load_answer seed n d w ≡ refused 23 0 → (1 ≤ n) × (n ≤ 1024) × (d ≡ 0)
  why_23 (at_limits out e) q = one_number_lem 23 1 (λ z. omega arith) q (answer-refused seed n d w e)
  why_23 (at_divisor inside zero_is e) q = (inside.0, inside.1, zero_is)
  why_23 (at_sizes inside divisor off e) q = one_number_lem 23 6 (λ z. omega arith) q (answer-refused seed n d w e)
  why_23 (at_entries p over e) q = one_number_lem 23 1 (λ z. omega arith) q (answer-refused seed n d w e)
  why_23 (at_load p fits e) q = not_both q (answer-granted seed n d w e)

  why_6 : Outcome seed n d w → load_answer seed n d w ≡ refused 6 0 → (1 ≤ n) × (n ≤ 1024) × (0 < d) × (w ≡ right_sizes n → ⊥)
  why_6 (at_limits out e) q = one_number_lem 6 1 (λ z. omega arith) q (answer-refused seed n d w e)
  why_6 (at_divisor inside zero_is e) q = one_number_lem 6 23 (λ z. omega arith) q (answer-refused seed n d w e)
  why_6 (at_sizes inside divisor off e) q = (inside.0, inside.1, divisor, off)
  why_6 (at_entries p over e) q = one_number_lem 6 1 (λ z. omega arith) q (answer-refused seed n d w e)
  why_6 (at_load p fits e) q = not_both q (answer-granted seed n d w e)

-- what a granted answer means
pub record Granted (seed n d : ℕ) (w : LoadSizes) (count : ℕ) : Type 0 where
  pub passed_tests : Passed n d w
  pub few : length (load_of seed n d).columns ≤ 16384
  pub is_load : loaded seed n d w ≡ granted (load_of seed n d)
  pub count_is : count ≡ length (load_of seed n d).columns

pub granted-load : (seed n d : ℕ) (w : LoadSizes) (count : ℕ) → load_answer seed n d w ≡ granted count → Granted seed n d w count
granted-load seed n d w count q = from (outcome seed n d w)
  where
    from : Outcome seed n d w → Granted seed n d w count
    from (at_limits out e) = not_both (answer-refused seed n d w e) q
    from (at_divisor inside zero_is e) = not_both (answer-refused seed n d w e) q
    from (at_sizes inside divisor off e) = not_both (answer-refused seed n d w e) q
    from (at_entries p over e) = not_both (answer-refused seed n d w e) q
    from (at_load p fits e) =
        record { passed_tests = p; few = fits; is_load = e; count_is = same_granted _ _ (sym q ∙ answer-granted seed n d w e) }

-- ---- the claims

-- tests that pass, from their facts
drawable : (n d : ℕ) → (1 ≤ n) × (n ≤ 1024) → 0 < d → judged_load n d (right_sizes n) ≡ granted 0
drawable n d inside positive = let divides : d ≡ 0 → ⊥ = λ e. omega (arith, e) in may_draw n d (right_sizes n) inside divides (sizes_fit_lem n)

limits-given : (seed n d : ℕ) (w : LoadSizes)
    → ((1 ≤ n) × (n ≤ 1024) → ⊥) ⊎ ((0 < d) × (w ≡ right_sizes n) × (16384 < length (load_of seed n d).columns)) → load_answer seed n d w ≡ refused 1 0
limits-given seed n d w (inl out) = answer-refused seed n d w (refused-before seed n d w 1 (outside-limits n d w out))
limits-given seed n d w (inr (positive, sizes, over)) =
    by_test (outside n)
    (λ e. answer-refused seed n d w (refused-before seed n d w 1 (outside-limits n d w (without n e))))
    (λ e. answer-refused seed n d w (passes_entries seed n d w (ap (judged_load n d) sizes ∙ drawable n d (within n e) positive) over))

pub load-limits : LoadLimits
unfolding LoadLimits
load-limits seed n d w = (why_1 (outcome seed n d w), limits-given seed n d w)

pub no_divisors : NoDivisors
unfolding NoDivisors
no_divisors seed n d w =
    (why_23 (outcome seed n d w), λ (low, high, none). answer-refused seed n d w (refused-before seed n d w 23 (no_divisor n d w (low, high) none)))

pub other_sizes : OtherSizes
unfolding OtherSizes
other_sizes seed n d w = (
  why_6 (outcome seed n d w),
  λ (low, high, positive, other). let divides : d ≡ 0 → ⊥ = λ e. omega (arith, e) in
      by_test (load_sizes_fit n w)
      (λ fits. absurd (other (fit_sizes n w fits)))
      (λ off. answer-refused seed n d w (refused-before seed n d w 6 (no_room n d w (low, high) divides off))),
)

pub entries-answered : EntriesAnswered
unfolding EntriesAnswered
entries-answered seed n d w count = (
  λ q. let g = granted-load seed n d w count q in
      let p = g.passed_tests in
      (p.inside.0, p.inside.1, p.divisor, p.sizes, g.few, g.count_is),
  λ (low, high, positive, sizes, few, is).
      answer-granted seed n d w (keeps_entries seed n d w (ap (judged_load n d) sizes ∙ drawable n d (low, high) positive) few) ∙ ap granted (sym is),
)

pub whole_squares : WholeSquares
unfolding WholeSquares EntriesAnswered LoadLimits
whole_squares seed n low = (
  λ high. let square : n * n ≤ 128 * 128 = mul-le-mul high high in
      let few : length (load_of seed n 1).columns ≤ 16384 = omega (arith, square, load-whole seed n) in
      (entries-answered seed n 1 (right_sizes n) (n * n)).1 (low, omega arith, omega arith, refl, few, sym (load-whole seed n)),
  λ high. let above : 129 ≤ n = omega arith in
      let square : 129 * 129 ≤ n * n = mul-le-mul above above in
      let over : 16384 < length (load_of seed n 1).columns = omega (arith, square, load-whole seed n) in
      (load-limits seed n 1 (right_sizes n)).1 (inr (omega arith, refl, over)),
)
