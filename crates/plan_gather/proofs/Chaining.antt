-- The rows by their least column, and what walking the chains of a plan takes for granted.
use mathlib.Core.Bool.{Bool, true, not}
use mathlib.Core.List.{List, [], ◌∷◌}
use mathlib.Core.Path.{◌≡◌, refl, sym, ap, ◌∙◌}
use Prim.Native.Nat.{ℕ, suc, ◌+◌, ◌-◌, ◌*◌, ◌≤◌, ◌<◌}
use native.Mathlib.Nat.{mul-le-mul_left}
use native.Mathlib.Numerals.{add-one}
use native.Mathlib.Decide.{dec_le}
use native.Mathlib.Omega.{arith}
use lib.Dec.{eqb}
use lib.ListN.{length, set, get_or, replicate}
use lib.Seq.{slice, slice-cons, length-slice}
use borrow.Author.Tests.{eqb-true, eqb-false, eq-eqb, ne_eqb, lt-ltb}
use Rattle.lists.specs.Functions.{update, keep, total, span}
use Rattle.lists.specs.Sets.{member, Ascending, run, upto, between, first, least_above, Falling}
use Rattle.lists.proofs.Members.{by_test, not-member-nil, in_upto, kept_in, kept_passes, in_keep, in_between, between-low, between-high}
use Rattle.lists.proofs.Order.{member_first, same_members-by, ascending-keep, ascending-between}
use Rattle.lists.proofs.Kept.{keep_all, keep-nothing, leave_first}
use Rattle.lists.proofs.Least.{least_nonzero_member}
use Rattle.lists.proofs.Once.{falling-once, falling_weaken, ascending-once}
use Rattle.lists.proofs.Places.{update_same, update-untouched}
use Rattle.lists.proofs.Small.{less_one}
use Rattle.lists.proofs.Counting.{total_cong, total-within}
use Rattle.foundation.specs.Pattern.{Lent, lent, row_of, pattern_of, starts_fit, max_entries}
use Rattle.foundation.specs.Plan.{Planning, Side, lower, upper, list, after, plan}
use Rattle.foundation.specs.Subscripts.{kept}
use Rattle.foundation.specs.Slots.{slots_of}
use Rattle.foundation.specs.Facts.{sizes_of}
use Rattle.foundation.proofs.PlanFacts.{plan_facts}
use Rattle.foundation.proofs.Steps.{S-falls, joined}
use Rattle.foundation.proofs.Gathered.{met-least, least-met}
use Rattle.foundation.proofs.Listed.{two-members}
use Rattle.foundation.proofs.Starts.{slots_next}
use Rattle.foundation.proofs.Passing.{rows_before}
use Rattle.foundation.proofs.ReadsBound.{first_ascends, sizes_within}
use Rattle.store_lists.specs.Chains.{Linked, Chained, both_spans, RowsWalk, StepsWalk}
use Rattle.store_lists.proofs.Chaining.{chained_none, chained_cong, chained_push, chained_drop}
use Rattle.plan_gather.specs.Ready.{Ready, plan_of}
use Rattle.plan_gather.specs.Steps.{rows_at, rows_from, unmet_at}
use Rattle.plan_pattern.proofs.Judging.{Fitted, fitted, row_order, row_within}

-- ---- the rows of a pattern that was judged

-- the first of a list is its least member above 0
first_least : (x : ℕ) (xs : List ℕ) → 0 < x → least_above 0 (x ∷ xs) ≡ x
unfolding least_above keep first
first_least x xs h = rw (lt-ltb 0 x h)

-- the numbers a to b begin with a
pub between_cons : (a b : ℕ) → a ≤ b → between a b ≡ a ∷ between (suc a) b
unfolding between run
between_cons a b h = let e : suc b - a ≡ suc (suc b - suc a) = omega arith in rw e

-- row i + 1, by its starts
row_at : (p : Lent) (i : ℕ) → row_of p (i + 1) ≡ slice (get_or p.starts i 0) (get_or p.starts (i + 1) 0) p.columns
unfolding row_of
row_at p i = rw add-one

-- what `chain_rows` reads of row i lies inside
pub record RowPlace (n : ℕ) (starts columns : List ℕ) (i : ℕ) : Type 0 where
  pub in_columns : get_or starts (i - 1) 0 < length columns
  pub column_high : get_or columns (get_or starts (i - 1) 0) 0 ≤ n

-- an ascending list from l on that has l is one longer than without it
left_out : (l : ℕ) (xs : List ℕ) → Ascending l xs → member l xs ≡ true → length (keep (λ x. not (eqb x l)) xs) + 1 ≡ length xs
unfolding Ascending
left_out l [] a m = absurd (not-member-nil l m)
left_out l (x ∷ xs) a m =
    let q : x ≡ l = let h = member_first l l x xs a m in omega arith in
    rw (q, leave_first l xs (rw q at a)) (add-one (length xs))

-- A store has the starts of the slots of the steps before k.
pub record SlotsTo (s : Planning) (side : Side) (k : ℕ) (slots : List ℕ) : Type 0 where
  pub room : k ≤ length slots
  pub at : (l : ℕ) → l < k → get_or slots l 0 ≡ slots_of s side l

module _ (s : Planning) (side : Side) (k : ℕ) (slots : List ℕ) (h : SlotsTo s side k slots) where
  slot_next : (l : ℕ) → 1 ≤ l → l < k → get_or slots l 0 ≡ get_or slots (l - 1) 0 + length (kept s side l)
  slot_next l low high =
      let e : suc (l - 1) ≡ l = omega arith in
      let q : slots_of s side l ≡ slots_of s side (l - 1) + length (kept s side l) = rw e at (slots_next s side (l - 1)) in
      omega (arith, h.at l high, h.at (l - 1) (omega arith))

  -- an earlier step's slots are as many as its kept list has members
  pub slot-span : (l : ℕ) → 1 ≤ l → l < k → span slots l ≡ length (kept s side l)
  slot-span l low high = omega (arith, slot_next l low high)

  -- which do not end before they start
  pub slot-rises : (l : ℕ) → 1 ≤ l → l < k → get_or slots (l - 1) 0 ≤ get_or slots l 0
  slot-rises l low high = omega (arith, slot_next l low high)

module _ (p : Lent) (ready : Ready p) where
  fits : Fitted p.height p.starts p.columns
  unfolding lent starts_fit
  fits = fitted p.n p.height p.starts p.columns ready.starts_fitting

  -- there is a start for each row, and one behind
  pub starts_size : length p.starts ≡ suc p.height
  starts_size = fits.count

  module _ (i : ℕ) (low : 1 ≤ i) (high : i ≤ p.height) where
    back : i - 1 + 1 ≡ i
    back = omega arith

    -- a row does not end before it starts
    pub row_rises : get_or p.starts (i - 1) 0 ≤ get_or p.starts i 0
    row_rises = rw back at (row_order p.height p.starts p.columns fits (i - 1) (omega arith))

    -- and it ends inside the columns
    pub row_ends : get_or p.starts i 0 ≤ length p.columns
    row_ends = rw back at (row_within p.height p.starts p.columns fits (i - 1) (omega arith))

    -- a row lies from its start to the next one's
    pub row_is : row_of p i ≡ slice (get_or p.starts (i - 1) 0) (get_or p.starts i 0) p.columns
    row_is = rw back at (row_at p (i - 1))

    -- a row has as many entries as its starts say
    pub row_size : span p.starts i ≡ length (row_of p i)
    row_size = sym (ap length row_is ∙ length-slice (get_or p.starts (i - 1) 0) (get_or p.starts i 0) p.columns row_ends)

    -- a row that ends where it starts is empty, and has no least column
    pub row_empty : get_or p.starts i 0 ≤ get_or p.starts (i - 1) 0 → least_above 0 (row_of p i) ≡ 0
    unfolding least_above keep first
    row_empty none = none_least (row_of p i) (omega (arith, row_size))
      where
        none_least : (row : List ℕ) → length row ≡ 0 → least_above 0 row ≡ 0
        none_least [] e = refl
        none_least (x ∷ xs) e = absurd (omega arith)

    -- so a row with a least column has an entry
    pub row_some : 1 ≤ least_above 0 (row_of p i) → get_or p.starts (i - 1) 0 < get_or p.starts i 0
    row_some least = elim (dec_le (get_or p.starts i 0) (get_or p.starts (i - 1) 0)) [
      | yes none ↦ absurd (omega (arith, row_empty none))
      | no some ↦ omega arith
    ]

    module _ (some : get_or p.starts (i - 1) 0 < get_or p.starts i 0) where
      leads : (x : ℕ) × (xs : List ℕ) × (row_of p i ≡ x ∷ xs) × (x ≡ get_or p.columns (get_or p.starts (i - 1) 0) 0) × (1 ≤ x)
      unfolding pattern_of Ascending
      leads =
          let e = row_is ∙ slice-cons (get_or p.starts (i - 1) 0) (get_or p.starts i 0) p.columns 0 some row_ends in
          (_, _, e, refl, (rw e at (ready.plannable.ascending i low high)).0)

      -- its first column is its least
      pub row_first : get_or p.columns (get_or p.starts (i - 1) 0) 0 ≡ least_above 0 (row_of p i)
      row_first = let (x, xs, e, q, above) = leads in rw e (sym q ∙ sym (first_least x xs above))

      -- and is from 1 to n
      pub least-low : 1 ≤ least_above 0 (row_of p i)
      least-low = let (x, xs, e, q, above) = leads in rw (e, first_least x xs above) above

      pub least-high : least_above 0 (row_of p i) ≤ p.n
      unfolding pattern_of
      least-high = ready.plannable.bounded i (least_above 0 (row_of p i)) low high (least_nonzero_member 0 (row_of p i) (λ e. omega (arith, least-low)))

      -- what is read of it lies inside
      pub row_place : RowPlace p.n p.starts p.columns i
      row_place = record {
        in_columns = let b = row_ends in omega arith;
        column_high = rw row_first least-high;
      }

  -- a row first met at a step is one of the pattern, and the step is its least column
  pub first_in : (k i : ℕ) → 1 ≤ k → k ≤ p.n → member i ((plan_of p).first_met k) ≡ true → (1 ≤ i) × (i ≤ p.height) × (least_above 0 (row_of p i) ≡ k)
  unfolding plan_of pattern_of
  first_in k i low high m = ((plan_facts (pattern_of p) ready.plannable).first_met_lem k i low high).0 m

  -- the rows first met at a step ascend
  pub first_rows_ascend : (k : ℕ) → 1 ≤ k → k ≤ p.n → Ascending 1 ((plan_of p).first_met k)
  unfolding plan_of plan pattern_of
  first_rows_ascend k low high = first_ascends (pattern_of p) p.n k low high

  -- all rows whose least column is k are the rows first met at step k
  all_rows_lem : (k : ℕ) → 1 ≤ k → k ≤ p.n → rows_from p 0 k ≡ (plan_of p).first_met k
  unfolding rows_from plan_of pattern_of
  all_rows_lem k low high =
      let t : ℕ → Bool = λ r. eqb (least_above 0 (row_of p r)) k in
      same_members-by 1 1 (keep t (between 1 p.height)) ((plan_of p).first_met k)
      (ascending-keep 1 t (between 1 p.height) (ascending-between 1 p.height))
      (first_rows_ascend k low high)
      (λ i m.
      let inside = kept_in i t (between 1 p.height) m in
      ((plan_facts (pattern_of p) ready.plannable).first_met_lem k i low high).1
      (between-low i 1 p.height inside, between-high i 1 p.height inside, eqb-true (least_above 0 (row_of p i)) k (kept_passes i t (between 1 p.height) m)))
      (λ i m.
      let r = first_in k i low high m in
      in_keep i t (between 1 p.height) (in_between i 1 p.height r.0 r.1) (eq-eqb (least_above 0 (row_of p i)) k r.2))

  -- no row is chained yet
  pub rows_start : (heads links : List ℕ) → heads ≡ replicate (suc p.height) 0 → links ≡ replicate (suc p.height) 0
      → Chained heads links p.height p.n (rows_from p p.height)
  unfolding rows_from between run keep
  rows_start heads links e f =
      rw (e, f)
      (chained_cong _ _ p.height p.n (λ k. []) (rows_from p p.height)
      (λ k low high. let none : suc p.height - suc p.height ≡ 0 = omega arith in rw none)
      (chained_none p.height p.n ready.tall))

  module _ (i : ℕ) (low : 1 ≤ i) (high : i ≤ p.height) where
    -- one row more
    more : between (suc (i - 1)) p.height ≡ i ∷ between (suc i) p.height
    more = let b : suc (i - 1) ≡ i = omega arith in rw b (between_cons i p.height high)

    -- an empty row joins no chain
    pub rows_pass : get_or p.starts i 0 ≤ get_or p.starts (i - 1) 0 → {heads links : List ℕ}
        → Chained heads links p.height p.n (rows_from p i) → Chained heads links p.height p.n (rows_from p (i - 1))
    unfolding rows_from keep
    rows_pass none {heads} {links} h =
        chained_cong heads links p.height p.n (rows_from p i) (rows_from p (i - 1))
        (λ k l u. rw (more, row_empty i low high none, ne_eqb 0 k (λ e. omega arith))) h

    -- another one joins the chain of its first column
    pub rows-turn : get_or p.starts (i - 1) 0 < get_or p.starts i 0 → (heads links heads' links' : List ℕ) (column : ℕ) → column ≡ get_or p.columns (get_or p.starts (i - 1) 0) 0
        → heads' ≡ set heads column i → links' ≡ set links i (get_or heads column 0)
        → Chained heads links p.height p.n (rows_from p i) → Chained heads' links' p.height p.n (rows_from p (i - 1))
    unfolding rows_from keep update
    rows-turn some heads links heads' links' column here e f h =
        let c : column ≡ least_above 0 (row_of p i) = here ∙ row_first i low high some in
        let t : ℕ → ℕ → Bool = λ k r. eqb (least_above 0 (row_of p r)) k in
        rw (e, f)
        (chained_cong _ _ p.height p.n (update (rows_from p i) column (i ∷ rows_from p i column)) (rows_from p (i - 1))
        (λ k l u. rw more (by_test (eqb k column)
        (λ q. let w : column ≡ k = sym (eqb-true k column q) in rw (q, eq-eqb (least_above 0 (row_of p i)) k (sym c ∙ w), w))
        (λ q. rw (q, ne_eqb (least_above 0 (row_of p i)) k (λ w. eqb-false k column q (sym (c ∙ w)))))))
        (chained_push heads links p.height p.n (rows_from p i) column i
        (rw c (least-low i low high some)) (rw c (least-high i low high some)) low high
        (λ j l u m. let b = between-low i (suc i) p.height (kept_in i (t j) (between (suc i) p.height) m) in omega arith)
        h))

  -- ---- the rows that are not met

  -- the rows whose least column is k are those first met at step k
  rows_at_lem : (k : ℕ) → 1 ≤ k → k ≤ p.n → rows_at p k ≡ (plan_of p).first_met k
  unfolding rows_at rows_from upto between
  rows_at_lem k low high = sym (rw (less_one p.height) at (sym (all_rows_lem k low high)))

  -- before its step, all of them are not met
  pub unmet_rows_lem : (m k : ℕ) → m < k → k ≤ p.n → unmet_at p (after (pattern_of p) m) k ≡ (plan_of p).first_met k
  unfolding unmet_at pattern_of
  unmet_rows_lem m k before high =
      let low : 1 ≤ k = omega arith in
      rw (rows_at_lem k low high)
      (keep_all (λ i. not ((after (pattern_of p) m).met i)) ((plan_of p).first_met k)
      (λ i e.
      let r = first_in k i low high e in
      by_test ((after (pattern_of p) m).met i)
      (λ t. let d = met-least (pattern_of p) ready.plannable m i t in absurd (omega (arith, d.3, r.2)))
      (λ t. rw t refl)))

  -- after its step, none of them is
  pub met-rows : (m k : ℕ) → 1 ≤ k → k ≤ m → k ≤ p.n → unmet_at p (after (pattern_of p) m) k ≡ []
  unfolding unmet_at pattern_of
  met-rows m k low done high =
      rw (rows_at_lem k low high)
      (keep-nothing (λ i. not ((after (pattern_of p) m).met i)) ((plan_of p).first_met k)
      (λ i e.
      let r = first_in k i low high e in
      rw (least-met (pattern_of p) ready.plannable m i r.0 r.1 (omega (arith, r.2)) (omega (arith, r.2))) refl))

  -- every row is chained
  pub rows_end : (heads links : List ℕ) (i : ℕ) → i ≡ 0 → Chained heads links p.height p.n (rows_from p i) → Chained heads links p.height p.n (unmet_at p (after (pattern_of p) 0))
  rows_end heads links i e h =
      chained_cong heads links p.height p.n (rows_from p 0) (unmet_at p (after (pattern_of p) 0))
      (λ k low high. all_rows_lem k low high ∙ sym (unmet_rows_lem 0 k (omega arith) high))
      (rw e at h)

  -- in the report's 2.2 of step k its rows are marked: their chain is emptied
  pub rows-marked : (heads links : List ℕ) (k : ℕ) → 1 ≤ k → k ≤ p.n → Chained heads links p.height p.n (unmet_at p (after (pattern_of p) (k - 1)))
      → Chained (set heads k 0) links p.height p.n (unmet_at p (after (pattern_of p) k))
  rows-marked heads links k low high h =
      chained_cong (set heads k 0) links p.height p.n (update (unmet_at p (after (pattern_of p) (k - 1))) k []) (unmet_at p (after (pattern_of p) k))
      (λ j l u. by_test (eqb j k)
      (λ e. let q : j ≡ k = eqb-true j k e in rw (q, update_same) (sym (met-rows k k low (omega arith) high)))
      (λ e.
      let d : j ≡ k → ⊥ = eqb-false j k e in
      update-untouched (unmet_at p (after (pattern_of p) (k - 1))) k [] j e
      ∙ elim (dec_le j k) [
        | yes b ↦ met-rows (k - 1) j l (omega arith) u ∙ sym (met-rows k j l b u)
        | no b ↦ unmet_rows_lem (k - 1) j (omega arith) u ∙ sym (unmet_rows_lem k j (omega arith) u)
      ]))
      (chained_drop heads links p.height p.n (unmet_at p (after (pattern_of p) (k - 1))) k low high h)

  -- ---- what walking the chains of a plan takes for granted

  -- the spans of the rows first met at a step are their sizes
  pub rows-total : (k : ℕ) → 1 ≤ k → k ≤ p.n → total (span p.starts) ((plan_of p).first_met k) ≡ total (λ i. length (row_of p i)) ((plan_of p).first_met k)
  rows-total k low high =
      total_cong (span p.starts) (λ i. length (row_of p i)) ((plan_of p).first_met k)
      (λ i m. let r = first_in k i low high m in row_size i r.0 r.1)

  -- all rows have few entries together
  few-entries : total (λ i. length (row_of p i)) (upto p.height) ≤ 16384
  unfolding max_entries
  few-entries = omega (arith, rows_before p ready.starts_fitting p.height (omega arith), fits.last, ready.entries)

  -- the rows first met at a step may be walked
  pub rows_walk : (k : ℕ) → 1 ≤ k → k ≤ p.n → (links : List ℕ) (head : ℕ) → Linked links head ((plan_of p).first_met k) → RowsWalk links head p.starts ((plan_of p).first_met k)
  rows_walk k low high links head h =
      let rows = (plan_of p).first_met k in
      record {
        linked = h;
        ascending = first_rows_ascend k low high;
        inside = λ i m. let r = first_in k i low high m in (let e = starts_size in omega arith, row_rises i r.0 r.1);
        small =
            omega (
              arith,
              few-entries,
              rows-total k low high,
              total-within (λ i. length (row_of p i)) rows (upto p.height) (ascending-once 1 rows (first_rows_ascend k low high))
                  (λ i m. let r = first_in k i low high m in in_upto i p.height r.0 r.1),
            );
      }

  -- a step in S_k is an earlier one
  pub step_in : (k l : ℕ) → 1 ≤ k → member l ((plan_of p).S k) ≡ true → (1 ≤ l) × (l < k)
  unfolding plan_of
  step_in k l low m = let r = (plan_facts (pattern_of p) ready.plannable).joins_one l k low m in (r.0, r.1)

  -- the sets S fall
  pub steps_fall : (k : ℕ) → Falling (suc p.n) ((plan_of p).S k)
  unfolding plan_of plan pattern_of
  steps_fall k = S-falls (pattern_of p) p.n k

  -- a list of a step has one member more than is kept
  pub kept_size : (side : Side) (l : ℕ) → 1 ≤ l → l ≤ p.n → length (kept (plan_of p) side l) + 1 ≡ length (list (plan_of p) side l)
  unfolding plan_of pattern_of kept
  kept_size side l low high =
      let facts = plan_facts (pattern_of p) ready.plannable in
      left_out l (list (plan_of p) side l) (facts.ascending side l) (facts.own side l low high)

  -- a step in S_k keeps something on both sides: its L has more than one member, and k is in its U
  pub handed_some : (side : Side) (k l : ℕ) → 1 ≤ k → member l ((plan_of p).S k) ≡ true → 0 < length (kept (plan_of p) side l)
  unfolding plan_of plan pattern_of list
  handed_some lower k l low m =
      let r = joined (pattern_of p) p.n l k low m in
      omega (arith, kept_size lower l r.0 r.1, r.4)
  handed_some upper k l low m =
      let r = joined (pattern_of p) p.n l k low m in
      let u : List ℕ = (plan_of p).U l in
      let above : member k u ≡ true = rw r.3 at (least_nonzero_member l u (λ e. omega (arith, r.3))) in
      omega (
        arith,
        kept_size upper l r.0 r.1,
        two-members l k u ((plan_facts (pattern_of p) ready.plannable).own upper l r.0 r.1) above
            (λ e. omega (arith, r.2)),
      )

  -- the two lists of all steps together have few members
  few-members : total (λ l. length ((plan_of p).L l) + length ((plan_of p).U l)) (upto p.n) < 4294967296
  unfolding plan_of plan pattern_of sizes_of
  few-members =
      let n = p.n in
      let a : n * (p.height + n) ≤ n * 4096 = mul-le-mul_left n (omega (arith, ready.few, ready.tall)) in
      omega (arith, a, ready.few, ready.tall, sizes_within (pattern_of p) ready.plannable)

  module _ (k : ℕ) (low : 1 ≤ k) (high : k ≤ p.n) (lowers uppers : List ℕ) (ls : SlotsTo (plan_of p) lower k lowers) (us : SlotsTo (plan_of p) upper k uppers) where
    -- the spans of an earlier step are the sizes of its lists
    step_size : (l : ℕ) → member l ((plan_of p).S k) ≡ true → both_spans lowers uppers l ≡ length ((plan_of p).L l) + length ((plan_of p).U l)
    unfolding list
    step_size l m =
        let r = step_in k l low m in
        omega (
          arith,
          slot-span (plan_of p) lower k lowers ls l r.0 r.1,
          slot-span (plan_of p) upper k uppers us l r.0 r.1,
          kept_size lower l r.0 (omega arith),
          kept_size upper l r.0 (omega arith),
        )

    -- and so are their sums
    pub steps-total : total (both_spans lowers uppers) ((plan_of p).S k) ≡ total (λ l. length ((plan_of p).L l) + length ((plan_of p).U l)) ((plan_of p).S k)
    steps-total = total_cong (both_spans lowers uppers) (λ l. length ((plan_of p).L l) + length ((plan_of p).U l)) ((plan_of p).S k) step_size

    -- the steps of S_k may be walked
    pub steps_walk : (links : List ℕ) (head : ℕ) → length links ≡ suc p.height → Linked links head ((plan_of p).S k) → StepsWalk links head lowers uppers ((plan_of p).S k)
    steps_walk links head e h =
        let steps = (plan_of p).S k in
        record {
          linked = h;
          falling = rw e (falling_weaken (suc p.n) (suc p.height) ((plan_of p).S k) (omega (arith, ready.tall)) (steps_fall k));
          inside = λ l m. let r = step_in k l low m in (omega arith, omega arith);
          rising = λ l m. let r = step_in k l low m in (
            slot-rises (plan_of p) lower k lowers ls l r.0 r.1,
            slot-rises (plan_of p) upper k uppers us l r.0 r.1,
          );
          small =
              omega (
                arith,
                few-members,
                steps-total,
                total-within (λ l. length ((plan_of p).L l) + length ((plan_of p).U l)) steps (upto p.n) (falling-once (suc p.n) steps (steps_fall k))
                    (λ l m. let r = step_in k l low m in in_upto l p.n r.0 (omega arith)),
              );
        }
