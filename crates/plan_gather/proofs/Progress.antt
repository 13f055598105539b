-- From step to step: the reads so far, and the chains at a step.
use mathlib.Core.List.{List, [], ◌∷◌}
use mathlib.Core.Path.{◌≡◌, refl, sym, ap, ◌∙◌}
use Prim.Native.Nat.{ℕ, zero, suc, ◌+◌, ◌-◌, ◌*◌, ◌≤◌, ◌<◌}
use native.Mathlib.Nat.{mul-le-mul_left}
use native.Mathlib.Omega.{arith}
use lib.ListN.{length, get_or}
use mir.Syntax.{w64}
use mir.Val.{Fits}
use Rattle.lists.specs.Functions.{total}
use Rattle.lists.specs.Sets.{between, upto, run}
use Rattle.lists.proofs.Members.{in_upto, upto-low, upto-high}
use Rattle.lists.proofs.Order.{ascending-upto}
use Rattle.lists.proofs.Small.{less_one}
use Rattle.lists.proofs.Once.{ascending-once}
use Rattle.lists.proofs.Places.{upto_snoc, total-append}
use Rattle.lists.proofs.Counting.{total-sum, total-within, count_both_ways}
use Rattle.foundation.specs.Pattern.{Lent, lent, row_of, pattern_of, starts_fit, max_entries, column}
use Rattle.foundation.specs.Plan.{lower, upper, plan, after, after_rows, after_steps, before_steps}
use Rattle.foundation.specs.Facts.{entries_of}
use Rattle.foundation.proofs.Steps.{reads_of, reads_after, plan-rows-read, plan-steps-read, S-frame}
use Rattle.foundation.proofs.InStep.{rows-read, steps-read, steps_reads}
use Rattle.foundation.proofs.Passing.{rows_before}
use Rattle.foundation.proofs.ReadsBound.{reads_within, sizes_within}
use Rattle.store_clear.specs.Clearing.{Zeros}
use Rattle.store_lists.specs.Chains.{Linked, Chained}
use Rattle.store_lists.proofs.Chaining.{linked_next, chained_none}
use Rattle.plan_gather.specs.Ready.{Ready, plan_of}
use Rattle.plan_gather.specs.Steps.{StepOf, ChainsOf, counted_reads, unmet_at, ChainsAt, EndsAre, chain_stores}
use Rattle.plan_pattern.proofs.Judging.{Fitted, fitted}
use Rattle.plan_gather.proofs.Chaining.{between_cons, unmet_rows_lem}
use Rattle.plan_gather.proofs.Contains.{used_none}

-- ---- the reads

-- what a step adds to the reads besides C_k
unfoldable more_reads : Lent → ℕ → ℕ
more_reads p k =
    total (λ i. length (row_of p i)) ((plan_of p).first_met k) + total (λ l. length ((plan_of p).L l) + length ((plan_of p).U l)) ((plan_of p).S k)

-- the reads after k steps, all of the C_k counted from the start
unfoldable reads_so_far : Lent → ℕ → ℕ
reads_so_far p k = length p.columns + total (more_reads p) (upto k)

module _ (p : Lent) (ready : Ready p) where
  -- a judged pattern has as many entries as columns are lent
  entries-lent : entries_of (pattern_of p) ≡ length p.columns
  unfolding entries_of pattern_of lent starts_fit
  entries-lent =
      let fits : Fitted p.height p.starts p.columns = fitted p.n p.height p.starts p.columns ready.starts_fitting in
      rows_before p ready.starts_fitting p.height (omega arith) ∙ fits.last

  -- each entry is in one column
  columns-lent : total (λ k. length (column (pattern_of p) k)) (upto p.n) ≡ length p.columns
  unfolding column entries_of pattern_of
  columns-lent =
      count_both_ways p.n (row_of p) (upto p.height)
      (λ i e. ready.plannable.ascending i (upto-low i p.height e) (upto-high i p.height e))
      (λ i x e. ready.plannable.bounded i x (upto-low i p.height e) (upto-high i p.height e))
      ∙ entries-lent

  -- after the last step, the reads are the plan's
  reads_all : reads_so_far p p.n ≡ (plan_of p).reads
  unfolding reads_so_far more_reads plan_of plan pattern_of reads_of
  reads_all =
      omega (
        arith,
        reads_after (pattern_of p) p.n p.n (omega arith),
        total-sum (λ k. length (column (pattern_of p) k)) (more_reads p) (upto p.n),
        columns-lent,
      )

  -- the reads do not fall
  reads_rise : (k : ℕ) → k ≤ p.n → reads_so_far p k ≤ reads_so_far p p.n
  unfolding reads_so_far
  reads_rise k h =
      omega (
        arith,
        total-within (more_reads p) (upto k) (upto p.n) (ascending-once 1 (upto k) (ascending-upto k))
            (λ x m. in_upto x p.n (upto-low x k m) (omega (arith, upto-high x k m))),
      )

  -- the reads are few
  reads_small : (k : ℕ) → k ≤ p.n → reads_so_far p k < 4294967296
  unfolding plan_of plan pattern_of max_entries
  reads_small k h =
      let n : ℕ = p.n in
      let most : n * (p.height + n) ≤ n * 4096 = mul-le-mul_left n (omega (arith, ready.few, ready.tall)) in
      omega (
        arith,
        most,
        ready.few,
        ready.tall,
        ready.entries,
        entries-lent,
        reads_rise k h,
        reads_all,
        reads_within (pattern_of p) ready.plannable,
        sizes_within (pattern_of p) ready.plannable,
      )

-- a step adds what it reads
more_next : (p : Lent) (k : ℕ) → reads_so_far p (suc k) ≡ reads_so_far p k
    + (total (λ i. length (row_of p i)) ((plan_of p).first_met (suc k)) + total (λ l. length ((plan_of p).L l) + length ((plan_of p).U l)) ((plan_of p).S (suc k)))
unfolding reads_so_far total more_reads
more_next p k =
    let split : total (more_reads p) (upto (suc k)) ≡ total (more_reads p) (upto k) + total (more_reads p) (suc k ∷ []) =
    ap (total (more_reads p)) (upto_snoc k) ∙ total-append (more_reads p) (upto k) (suc k ∷ []) in
    omega (arith, split)

-- the size of column k, and of those behind it
columns_next : (p : Lent) (k : ℕ) → k < p.n → total (λ j. length (column (pattern_of p) j)) (between (suc k) p.n)
    ≡ length (column (pattern_of p) (suc k)) + total (λ j. length (column (pattern_of p) j)) (between (suc (suc k)) p.n)
unfolding total
columns_next p k h = rw (between_cons (suc k) p.n h) refl

module _ (p : Lent) (ready : Ready p) where
  module _ (k : ℕ) (high : k < p.n) where
    -- 2.2 adds the sizes of the rows that it meets: C_k was counted before
    rows-add : counted_reads p (after_rows (pattern_of p) (suc k)).known (suc k)
        ≡ counted_reads p (after (pattern_of p) k) k + total (λ i. length (row_of p i)) ((plan_of p).first_met (suc k))
    unfolding counted_reads plan_of plan pattern_of
    rows-add =
        let back : suc k - 1 ≡ k = omega arith in
        let read = rw back at (rows-read (pattern_of p) (suc k)) in
        omega (arith, read, plan-rows-read (pattern_of p) p.n k high, columns_next p k high)

    -- 2.4 adds the sizes of the lists of the steps in S_k
    steps-add : counted_reads p (after_steps (pattern_of p) (suc k)).known (suc k)
        ≡ counted_reads p (after_rows (pattern_of p) (suc k)).known (suc k)
        + total (λ l. length ((plan_of p).L l) + length ((plan_of p).U l)) ((plan_of p).S (suc k))
    unfolding counted_reads plan_of plan pattern_of
    steps-add =
        let back : suc k - 1 ≡ k = omega arith in
        let read = rw back at (steps-read (pattern_of p) (suc k)) in
        omega (arith, read, plan-steps-read (pattern_of p) p.n k high)

    -- 2.5 reads nothing
    sets-add : counted_reads p (after_steps (pattern_of p) (suc k)).known (suc k) ≡ counted_reads p (after (pattern_of p) (suc k)) (suc k)
    unfolding counted_reads
    sets-add = ap (λ (r : ℕ). r + total (λ j. length (column (pattern_of p) j)) (between (suc (suc k)) p.n)) (steps_reads (pattern_of p) (suc k) (omega arith))

  -- between steps the code has counted what was read so far
  counted : (k : ℕ) → k ≤ p.n → counted_reads p (after (pattern_of p) k) k ≡ reads_so_far p k
  unfolding counted_reads reads_so_far after before_steps between upto run total
  counted zero high = let q = columns-lent p ready in rw (less_one p.n) (omega (arith, q))
  counted (suc k) high =
      omega (arith, rows-add k high, steps-add k high, sets-add k high, counted k (omega arith), more_next p k)

  -- after the last step, that is the plan's reads
  pub counted_all : counted_reads p (after (pattern_of p) p.n) p.n ≡ (plan_of p).reads
  counted_all = counted p.n (omega arith) ∙ reads_all p ready

  -- and it is few at any time
  pub counted-small : (k : ℕ) → k ≤ p.n → counted_reads p (after (pattern_of p) k) k < 4294967296
  counted-small k high = rw (counted k high) (reads_small p ready k high)

-- ---- the chains of a step

-- where a chain starts, there is a link
linked_below : (links : List ℕ) (x : ℕ) (xs : List ℕ) → Linked links x xs → 0 < length links → x < length links
linked_below links zero xs h some = some
linked_below links (suc x) xs h some = (linked_next links (suc x) xs (λ e. omega arith) h).2

module _ (p : Lent) (n k : ℕ) (row_heads row_links set_heads set_links : List ℕ) (step : StepOf p n k) (chains : ChainsAt p n (k - 1) (chain_stores row_heads row_links set_heads set_links)) where
  -- the set of a step is complete
  set-whole : (after (pattern_of p) (k - 1)).S k ≡ (plan_of p).S k
  unfolding plan_of plan pattern_of
  set-whole =
      let same = step.same_n in
      let high = step.high in
      sym (S-frame (pattern_of p) p.n (k - 1) k step.low (omega arith) (omega arith))

  -- its rows are not met
  rows_whole : unmet_at p (after (pattern_of p) (k - 1)) k ≡ (plan_of p).first_met k
  rows_whole =
      let low = step.low in
      let same = step.same_n in
      let high = step.high in
      unmet_rows_lem p step.ready (k - 1) k (omega arith) (omega arith)

  -- the heads at a step lead to its rows and to its set
  pub chains_at : ChainsOf p k (get_or row_heads k 0) row_links (get_or set_heads k 0) set_links
  chains_at = record {
    rows = rw rows_whole at (chains.row_chains.chain_at k step.low step.high);
    steps = rw set-whole at (chains.set-chains.chain_at k step.low step.high);
  }

  -- its set starts inside the links
  pub set-inside : get_or set_heads k 0 < length set_links
  set-inside =
      linked_below set_links (get_or set_heads k 0) ((plan_of p).S k) chains_at.steps (omega (arith, chains.set-chains.links_size))

-- its place can be addressed
pub place_fits : {p : Lent} {n k : ℕ} → StepOf p n k → Fits w64 (k * 8)
place_fits step = record { fits = omega (arith, step.high, step.same_n, step.ready.tall, step.ready.few) }

-- and lies in the heads of both kinds of chains
pub row_head_inside :
    {p : Lent} {n k : ℕ} {row_heads row_links set_heads set_links : List ℕ} → StepOf p n k × ChainsAt p n (k - 1) (chain_stores row_heads row_links set_heads set_links)
    → k < length row_heads
row_head_inside (step, chains) = omega (arith, step.high, chains.row_chains.within, chains.row_chains.heads_size)

pub set_head_inside :
    {p : Lent} {n k : ℕ} {row_heads row_links set_heads set_links : List ℕ} → StepOf p n k × ChainsAt p n (k - 1) (chain_stores row_heads row_links set_heads set_links)
    → k < length set_heads
set_head_inside (step, chains) = omega (arith, step.high, chains.set-chains.within, chains.set-chains.heads_size)

-- before the first step nothing is used, and the columns alone are counted
pub ends_none : (p : Lent) → Ready p → (l u reads : ℕ) → l ≡ 0 → u ≡ 0 → reads ≡ length p.columns → EndsAre p 0 l u reads
unfolding reads_so_far total upto run
ends_none p ready l u reads a b c = record {
  lower_end = a ∙ sym (used_none (plan_of p) lower);
  upper_end = b ∙ sym (used_none (plan_of p) upper);
  read = c ∙ sym (counted p ready 0 (omega arith) ∙ omega arith);
}

module _ {p : Lent} {n k : ℕ} (step : StepOf p n k) where
  own : suc (k - 1) ≡ k
  own = let low = step.low in omega arith

  below : k - 1 < p.n
  below = let low = step.low in let high = step.high in let same = step.same_n in omega arith

  -- what the code has counted after 2.2 of step k
  pub rows-counted : counted_reads p (after_rows (pattern_of p) k).known k
      ≡ counted_reads p (after (pattern_of p) (k - 1)) (k - 1) + total (λ i. length (row_of p i)) ((plan_of p).first_met k)
  rows-counted = rw own at (rows-add p step.ready (k - 1) below)

  -- after 2.4
  pub steps-counted : counted_reads p (after_steps (pattern_of p) k).known k
      ≡ counted_reads p (after_rows (pattern_of p) k).known k + total (λ l. length ((plan_of p).L l) + length ((plan_of p).U l)) ((plan_of p).S k)
  steps-counted = rw own at (steps-add p step.ready (k - 1) below)

  -- and after 2.5
  pub sets-counted : counted_reads p (after_steps (pattern_of p) k).known k ≡ counted_reads p (after (pattern_of p) k) k
  sets-counted = rw own at (sets-add p step.ready (k - 1) below)

  -- all of them are few
  pub counted-few : counted_reads p (after_steps (pattern_of p) k).known k < 4294967296
  counted-few = let high = step.high in let same = step.same_n in rw sets-counted (counted-small p step.ready k (omega arith))

-- before the first step no step is in a set S
pub chains-begin :
    {p : Lent} {n : ℕ} {row_heads row_links set_heads' set_links' : List ℕ} (set_heads set_links : List ℕ) → Chained row_heads row_links p.height n (unmet_at p (after (pattern_of p) 0))
    → length set_heads ≡ suc p.height → length set_links ≡ suc p.height → Zeros set_heads set_heads' × Zeros set_links set_links'
    → ChainsAt p n 0 (chain_stores row_heads row_links set_heads' set_links')
unfolding after before_steps
chains-begin {p} {n} set_heads set_links rows heads links (a, b) =
    record { row_chains = rows; set-chains = rw (a, b, heads, links) (chained_none p.height n rows.within) }
