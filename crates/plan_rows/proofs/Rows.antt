-- What the report's 2.2 does at a step: its rows leave their chain, and what they bring lies where it is said.
use mathlib.Core.Bool.{Bool, not}
use mathlib.Core.List.{List, [], ◌∷◌}
use mathlib.Core.Path.{◌≡◌, sym, ap, ◌∙◌}
use Prim.Native.Nat.{ℕ, ◌+◌, ◌-◌, ◌<◌}
use native.Mathlib.Omega.{arith}
use lib.ListN.{length, set, get_or}
use mir.Syntax.{w64}
use mir.Val.{Fits}
use Rattle.lists.specs.Functions.{keep, total, span}
use Rattle.lists.specs.Sets.{join_all}
use Rattle.lists.proofs.Kept.{keep_cong}
use Rattle.lists.proofs.Members.{union-nil_left}
use Rattle.foundation.specs.Pattern.{Lent, pattern_of, row_of}
use Rattle.foundation.specs.Plan.{Side, lower, upper, brings, so_far, initialized, after, after_initialization, after_rows}
use Rattle.foundation.proofs.InStep.{rows-met}
use Rattle.store_lists.specs.Chains.{Linked, Chained, RowsWalk}
use Rattle.store_lists.proofs.Chaining.{linked_end, linked_next, chained_cong}
use Rattle.plan_gather.specs.Ready.{plan_of}
use Rattle.plan_gather.specs.Gathering.{without, omit, GrownIn}
use Rattle.plan_gather.specs.Steps.{StepOf, rows_at, unmet_at, counted_reads, kept_rows}
use Rattle.plan_gather.proofs.Chaining.{unmet_rows_lem, rows-marked, rows_walk, rows-total}
use Rattle.plan_gather.proofs.Gathering.{from-rows_is}
use Rattle.plan_gather.proofs.Turning.{step_high}
use Rattle.plan_gather.proofs.Progress.{rows-counted, steps-counted, counted-few}
use Rattle.plan_lists.specs.declared.lying.Lies.TheVariants.{Grown, Row}
use Rattle.plan_lists.specs.declared.lying.Lists.{Lists}
use Rattle.plan_lists.specs.Lying.{ListsAt}

-- the number of steps by another name
chained_to : {last m n : ℕ} {heads links : List ℕ} {lists : ℕ → List ℕ} → m ≡ n → Chained heads links last m lists → Chained heads links last n lists
chained_to e h = rw e at h

module _ {p : Lent} {n k : ℕ} (step : StepOf p n k) where
  -- ---- the chain of the rows

  module _ {heads links : List ℕ} (chains : Chained heads links p.height n (unmet_at p (after (pattern_of p) (k - 1)))) where
    -- it lies in the heads
    pub head_inside : k < length heads
    head_inside = let h = step.high in let s = chains.heads_size in let w = chains.within in omega arith

    -- it leads through the rows first met at k
    pub rows-linked : {row : ℕ} → row ≡ get_or heads k 0 → Linked links row ((plan_of p).first_met k)
    rows-linked e =
        let low = step.low in
        let h = step_high step in
        rw (e, ← unmet_rows_lem p step.ready (k - 1) k (omega arith) h) (chains.chain_at k low step.high)

    -- once it is emptied, its rows are met
    pub rows_left : Chained (set heads k 0) links p.height n (unmet_at p (after_rows (pattern_of p) k).known)
    unfolding unmet_at
    rows_left =
        chained_cong (set heads k 0) links p.height n (unmet_at p (after (pattern_of p) k)) (unmet_at p (after_rows (pattern_of p) k).known)
        (λ j l u. keep_cong (λ i. not ((after (pattern_of p) k).met i)) (λ i. not ((after_rows (pattern_of p) k).known.met i)) (rows_at p j)
        (λ i m. ap (λ (met : ℕ → Bool). not (met i)) (sym (rows-met (pattern_of p) k step.low))))
        (chained_to step.same_n (rows-marked p step.ready heads links k step.low (step_high step) (chained_to (sym step.same_n) chains)))

  -- ---- what they bring

  module _ (links : List ℕ) (row : ℕ) (linked : Linked links row ((plan_of p).first_met k)) where
    -- the rows may be walked
    pub rows_walked : RowsWalk links row p.starts ((plan_of p).first_met k)
    rows_walked = rows_walk p step.ready k step.low (step_high step) links row linked

    -- no row brings nothing
    none_kept : row ≡ 0 → (side : Side) → kept_rows p side k ≡ []
    unfolding join_all
    none_kept e side =
        sym (rw (linked_end links row ((plan_of p).first_met k) e linked) at (from-rows_is p step.ready k step.low (step_high step) side))

    -- one row is met alone
    pub one_row_lem : (row ≡ 0 → ⊥) → get_or links row 0 ≡ 0 → (plan_of p).first_met k ≡ row ∷ []
    one_row_lem some last =
        let (later, whole, inside, on) = linked_next links row ((plan_of p).first_met k) some linked in
        whole ∙ ap (λ (xs : List ℕ). row ∷ xs) (linked_end links (get_or links row 0) later last on)

    -- there is a link from a row
    pub row_inside : (row ≡ 0 → ⊥) → row < length links
    row_inside some = (linked_next links row ((plan_of p).first_met k) some linked).2

    module _ {reads : ℕ} (counted : reads ≡ counted_reads p (after (pattern_of p) (k - 1)) (k - 1)) where
      -- what the rows have is read
      module _ {more : ℕ} (walked : (rows : List ℕ) → Linked links row rows → more ≡ total (span p.starts) rows) where
        pub rows-read : reads + more ≡ counted_reads p (after_rows (pattern_of p) k).known k
        rows-read =
            omega (arith, counted, walked ((plan_of p).first_met k) linked, rows-total p step.ready k step.low (step_high step), rows-counted step)

        -- which is little
        pub read_fits : Fits w64 (reads + more)
        read_fits = record { fits = omega (arith, rows-read, steps-counted step, counted-few step) }

      -- nothing is read where there is no row
      none_read : row ≡ 0 → reads ≡ counted_reads p (after_rows (pattern_of p) k).known k
      unfolding total
      none_read e =
          let none : total (λ i. length (row_of p i)) ((plan_of p).first_met k) ≡ 0 = rw (linked_end links row ((plan_of p).first_met k) e linked) in
          omega (arith, counted, none, rows-counted step)

  -- one row brings its own
  one_kept : {row : ℕ} → (plan_of p).first_met k ≡ row ∷ [] → (side : Side) → kept_rows p side k ≡ without k (brings (pattern_of p) side row)
  unfolding join_all
  one_kept {row} rows side =
      sym (rw rows at (from-rows_is p step.ready k step.low (step_high step) side)) ∙ union-nil_left (without k (brings (pattern_of p) side row))

  -- what was read before
  pub begun : {lists : Lists} {row : ℕ} {lowers uppers : List ℕ} → ListsAt lists p k row (after_initialization (pattern_of p) k) (k - 1) lowers uppers
      → lists.reads ≡ counted_reads p (after (pattern_of p) (k - 1)) (k - 1)
  unfolding after_initialization initialized
  begun empty = empty.counted

  module _ {lists : Lists} {row : ℕ} {lowers uppers : List ℕ} (empty : ListsAt lists p k row (after_initialization (pattern_of p) k) (k - 1) lowers uppers) where
    -- where there is no row, nothing changes
    pub no_rows : (links : List ℕ) → Linked links row ((plan_of p).first_met k) → row ≡ 0 → ListsAt lists p k row (after_rows (pattern_of p) k) k lowers uppers
    unfolding after_initialization initialized so_far omit keep
    no_rows links linked e = record {
      lower_size = empty.lower_size;
      upper_size = empty.upper_size;
      lower_lies = rw (none_kept links row linked e lower) empty.lower_lies;
      upper_lies = rw (none_kept links row linked e upper) empty.upper_lies;
      counted = none_read links row linked empty.counted e;
    }

    -- what one row brings lies in the pattern
    pub row_alone : {reads : ℕ} → (plan_of p).first_met k ≡ row ∷ [] → reads ≡ counted_reads p (after_rows (pattern_of p) k).known k
        → ListsAt (record { lower = Row; upper = Row; reads = reads }) p k row (after_rows (pattern_of p) k) k lowers uppers
    row_alone rows read = record {
      lower_size = empty.lower_size;
      upper_size = empty.upper_size;
      lower_lies = record { rows = rows; is = one_kept rows lower };
      upper_lies = record { rows = rows; is = one_kept rows upper };
      counted = read;
    }

-- what several rows bring has grown
pub rows_grown : {p : Lent} {k row l u reads : ℕ} {lowers uppers : List ℕ} → GrownIn p.height l lowers (kept_rows p lower k) → GrownIn p.height u uppers (kept_rows p upper k)
    → reads ≡ counted_reads p (after_rows (pattern_of p) k).known k
    → ListsAt (record { lower = Grown l; upper = Grown u; reads = reads }) p k row (after_rows (pattern_of p) k) k lowers uppers
rows_grown a b read = record { lower_size = a.store_size; upper_size = b.store_size; lower_lies = a; upper_lies = b; counted = read }
