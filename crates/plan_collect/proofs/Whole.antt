-- The lists of a step after the report's 2.4, on either side: grown, added behind the list of the step before, or those of a sole step; and what was read.
use mathlib.Core.Bool.{Bool, true}
use mathlib.Core.List.{List, ◌∷◌}
use mathlib.Core.Path.{◌≡◌, refl, sym, ◌∙◌}
use Prim.Native.Nat.{ℕ, suc, ◌+◌, ◌≤◌, ◌<◌}
use native.Mathlib.Omega.{arith}
use lib.ListN.{length, get_or}
use mir.Syntax.{w64}
use mir.Val.{Fits}
use borrow.Author.Tests.{eq-eqb}
use Rattle.lists.specs.Functions.{total}
use Rattle.foundation.specs.Pattern.{Lent, pattern_of}
use Rattle.foundation.specs.Plan.{Side, lower, upper, after_rows, after_steps}
use Rattle.foundation.specs.PlanCall.{SideStores}
use Rattle.foundation.specs.Subscripts.{sole_step}
use Rattle.store_lists.specs.Chains.{Linked, StepsWalk, both_spans}
use Rattle.store_lists.proofs.Chaining.{linked_next}
use Rattle.plan_gather.specs.Ready.{Ready, plan_of}
use Rattle.plan_gather.specs.Gathering.{without, GrownIn}
use Rattle.plan_gather.specs.Steps.{StepOf, ChainsOf, SideAt, sole_of, counted_reads, kept_rows, kept_steps}
use Rattle.plan_gather.proofs.Chaining.{SlotsTo, steps-total, steps_walk}
use Rattle.plan_gather.proofs.Contains.{facts}
use Rattle.plan_gather.proofs.Gathering.{steps_kept}
use Rattle.plan_gather.proofs.Progress.{counted-few, steps-counted}
use Rattle.plan_gather.proofs.Turning.{sole_of_lem}
use Rattle.plan_grow.specs.Growing.{StepsReady}
use Rattle.plan_append.specs.Joining.{ChainsJoin, JoinsLast, AddedAs}
use Rattle.plan_append.specs.declared.appended.Added.TheVariants as added
use Rattle.plan_append.proofs.Joining.{joins}
use Rattle.plan_lists.specs.Lying.{LiesAs, WholeAt, ListsWhole}
use Rattle.plan_lists.specs.declared.lying.Lies.{Lies}
use Rattle.plan_lists.specs.declared.lying.Lies.TheVariants.{Grown, Sole, Behind}
use Rattle.plan_lists.specs.declared.lying.Lists.{Lists}
use Rattle.plan_collect.specs.Collecting.{Collectable}

-- ---- a list that grows

module _ {lies : Lies} {p : Lent} {side : Side} {n k row : ℕ} {row_links : List ℕ} {set : ℕ} {set_links : List ℕ} {i : SideStores} {end : ℕ} {growing : List ℕ}
    (c : Collectable lies p side n k row row_links set set_links i end growing) where
  -- what the rows brought can be put at the front of the growing store
  pub rows-ready :
      (Ready p × (1 ≤ k) × (k ≤ n)) × ((Linked row_links row ((plan_of p).first_met k) × (length growing ≡ p.height)) × LiesAs lies p side k row growing (kept_rows p side k))
  rows-ready = let step = c.at.step in ((step.ready, step.low, step.high), ((c.chains.rows, c.size), c.lies_there))

  -- from there the steps of S_k can be joined
  pub steps-ready : {count : ℕ} {growing' : List ℕ} → GrownIn p.height count growing' (kept_rows p side k) → StepsReady p side n k set set_links i count growing'
  steps-ready grown = record { step = c.at.step; linked = c.chains.steps; contained = c.at.contained; grown = grown }

  -- and then the list is whole
  pub grown-whole : {count : ℕ} {growing' : List ℕ} → GrownIn p.height count growing' (kept_steps p side k) → WholeAt (Grown count) p side k row growing'
  grown-whole grown = record { lies_there = grown; alone = c.not-sole }

-- ---- a list that is added behind the one of the step before

-- what the row adds there is what is left of the whole list
pub added_whole :
    {p : Lent} {side : Side} {n k row shared from : ℕ} {growing : List ℕ} → JoinsLast p n k row → AddedAs (added.Behind shared from) p side k row
    → WholeAt (Behind shared from) p side k row growing
added_whole {p} {side} {k = k} j (few, rest) =
    let step = j.step in
    let high : k ≤ p.n = rw step.same_n step.high in
    record {
      lies_there = record { rows = j.rows; inside = few; rest = rest; is = steps_kept p step.ready k step.low high side };
      alone = tt;
    }

-- ---- the list of a sole step

-- a list that begins with k is the rest of it, without k
without-own : (k : ℕ) (xs ys : List ℕ) → xs ≡ k ∷ ys → ys ≡ without k xs
unfolding without
without-own k xs ys e = rw (e, eq-eqb k k refl)

module _ {p : Lent} {n k row set l : ℕ} {row_links set_links : List ℕ} (step : StepOf p n k) (chains : ChainsOf p k row row_links set set_links)
    (found : l ≡ sole_of row set (get_or set_links set 0)) where
  is_sole : sole_step (plan_of p) k ≡ l
  is_sole = sym (found ∙ sole_of_lem p k chains)

  -- where one is found its list is k and then the list of k
  pub sole-whole : {side : Side} {growing : List ℕ} → (l ≡ 0 → ⊥) → WholeAt (Sole l) p side k row growing
  unfolding pattern_of
  sole-whole {side} some =
      let high : k ≤ p.n = rw step.same_n step.high in
      let before = (facts p step.ready).sole side k step.low high (omega (arith, is_sole)) in
      record {
        lies_there = record {
          some = omega (arith, some);
          sole = is_sole;
          is = steps_kept p step.ready k step.low high side ∙ without-own k _ _ (rw is_sole at before.1);
        };
        alone = tt;
      }

  -- where none is found the steps of S_k are collected, and where the row joins the list of the step before by the chains it does so by the plan
  pub collect_ready :
      {lies : Lies} {side : Side} {i : SideStores} {end : ℕ} {growing : List ℕ} {join : Bool} → l ≡ 0 → SideAt p side n k i end → length growing ≡ p.height
      → LiesAs lies p side k row growing (kept_rows p side k) → (join ≡ true → ChainsJoin k row row_links set set_links)
      → (join ≡ true → JoinsLast p n k row) × Collectable lies p side n k row row_links set set_links i end growing
  collect_ready none at size there one = (
    λ e. joins step chains (one e),
    record { at = at; chains = chains; not-sole = is_sole ∙ none; size = size; lies_there = there },
  )

-- ---- what is read

-- where the chain of S_k starts, there is a link
pub set-inside : {p : Lent} {k row set : ℕ} {row_links set_links : List ℕ} → ChainsOf p k row row_links set set_links → 0 < set → set < length set_links
set-inside {p} {k} {set = set} {set_links = set_links} chains some = (linked_next set_links set ((plan_of p).S k) (λ e. omega arith) chains.steps).2

-- a side's stores have the starts of the slots before step k
slots_to : {p : Lent} {side : Side} {n k : ℕ} {i : SideStores} {end : ℕ} → SideAt p side n k i end → SlotsTo (plan_of p) side k i.slot_starts
slots_to at = record {
  room = omega (arith, at.step.high, at.contained.slots_size);
  at = λ l before. at.contained.slots_at l (omega arith);
}

module _ {p : Lent} {n k row set : ℕ} {row_links set_links : List ℕ} {lowers uppers : SideStores} {l u : ℕ} (at_lower : SideAt p lower n k lowers l)
    (at_upper : SideAt p upper n k uppers u) (chains : ChainsOf p k row row_links set set_links) where
  high : k ≤ p.n
  high = rw at_lower.step.same_n at_lower.step.high

  -- the steps of S_k may be walked
  pub set_walks : length set_links ≡ suc p.height → StepsWalk set_links set lowers.slot_starts uppers.slot_starts ((plan_of p).S k)
  set_walks size =
      let step = at_lower.step in
      steps_walk p step.ready k step.low high lowers.slot_starts uppers.slot_starts (slots_to at_lower) (slots_to at_upper) set_links set
      size chains.steps

  module _ {reads more : ℕ} (read : reads ≡ counted_reads p (after_rows (pattern_of p) k).known k)
      (walked : (steps : List ℕ) → Linked set_links set steps → more ≡ total (both_spans lowers.slot_starts uppers.slot_starts) steps) where
    -- the sum of the sizes of their lists is what 2.4 reads
    pub reads_collected : reads + more ≡ counted_reads p (after_steps (pattern_of p) k).known k
    reads_collected =
        let step = at_lower.step in
        omega (
          arith,
          read,
          walked ((plan_of p).S k) chains.steps,
          steps-total p step.ready k step.low high lowers.slot_starts uppers.slot_starts (slots_to at_lower) (slots_to at_upper),
          steps-counted step,
        )

    -- and the reads are few
    pub reads_fit : Fits w64 (reads + more)
    reads_fit = record { fits = omega (arith, reads_collected, counted-few at_lower.step) }

-- ---- both sides

-- both lists are whole
pub lists_whole :
    {lists : Lists} {p : Lent} {k row : ℕ} {lowers uppers : List ℕ} → length lowers ≡ p.height → length uppers ≡ p.height → WholeAt lists.lower p lower k row lowers
    → WholeAt lists.upper p upper k row uppers → lists.reads ≡ counted_reads p (after_steps (pattern_of p) k).known k
    → ListsWhole lists p k row lowers uppers
lists_whole l u a b read = record {
  at = record { lower_size = l; upper_size = u; lower_lies = a.lies_there; upper_lies = b.lies_there; counted = read };
  lower_alone = a.alone;
  upper_alone = b.alone;
}
