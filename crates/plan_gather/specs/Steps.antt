-- What one step of a plan takes for granted: its chains, its lists so far, its reads.
use Rattle.std.specs.Prelude.{cond, not, List, ◌≡◌, ℕ, suc, ◌+◌, ◌-◌, ◌≤◌, eqb, length}
use Rattle.lists.specs.Functions.{keep, total}
use Rattle.lists.specs.Sets.{between, least_above, upto}
use Rattle.foundation.specs.Pattern.{Lent, row_of, pattern_of, column}
use Rattle.foundation.specs.Plan.{Planning, Side, lower, upper, so_far, after, after_rows, after_steps}
use Rattle.foundation.specs.PlanCall.{SideStores}
use Rattle.store_lists.specs.Chains.{Linked, Chained}
use Rattle.plan_gather.specs.Ready.{Ready, plan_of}
use Rattle.plan_gather.specs.Contains.{used, Contains}
use Rattle.plan_gather.specs.Gathering.{omit}

-- the one step of a chain, if no row was first met and the chain has one step; else 0
unfoldable pub sole_of : ℕ → ℕ → ℕ → ℕ
sole_of row step next = cond (eqb row 0) (cond (eqb next 0) step 0) 0

-- step k of a pattern that is ready
pub record StepOf (p : Lent) (n k : ℕ) : Type 0 where
  pub ready : Ready p
  pub same_n : p.n ≡ n
  pub low : 1 ≤ k
  pub high : k ≤ n

-- the chains of step k: the rows first met there, and the steps of S_k
pub record ChainsOf (p : Lent) (k row : ℕ) (row_links : List ℕ) (set : ℕ) (set_links : List ℕ) : Type 0 where
  pub rows : Linked row_links row ((plan_of p).first_met k)
  pub steps : Linked set_links set ((plan_of p).S k)

-- the kept list of step k so far, after the report's 2.2 and after its 2.4
abbrev pub kept_rows : Lent → Side → ℕ → List ℕ
kept_rows p side k = omit k (so_far (after_rows (pattern_of p) k) side)

abbrev pub kept_steps : Lent → Side → ℕ → List ℕ
kept_steps p side k = omit k (so_far (after_steps (pattern_of p) k) side)

-- Step k on one side: its stores contain the lists of the steps before it, and `end` of their subscripts are used.
pub record SideAt (p : Lent) (side : Side) (n k : ℕ) (i : SideStores) (end : ℕ) : Type 0 where
  pub step : StepOf p n k
  pub contained : Contains (plan_of p) side n (k - 1) i
  pub end_is : end ≡ used (plan_of p) side (k - 1)

-- What the code has counted where planning knows s and has read the columns up to k: all the C_j are counted before the first step, so those that are still
-- to be read are counted already.
unfoldable pub counted_reads : Lent → Planning → ℕ → ℕ
counted_reads p s k = s.reads + total (λ j. length (column (pattern_of p) j)) (between (suc k) p.n)

-- the rows whose least column is j
unfoldable pub rows_at : Lent → ℕ → List ℕ
rows_at p j = keep (λ i. eqb (least_above 0 (row_of p i)) j) (upto p.height)

-- those of them that stand behind row i
unfoldable pub rows_from : Lent → ℕ → ℕ → List ℕ
rows_from p i j = keep (λ r. eqb (least_above 0 (row_of p r)) j) (between (suc i) p.height)

-- of those with their least column j, the ones that are not met: the code marks a row as met by taking it out of its chain
unfoldable pub unmet_at : Lent → Planning → ℕ → List ℕ
unmet_at p s j = keep (λ i. not (s.met i)) (rows_at p j)

-- the stores of the chains: of the rows by their least column, and of the sets S
pub record ChainStores : Type 0 where
  pub row_heads : List ℕ
  pub row_links : List ℕ
  pub set_heads : List ℕ
  pub set_links : List ℕ

abbrev pub chain_stores : (row_heads row_links set_heads set_links : List ℕ) → ChainStores
chain_stores row_heads row_links set_heads set_links = record { row_heads = row_heads; row_links = row_links; set_heads = set_heads; set_links = set_links }

-- the chains of the rows that are not met, and of the sets S, after k steps
pub record ChainsAt (p : Lent) (n k : ℕ) (c : ChainStores) : Type 0 where
  pub row_chains : Chained c.row_heads c.row_links p.height n (unmet_at p (after (pattern_of p) k))
  pub set-chains : Chained c.set_heads c.set_links p.height n (after (pattern_of p) k).S

-- where both stores end and what was read, after k steps
pub record EndsAre (p : Lent) (k l u reads : ℕ) : Type 0 where
  pub lower_end : l ≡ used (plan_of p) lower k
  pub upper_end : u ≡ used (plan_of p) upper k
  pub read : reads ≡ counted_reads p (after (pattern_of p) k) k
