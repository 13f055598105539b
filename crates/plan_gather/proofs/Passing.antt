-- A pattern that passes the judgement is ready for planning.
use mathlib.Core.List.{List}
use mathlib.Core.Path.{◌≡◌, refl, sym, ap, ◌∙◌}
use Prim.Native.Nat.{ℕ, suc, ◌*◌, ◌≤◌}
use lib.ListN.{length}
use native.Mathlib.Omega.{arith}
use mir.Syntax.{w64}
use mir.Val.{Fits}
use Rattle.foundation.specs.Pattern.{Lent, lent, max_height, pattern_fault, starts_fit}
use Rattle.foundation.proofs.Passing.{passes_starts, passes_small, passes_height, passes_plannable}
use Rattle.plan_gather.specs.Ready.{lent_by, Ready}
use Rattle.plan_pattern.proofs.Judging.{fitted}

-- A pattern that passes is ready for planning.
pub ready : (most : ℕ) (p : Lent) → pattern_fault most p ≡ 0 → Ready p
unfolding max_height
ready most p passes =
    let small = passes_small most p passes in
    record {
      plannable = passes_plannable most p passes;
      starts_fitting = passes_starts most p passes;
      some = small.0;
      tall = (passes_height most p passes).0;
      few = (passes_height most p passes).1;
      entries = small.3;
    }

-- a lent pattern has the columns that are said
pub lent_n : (n height : ℕ) (starts columns : List ℕ) → (lent n height starts columns).n ≡ n
unfolding lent_by lent
lent_n n height starts columns = refl

module _ (most n height : ℕ) (starts columns : List ℕ) (fault : ℕ) (found : fault ≡ pattern_fault most (lent n height starts columns)) (none : fault ≡ 0) where
  passes : pattern_fault most (lent n height starts columns) ≡ 0
  passes = sym found ∙ none

  -- a pattern without a fault has a start for each row, and one behind
  pub fault-starts : length starts ≡ suc height
  unfolding lent_by lent starts_fit
  fault-starts = (fitted n height starts columns (passes_starts most (lent n height starts columns) passes)).count

  -- so its row starts tell how many rows it has
  pub fault-rows : height ≡ (lent_by n starts columns).height
  unfolding lent_by lent
  fault-rows = omega (arith, fault-starts)

  pub fault-height : lent n height starts columns ≡ lent_by n starts columns
  unfolding lent_by lent
  fault-height = ap (λ (rows : ℕ). lent n rows starts columns) fault-rows

  -- it is ready
  pub fault-ready : Ready (lent_by n starts columns)
  fault-ready = rw (sym fault-height) (ready most (lent n height starts columns) passes)

  -- and small
  pub fault-few : (n ≤ 65536) × (height ≤ 65536)
  unfolding lent_by lent max_height
  fault-few = let (tall, few) = passes_height most (lent n height starts columns) passes in (omega arith, omega arith)

  -- so that the place behind its last step can be addressed
  pub fault_place : Fits w64 (n * 8)
  fault_place = record { fits = omega (arith, fault-few) }
