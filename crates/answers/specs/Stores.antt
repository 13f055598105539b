-- The lent stores of planning's calls, as records: a contract hands over each store once.
use Rattle.std.specs.Prelude.{List, [], ◌∷◌, ◌≡◌, ℕ, length}
use Rattle.foundation.specs.Answer.{work_store}
use Rattle.foundation.specs.PlanCall.{PlanStores, SideStores, LentPlan, WorkSizes}
use Rattle.answers.specs.Answers.{counts_in}
use Rattle.answers.specs.declared.PlanCounts.{PlanCounts}

-- the three stores of a side, as lent
abbrev pub side_stores : (subs starts slots : List ℕ) → SideStores
side_stores subs starts slots = record { subs = subs; starts = starts; slot_starts = slots }

-- the six stores of a plan, as lent
abbrev pub plan_stores : (l_subs l_starts l_slots u_subs u_starts u_slots : List ℕ) → PlanStores
plan_stores l_subs l_starts l_slots u_subs u_starts u_slots =
    record { lower_side = side_stores l_subs l_starts l_slots; upper_side = side_stores u_subs u_starts u_slots }

-- a lent plan
abbrev pub lent_plan : PlanCounts → PlanStores → LentPlan
lent_plan counts stores = record { counts = counts_in counts; stores = stores }

-- The work stores: the chains of the rows and of the sets S have one place more than there are rows, the two stores in which L_k and U_k grow a place for each row.
pub record WorkStores : Type 0 where
  pub row_heads : List ℕ
  pub row_links : List ℕ
  pub set_heads : List ℕ
  pub set_links : List ℕ
  pub list : List ℕ
  pub spare : List ℕ

abbrev pub work_stores : (row_heads row_links set_heads set_links list spare : List ℕ) → WorkStores
work_stores row_heads row_links set_heads set_links list spare =
    record { row_heads = row_heads; row_links = row_links; set_heads = set_heads; set_links = set_links; list = list; spare = spare }

abbrev pub work_sizes : WorkStores → WorkSizes
work_sizes work =
    record {
      of_height = length work.list ∷ length work.spare ∷ [];
      of_height_plus_one = length work.row_heads ∷ length work.row_links ∷ length work.set_heads ∷ length work.set_links ∷ [];
      of_entries = [];
    }

-- each work store is zero afterwards
pub record WorkLeft (work work' : WorkStores) : Type 0 where
  pub row_heads_lem : work'.row_heads ≡ work_store 0 (length work.row_heads)
  pub row_links_lem : work'.row_links ≡ work_store 0 (length work.row_links)
  pub set_heads_lem : work'.set_heads ≡ work_store 0 (length work.set_heads)
  pub set_links_lem : work'.set_links ≡ work_store 0 (length work.set_links)
  pub list_left : work'.list ≡ work_store 0 (length work.list)
  pub spare_left : work'.spare ≡ work_store 0 (length work.spare)
