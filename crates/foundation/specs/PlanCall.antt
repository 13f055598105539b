-- What a planning call answers and leaves in the lent stores, and when a lent plan is this pattern's plan.
use Rattle.std.specs.Prelude.{Bool, true, not, ◌&&◌, List, [], ◌∷◌, ℕ, suc, eqb, length, take}
use Rattle.lists.specs.Functions.{all, same}
use Rattle.foundation.specs.Answer.{Answer, granted, refuse_if, and_then, result_store}
use Rattle.foundation.specs.Pattern.{Lent, judged}
use Rattle.foundation.specs.Plan.{Planning, Side, lower, upper, plan}
use Rattle.foundation.specs.Subscripts.{shared, starts_store, room_fault}
use Rattle.foundation.specs.Slots.{slots_of, slot_starts}

-- Document 01, "Fields worked through": "Plan: n, entries, L and U subscripts, L and U slots, reads." Document 02, ticket 9: "Let the plan record hold a
-- row count (..) beside n."
pub record Counts : Type 0 where
  pub n : ℕ
  pub height : ℕ
  pub entries : ℕ
  pub lower_subscripts : ℕ
  pub upper_subscripts : ℕ
  pub lower_slots : ℕ
  pub upper_slots : ℕ
  pub reads : ℕ

-- the eight numbers, the row count behind n, wherever counts are told or given as numbers
unfoldable pub count_numbers : Counts → List ℕ
count_numbers c = c.n ∷ c.height ∷ c.entries ∷ c.lower_subscripts ∷ c.upper_subscripts ∷ c.lower_slots ∷ c.upper_slots ∷ c.reads ∷ []

-- the used part of a side's subscript store
unfoldable pub subscripts : Planning → Side → ℕ → List ℕ
subscripts s side n = (shared s side n).store

-- every count of a plan
unfoldable pub counts_of : Lent → Planning → Counts
counts_of p s =
    record {
      n = p.n;
      height = p.height;
      entries = length p.columns;
      lower_subscripts = length (subscripts s lower p.n);
      upper_subscripts = length (subscripts s upper p.n);
      lower_slots = slots_of s lower p.n;
      upper_slots = slots_of s upper p.n;
      reads = s.reads;
    }

-- A side of a plan in its stores: the subscripts, the starts of the lists, the starts of the value slots.
pub record SideStores : Type 0 where
  pub subs : List ℕ
  pub starts : List ℕ
  pub slot_starts : List ℕ

-- the six stores of a plan
pub record PlanStores : Type 0 where
  pub lower_side : SideStores
  pub upper_side : SideStores

-- The lengths of the lent work stores, by what docs/ fixes for each: the row count, one more, or entries (ticket 9: "work stores (..) go by the row count").
pub record WorkSizes : Type 0 where
  pub of_height : List ℕ
  pub of_height_plus_one : List ℕ
  pub of_entries : List ℕ

unfoldable pub work_fits : Lent → WorkSizes → Bool
work_fits p work =
    all (eqb p.height) work.of_height && (all (eqb (suc p.height)) work.of_height_plus_one && all (eqb (length p.columns)) work.of_entries)

-- n starts of lists and n+1 starts of value slots
unfoldable pub starts_sized : Lent → SideStores → Bool
starts_sized p side = eqb (length side.starts) p.n && eqb (length side.slot_starts) (suc p.n)

-- Table, 6: "a starts store of the plan, or a work store in any call, has another length than its n, n+1 or entries".
unfoldable pub sizes_fit : Lent → PlanStores → WorkSizes → Bool
sizes_fit p stores work = starts_sized p stores.lower_side && (starts_sized p stores.upper_side && work_fits p work)

-- ---- planning

-- "Order is that of the table": 1 to 5, 6, then 7 and 8 step by step. Of the lent stores only the lengths count.
unfoldable pub planned : ℕ → Lent → PlanStores → WorkSizes → Answer Planning
planned most p stores work =
    and_then (judged most p)
    (λ pattern.
    refuse_if (not (sizes_fit p stores work)) 6
    (room_fault (plan pattern) (length stores.lower_side.subs) (length stores.upper_side.subs) 1 p.n))

-- the answer: every count of the plan, or the refusal
unfoldable pub plan_answer : Lent → Answer Planning → Answer Counts
plan_answer p answer = and_then answer (λ s. granted (counts_of p s))

-- what a result store of `room` places holds afterwards
unfoldable pub subscripts_after : Side → ℕ → ℕ → Answer Planning → List ℕ
subscripts_after side n room answer = result_store 0 room (λ s. subscripts s side n) answer

unfoldable pub starts_after : Side → ℕ → ℕ → Answer Planning → List ℕ
starts_after side n room answer = result_store 0 room (λ s. starts_store s side n) answer

unfoldable pub slot_starts_after : Side → ℕ → ℕ → Answer Planning → List ℕ
slot_starts_after side n room answer = result_store 0 room (λ s. slot_starts s side n) answer

unfoldable pub side_after : Side → ℕ → Answer Planning → SideStores → SideStores
side_after side n answer before =
    record {
      subs = subscripts_after side n (length before.subs) answer;
      starts = starts_after side n (length before.starts) answer;
      slot_starts = slot_starts_after side n (length before.slot_starts) answer;
    }

-- all result stores of a planning call afterwards
unfoldable pub plan_leaves : Lent → Answer Planning → PlanStores → PlanStores
plan_leaves p answer before =
    record {
      lower_side = side_after lower p.n answer before.lower_side;
      upper_side = side_after upper p.n answer before.upper_side;
    }

-- ---- a lent plan

-- the counts and the stores that a caller lends as this pattern's plan
pub record LentPlan : Type 0 where
  pub counts : Counts
  pub stores : PlanStores

-- count for count
unfoldable pub same_counts : Counts → Counts → Bool
same_counts a b =
    eqb a.n b.n
    && (eqb a.height b.height
    && (eqb a.entries b.entries
    && (eqb a.lower_subscripts b.lower_subscripts
    && (eqb a.upper_subscripts b.upper_subscripts
    && (eqb a.lower_slots b.lower_slots && (eqb a.upper_slots b.upper_slots && eqb a.reads b.reads))))))

-- every start, and every subscript that is used
unfoldable pub same_side : Planning → Side → ℕ → SideStores → Bool
same_side s side n q =
    same q.starts (starts_store s side n)
    && (same q.slot_starts (slot_starts s side n)
    && same (take (length (subscripts s side n)) q.subs) (subscripts s side n))

-- Table, 9: "the lent plan differs from this pattern's plan in some count, start or used subscript".
unfoldable pub agrees : Lent → Planning → LentPlan → Bool
agrees p s q =
    same_counts q.counts (counts_of p s)
    && (same_side s lower p.n q.stores.lower_side && same_side s upper p.n q.stores.upper_side)

-- 1 to 5, 6, then 9: this pattern's plan, if the lent one is it. Between them 26, "before 9": `may` is false where a system with more
-- rows than n is to be solved.
unfoldable pub held_if : Bool → ℕ → Lent → LentPlan → WorkSizes → Answer Planning
held_if may most p q work =
    and_then (judged most p)
    (λ pattern.
    refuse_if (not (sizes_fit p q.stores work)) 6
    (refuse_if (not may) 26 (refuse_if (not (agrees p (plan pattern) q)) 9 (granted (plan pattern)))))

unfoldable pub held : ℕ → Lent → LentPlan → WorkSizes → Answer Planning
unfolding held_if
held most p q work = held_if true most p q work
