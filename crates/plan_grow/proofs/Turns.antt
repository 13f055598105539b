-- The turns of a chain: of the rows first met at a step, and of the steps handed on to it.
use mathlib.Core.Bool.{true}
use mathlib.Core.List.{List, [], ◌∷◌, ◌++◌}
use mathlib.Core.Logic.{⊎_elim}
use mathlib.Core.Path.{◌≡◌, refl, ap, ◌∙◌}
use Prim.Native.Nat.{ℕ, suc, ◌+◌, ◌-◌, ◌*◌, ◌^◌, ◌≤◌, ◌<◌}
use native.Mathlib.Nat.{le_trans, le_of_lt}
use native.Mathlib.Numerals.{add-one}
use native.Mathlib.Omega.{arith}
use lib.Dec.{eqb}
use lib.ListN.{length, take, drop, get_or, set, length-append, length-set}
use lib.Seq.{take-suc-set}
use borrow.Author.Tests.{eq-eqb, ne_eqb}
use Rattle.lists.specs.Sets.{member, Ascending, union}
use Rattle.lists.proofs.Members.{by_test, member_head, member_tail, member_cases, not-member-nil, union-nil_right, union_cases}
use Rattle.lists.proofs.Order.{member-low, ascending_weaken, union-append}
use Rattle.lists.proofs.Small.{below_size, before_size, still_below}
use Rattle.foundation.specs.Pattern.{Lent, lent, pattern_of}
use Rattle.foundation.specs.Plan.{Side, lower, upper, brings}
use Rattle.foundation.specs.PlanCall.{SideStores}
use Rattle.foundation.specs.Subscripts.{kept}
use Rattle.store_place.specs.Places.{ListAsks}
use Rattle.plan_pattern.proofs.Judging.{fitted}
use Rattle.plan_gather.specs.Ready.{lent_by, Ready, plan_of}
use Rattle.plan_gather.specs.Gathering.{without, Within, GrownIn}
use Rattle.plan_gather.specs.Steps.{StepOf, kept_rows, kept_steps}
use Rattle.plan_gather.proofs.Chaining.{step_in}
use Rattle.plan_gather.proofs.Contains.{Opened, contains_opens, opened-asks}
use Rattle.plan_gather.proofs.Gathering.{RowRead, row_read, met_row, met_ascend, brings-within, from-rows_is, from-rows-within, handed_within, from-steps_is}
use Rattle.plan_gather.proofs.Joining.{within_none, within-length, joined_within, grown_none}
use Rattle.plan_gather.proofs.Turning.{step_high}
use Rattle.plan_grow.specs.Growing.{StepsReady}
use Rattle.plan_grow.proofs.Growing.{Gathers, gathers_here, gathers_turn}

-- ---- a turn over the rows first met

-- what the rows of a chain, joined up to what is left, are to make
abbrev pub RowsJoined : Lent → Side → ℕ → ℕ → (growing left : List ℕ) → Type 0
RowsJoined p side k count growing left =
    Gathers p.height k count growing (λ r. without k (brings (pattern_of p) side r)) ((plan_of p).first_met k) (kept_rows p side k) left

-- step k of a pattern that is lent
pub lent_step : (n : ℕ) (starts columns : List ℕ) {k : ℕ} → Ready (lent_by n starts columns) × (1 ≤ k) × (k ≤ n) → StepOf (lent_by n starts columns) n k
unfolding lent_by lent
lent_step n starts columns (ready, low, high) = record { ready = ready; same_n = refl; low = low; high = high }

module _ {p : Lent} {n k : ℕ} (of : StepOf p n k) where
  -- the chain from its first member on
  pub rows_start : (side : Side) (growing : List ℕ) → length growing ≡ p.height → RowsJoined p side k 0 growing ((plan_of p).first_met k)
  rows_start side growing size =
      record {
        so_far = [];
        grown = grown_none p.height growing size;
        within = within_none (suc k) p.height;
        among = λ i e. e;
        comes = from-rows_is p of.ready k of.low (step_high of) side;
      }

  -- what a row first met brings lies within bounds
  pub brought_within :
      (side : Side) (i : ℕ) → member i ((plan_of p).first_met k) ≡ true → (more : List ℕ) → more ≡ brings (pattern_of p) side i → Within k p.height more
  brought_within side i m more e = rw e (brings-within p of.ready k of.low (step_high of) side i m)

-- ---- their columns

module _ (n : ℕ) (starts columns : List ℕ) {k : ℕ} (of : StepOf (lent_by n starts columns) n k) (i : ℕ)
    (m : member i ((plan_of (lent_by n starts columns)).first_met k) ≡ true) where
  -- a row first met is read
  pub row_turn : RowRead n starts columns i
  unfolding lent_by lent
  row_turn =
      let r = met_row (lent_by n starts columns) of.ready k of.low of.high i m in
      row_read n (length starts - 1) starts columns (fitted n (length starts - 1) starts columns of.ready.starts_fitting) i r.0 r.1

  -- what the code joins is what the row brings to U
  pub columns_brought :
      take (get_or starts i 0 - get_or starts (i - 1) 0) (drop (get_or starts (i - 1) 0) columns) ≡ brings (pattern_of (lent_by n starts columns)) upper i
  unfolding brings pattern_of
  columns_brought = row_turn.is

-- ---- their own numbers

-- What the rows of a chain, joined up to what is left, are to make of L. They are all below those that are left.
pub record NumbersJoined (p : Lent) (k count : ℕ) (growing left : List ℕ) : Type 0 where
  pub joined : RowsJoined p lower k count growing left
  pub ordered : Ascending 0 left
  pub below : (x y : ℕ) → member x (take count growing) ≡ true → member y left ≡ true → x < y

-- the chain from its first member on
pub numbers_start :
    {p : Lent} {n k : ℕ} → StepOf p n k → (growing : List ℕ) → length growing ≡ p.height → NumbersJoined p k 0 growing ((plan_of p).first_met k)
numbers_start {p = p} {k = k} of growing size =
    record {
      joined = rows_start of lower growing size;
      ordered = met_ascend p of.ready k of.low (step_high of);
      below = λ x y m n. absurd (not-member-nil x m);
    }

-- a row alone, without k, has no other member
alone : (k i x : ℕ) → member x (without k (i ∷ [])) ≡ true → x ≡ i
unfolding without
alone k i x m =
    by_test (eqb i k)
    (λ e. absurd (not-member-nil x (rw e at m)))
    (λ e. ⊎_elim (λ q. q) (λ none. absurd (not-member-nil x none)) (member_cases x i [] (rw e at m)))

module _ {p : Lent} {n k count i : ℕ} {growing left later : List ℕ} (of : StepOf p n k) (j : NumbersJoined p k count growing left)
    (next : left ≡ i ∷ later) where
  -- what the row brings, itself alone, lies within bounds
  number-within : Within k p.height (i ∷ [])
  unfolding brings
  number-within = brought_within of lower i (gathers_here j.joined next) (i ∷ []) refl

  -- the row is one of the pattern's
  pub number-high : i ≤ p.height
  number-high = number-within.bounded i (member_head i [])

  -- and all that is grown is below it
  so_far_below : (x : ℕ) → member x j.joined.so_far ≡ true → x < i
  so_far_below x m = j.below x i (rw j.joined.grown.is m) (rw next (member_head i later))

  -- k itself is left out
  pub number_passed : i ≡ k → GrownIn p.height count growing (union j.joined.so_far (without k (i ∷ [])))
  unfolding without
  number_passed e = rw (eq-eqb i k e, union-nil_right) j.joined.grown

  module _ (other : i ≡ k → ⊥) where
    -- any other row joins behind all that is grown
    behind_all : union j.joined.so_far (without k (i ∷ [])) ≡ j.joined.so_far ++ i ∷ []
    unfolding without
    behind_all =
        union-append j.joined.so_far (without k (i ∷ [])) (λ x y m e. rw (alone k i y e) (so_far_below x m)) ∙ rw (ne_eqb i k other)

    -- there is a place for it
    pub number_place : count < p.height
    number_place =
        let size = j.joined.grown.size in
        let fits = within-length k p.height _ (joined_within k p.height j.joined.so_far (i ∷ []) j.joined.within number-within) in
        let long = ap length behind_all ∙ length-append j.joined.so_far (i ∷ []) in
        omega arith

    -- where it is written
    pub number_added : GrownIn p.height (count + 1) (set growing count i) (union j.joined.so_far (without k (i ∷ [])))
    number_added =
        let g = j.joined.grown in
        let place = number_place in
        rw behind_all
        (record {
          store_size = length-set growing count i ∙ g.store_size;
          size = rw (g.size, length-append);
          fits = omega arith;
          is = rw (add-one, take-suc-set growing count i (still_below place g.store_size), g.is);
        })

  -- either way the chain goes on
  pub numbers-turn :
      {count' : ℕ} {growing' : List ℕ} → GrownIn p.height count' growing' (union j.joined.so_far (without k (i ∷ [])))
      → NumbersJoined p k count' growing' later
  unfolding brings Ascending
  numbers-turn h =
      let up : Ascending 0 (i ∷ later) = rw next at j.ordered in
      record {
        joined = gathers_turn j.joined next (i ∷ []) number-within refl h;
        ordered = ascending_weaken 0 (suc i) later (omega arith) up.1;
        below = λ x y m n.
            ⊎_elim (λ e. j.below x y (rw j.joined.grown.is e) (rw next (member_tail y i later n)))
            (λ e. omega (arith, alone k i x e, member-low y (suc i) later up.1 n))
            (union_cases x j.joined.so_far (without k (i ∷ [])) (rw h.is at m));
      }

-- ---- a turn over the steps handed on

-- what the steps of a chain, joined up to what is left, are to make
abbrev pub StepsJoined : Lent → Side → ℕ → ℕ → (growing left : List ℕ) → Type 0
StepsJoined p side k count growing left =
    Gathers p.height k count growing (λ m. without k (kept (plan_of p) side m)) ((plan_of p).S k) (kept_steps p side k) left

-- A step handed on to k is read.
pub record StepRead (p : Lent) (side : Side) (n k l : ℕ) (i : SideStores) : Type 0 where
  pub low : 1 ≤ l
  pub before : l < k
  pub high : k ≤ n
  pub starts_size : length i.starts ≡ n
  pub slots_size : length i.slot_starts ≡ suc n
  pub opens : Opened (plan_of p) side l i
  pub within : Within k p.height (kept (plan_of p) side l)

-- its place can be told
pub step_asks : {p : Lent} {side : Side} {n k l : ℕ} {i : SideStores} → StepRead p side n k l i → length i.subs * 8 < 2 ^ 63 → ListAsks i.starts i.slot_starts l
step_asks r room =
    opened-asks r.opens r.low (below_size (le_trans (le_of_lt r.before) r.high) r.slots_size)
    (before_size r.low (le_trans (le_of_lt r.before) r.high) r.starts_size) room

module _ {p : Lent} {side : Side} {n k first : ℕ} {links : List ℕ} {i : SideStores} {count : ℕ} {growing : List ℕ}
    (s : StepsReady p side n k first links i count growing) where
  -- the chain from its first member on
  pub steps_start : StepsJoined p side k count growing ((plan_of p).S k)
  steps_start =
      let e = s.step.same_n in
      let low = s.step.low in
      let high = s.step.high in
      record {
        so_far = kept_rows p side k;
        grown = s.grown;
        within = from-rows-within p s.step.ready k low (omega arith) side;
        among = λ i m. m;
        comes = from-steps_is p s.step.ready k low (omega arith) side;
      }

  -- a step of the chain is read
  pub step_turn : (l : ℕ) → member l ((plan_of p).S k) ≡ true → StepRead p side n k l i
  step_turn l m =
      let e = s.step.same_n in
      let low = s.step.low in
      let high = s.step.high in
      let h = step_in p s.step.ready k l low m in
      record {
        low = h.0;
        before = h.1;
        high = high;
        starts_size = s.contained.starts_size;
        slots_size = s.contained.slots_size;
        opens = contains_opens s.step.ready e (omega arith) s.contained l h.0 (omega arith);
        within = handed_within p s.step.ready k low (omega arith) side l m;
      }
