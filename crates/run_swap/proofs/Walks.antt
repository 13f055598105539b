-- Laws of the two walks along U_k: before row p's diagonal and beyond it.
use mathlib.Core.List.{List}
use mathlib.Core.Path.{◌≡◌, refl, ap}
use Prim.Native.Nat.{ℕ, suc, ◌+◌, ◌-◌, ◌≤◌, ◌<◌}
use native.Mathlib.Decide.{dec_lt}
use native.Mathlib.Nat.{le_refl}
use native.Mathlib.Omega.{arith}
use lib.Ieee.{Float, nan}
use lib.ListN.{length, get_or, set}
use Rattle.lists.specs.Sets.{Ascending}
use Rattle.lists.proofs.Order.{ascending_weaken}
use Rattle.lists.proofs.Places.{ascending_below}
use Rattle.foundation.specs.Plan.{Planning, Side, lower, upper}
use Rattle.foundation.specs.PlanCall.{SideStores}
use Rattle.foundation.specs.Subscripts.{kept}
use Rattle.run_slots.specs.Index.{Grid}
use Rattle.run_slots.specs.Lists.{SlotAsks, SlotOf, SlotLeaves}
use Rattle.store_search.specs.Places.{FirstFrom}
use Rattle.run_slots.specs.Shows.{square_stores}
use Rattle.run_slots.proofs.Grid.{above}
use Rattle.store_search.proofs.Places.{found-member, Halving, halving_up, halving_down, halving_end}
use Rattle.run_swap.specs.Swapping.{Swapped, BeforeAsks, BeforeLeaves, BeyondAsks}
use Rattle.run_swap.proofs.Columns.{column_low, column_high, lower_slot, upper_slot, before_column, beyond_column}
use Rattle.run_swap.proofs.Puts.{lower_inside, upper_inside}

-- a kept list ascends from anywhere
pub ascends-from : (s : Planning) (n height : ℕ) → Grid s n height → (side : Side) (k : ℕ) → Ascending 0 (kept s side k)
ascends-from s n height grid side k = ascending_weaken 0 (suc k) (kept s side k) (omega arith) (grid.ascends side k)

-- ---- before p

module _ (us : List ℕ) (first p : ℕ) (i : SideStores) (l₀ u₀ : List Float) (w : BeforeAsks us first p i l₀ u₀) where
  us_ascend : Ascending 0 us
  us_ascend = rw w.us_are (ascends-from w.s w.n w.height w.grid upper w.k)

  -- one column of U_k more lies before p
  pub passed_more : (t : ℕ) → Halving us p t (length us) → t < length us → get_or us t 0 < p → Halving us p (t + 1) (length us)
  passed_more t h inside under = halving_up us p t (length us) t us_ascend h inside under

  -- Where the walk ends: before a column that is not before p, or behind all.
  module _ (t : ℕ) (h : Halving us p t (length us)) where
    pub found_there : t < length us → p ≤ get_or us t 0 → FirstFrom us p t
    found_there inside over = halving_end us p t t (omega arith) (le_refl t) (halving_down us p t (length us) t us_ascend h inside over)

    pub found-behind : t ≤ length us → length us ≤ t → FirstFrom us p t
    found-behind within past = halving_end us p t (length us) within past h

  -- a row up to n is a column of U_k
  standing : (t : ℕ) → FirstFrom us p t → p ≤ w.n → (t < length us) × (get_or us t 0 ≡ p)
  standing t f high = found-member 0 us p t us_ascend f (rw w.us_are (w.grid.lower_in_upper w.k p w.row high))

  module _ (t : ℕ) (l u : List Float) (h : Swapped w.s w.n w.height w.k p t w.square w.right (square_stores l u w.d w.x)) where
    pub before-done : FirstFrom us p t → BeforeLeaves t us first p i l₀ u₀ l u w
    before-done f = record { inside = f.within; at = at_p; above = none; swapped = h }
      where
        at_p : t < length us → get_or us t 0 ≡ p
        at_p inside =
            let last : get_or us t 0 ≤ w.n = rw w.us_are (column_high w.s w.n w.height w.grid w.k t (rw (← w.us_are) inside)) in
            (standing t f (omega (arith, f.behind t (le_refl t) inside))).1

        none : t ≡ length us → w.n < p
        none past = elim (dec_lt w.n p) [
          | yes r ↦ r
          | no r ↦ absurd (omega (arith, (standing t f (omega arith)).0))
        ]

    module _ (in_us : t < length us) (before : get_or us t 0 < p) where
      pub inside : t < length (kept w.s upper w.k)
      inside = rw (← w.us_are) in_us

      pub same_column : get_or us t 0 ≡ get_or (kept w.s upper w.k) t 0
      same_column = ap (λ (zs : List ℕ). get_or zs t 0) w.us_are

      pub under : get_or (kept w.s upper w.k) t 0 < p
      under = rw same_column at before

      behind_k : w.k < get_or (kept w.s upper w.k) t 0
      behind_k = column_low w.s w.n w.height w.grid w.k p w.square w.right w.low w.row t inside (square_stores l u w.d w.x) h

      pub low : 1 ≤ get_or (kept w.s upper w.k) t 0
      low = omega (arith, behind_k)

      pub high : get_or (kept w.s upper w.k) t 0 ≤ w.n
      high = column_high w.s w.n w.height w.grid w.k t inside

      abbrev pub before-asks : SlotAsks i (get_or us t 0) p
      before-asks =
          record {
            s = w.s;
            side = lower;
            n = w.n;
            index = w.index;
            low = rw same_column low;
            high = rw same_column high;
            has = rw same_column (lower_slot w.s w.n w.height w.grid w.k p w.square w.right w.low w.row t inside (square_stores l u w.d w.x) h under);
          }

      own : SlotOf w.s upper w.k (get_or (kept w.s upper w.k) t 0) (first + t)
      own = record { at = t; inside = inside; member_is = refl; is = rw w.first_is }

      pub before-own : first + t < length u
      before-own =
          upper_inside w.s w.n w.height _ w.right (square_stores l u w.d w.x) h.shows w.k _ (first + t) w.low (omega (arith, behind_k, high)) own

      module _ (q : ℕ) (found : (a : SlotAsks i (get_or us t 0) p) → SlotLeaves q i (get_or us t 0) p a) where
        slot : SlotOf w.s lower (get_or (kept w.s upper w.k) t 0) p q
        slot = rw same_column at (found before-asks)

        pub before_other : q < length l
        before_other = lower_inside w.s w.n w.height _ w.right (square_stores l u w.d w.x) h.shows p _ q low high slot

        pub before-turn : Swapped w.s w.n w.height w.k p (t + 1) w.square w.right
            (square_stores (set l q (get_or u (first + t) nan)) (set u (first + t) (get_or l q nan)) w.d w.x)
        before-turn =
            before_column w.s w.n w.height w.grid w.k p w.square w.right w.low w.row t inside (square_stores l u w.d w.x) h (first + t) own under q slot

-- ---- beyond p

module _ (us : List ℕ) (first from : ℕ) (own : List ℕ) (second : ℕ) (u₀ : List Float) (w : BeyondAsks us first from own second u₀) where
  p_low : w.k < w.p
  p_low = above w.s w.n w.height w.grid lower w.k w.p w.row

  p_high : w.p ≤ w.n
  p_high =
      let some = w.some in
      let there : from - 1 < length us = omega (arith, w.within) in
      rw (← w.last, w.us_are) (column_high w.s w.n w.height w.grid w.k (from - 1) (rw (← w.us_are) there))

  pub own-ascends : Ascending 0 own
  own-ascends = rw w.own_are (ascends-from w.s w.n w.height w.grid upper w.p)

  module _ (t : ℕ) (u : List Float) (h : Swapped w.s w.n w.height w.k w.p t w.square w.right (square_stores w.l u w.d w.x)) (far : from ≤ t) (in_us : t < length us) where
    within : t < length (kept w.s upper w.k)
    within = rw (← w.us_are) in_us

    column_is : get_or us t 0 ≡ get_or (kept w.s upper w.k) t 0
    column_is = ap (λ (zs : List ℕ). get_or zs t 0) w.us_are

    over : w.p < get_or (kept w.s upper w.k) t 0
    over =
        let asc : Ascending 0 us = rw w.us_are (ascends-from w.s w.n w.height w.grid upper w.k) in
        let some = w.some in
        omega (arith, column_is, w.last, ascending_below 0 (from - 1) t us asc (omega arith) in_us)

    mine : SlotOf w.s upper w.k (get_or (kept w.s upper w.k) t 0) (first + t)
    mine = record { at = t; inside = within; member_is = refl; is = rw w.first_is }

    pub beyond-own : first + t < length u
    beyond-own =
        upper_inside w.s w.n w.height _ w.right (square_stores w.l u w.d w.x) h.shows w.k _ (first + t) w.low (omega (arith, p_low, p_high)) mine

    module _ (q : ℕ) (found : FirstFrom own (get_or us t 0) q) where
      there : (q < length (kept w.s upper w.p)) × (get_or (kept w.s upper w.p) q 0 ≡ get_or (kept w.s upper w.k) t 0)
      there =
          found-member 0 (kept w.s upper w.p) (get_or (kept w.s upper w.k) t 0) q (ascends-from w.s w.n w.height w.grid upper w.p)
          (rw (column_is, w.own_are) at found)
          (upper_slot w.s w.n w.height w.grid w.k w.p w.square w.right w.low w.row t within (square_stores w.l u w.d w.x) h over)

      theirs : SlotOf w.s upper w.p (get_or (kept w.s upper w.k) t 0) (second + q)
      theirs = record { at = q; inside = there.0; member_is = there.1; is = rw w.second_is }

      pub beyond_other : second + q < length u
      beyond_other =
          upper_inside w.s w.n w.height _ w.right (square_stores w.l u w.d w.x) h.shows w.p _ (second + q) (omega (arith, p_low)) p_high theirs

      pub beyond-turn : Swapped w.s w.n w.height w.k w.p (t + 1) w.square w.right
          (square_stores w.l (set (set u (first + t) (get_or u (second + q) nan)) (second + q) (get_or u (first + t) nan)) w.d w.x)
      beyond-turn =
          beyond_column w.s w.n w.height w.grid w.k w.p w.square w.right w.low w.row t within (square_stores w.l u w.d w.x) h (first + t) mine over (second + q) theirs

  pub beyond_end : (t : ℕ) (u : List Float) → t ≤ length us → length us ≤ t → Swapped w.s w.n w.height w.k w.p t w.square w.right (square_stores w.l u w.d w.x)
      → Swapped w.s w.n w.height w.k w.p (length us) w.square w.right (square_stores w.l u w.d w.x)
  beyond_end t u most least h = let e : t ≡ length us = omega arith in rw e at h
