-- Planning step after step: the steps that are done and that fit, until all are done or one does not fit.
use mathlib.Core.List.{List}
use mathlib.Core.Path.{◌≡◌, refl, ◌∙◌}
use Prim.Native.Nat.{ℕ, ◌+◌, ◌-◌, ◌≤◌, ◌<◌}
use native.Mathlib.Omega.{arith}
use lib.ListN.{length}
use Rattle.foundation.specs.Pattern.{Lent}
use Rattle.foundation.specs.Plan.{lower, upper}
use Rattle.foundation.specs.PlanCall.{PlanStores}
use Rattle.foundation.proofs.Opening.{length_grows}
use Rattle.plan_gather.specs.Ready.{Ready, plan_of}
use Rattle.plan_gather.specs.Contains.{used}
use Rattle.plan_gather.specs.Steps.{StepOf, ChainsAt, EndsAre, ChainStores}
use Rattle.plan_gather.proofs.Progress.{ends_none}
use Rattle.plan_lay.specs.Filled.{BothFilled}
use Rattle.plan_lay.proofs.Filled.{filled-room}
use Rattle.plan_loop.specs.Progress.{FitTo}

module _ (p : Lent) (n k room_l room_u : ℕ) (stores : PlanStores) (high : k ≤ n)
    (both : BothFilled p n k room_l room_u stores) where
  -- so far both sides fit
  fit_before : (t : ℕ) → t ≤ k → FitTo p t room_l room_u
  unfolding used
  fit_before t h = record {
    lower_fits = omega (arith, length_grows (plan_of p) lower t k h, both.lowers.fits);
    upper_fits = omega (arith, length_grows (plan_of p) upper t k h, both.uppers.fits);
  }

-- ---- the steps one after the other

-- lists that have the sizes of others
pub record SameSizes (a₀ a b₀ b c₀ c d₀ d e₀ e : List ℕ) : Type 0 where
  pub first : length a ≡ length a₀
  pub second : length b ≡ length b₀
  pub third : length c ≡ length c₀
  pub fourth : length d ≡ length d₀
  pub fifth : length e ≡ length e₀

-- and so have lists that have the sizes of those
pub sizes_on :
    {a₀ a a' b₀ b b' c₀ c c' d₀ d d' e₀ e e' : List ℕ} → SameSizes a₀ a b₀ b c₀ c d₀ d e₀ e → length a' ≡ length a → length b' ≡ length b → length c' ≡ length c
    → length d' ≡ length d → length e' ≡ length e → SameSizes a₀ a' b₀ b' c₀ c' d₀ d' e₀ e'
sizes_on same a b c d e = record {
  first = a ∙ same.first;
  second = b ∙ same.second;
  third = c ∙ same.third;
  fourth = d ∙ same.fourth;
  fifth = e ∙ same.fifth;
}

-- The steps before k are done, in stores with room for so many subscripts.
pub record Underway (p : Lent) (n k room_l room_u : ℕ) (chained : ChainStores) (stores : PlanStores) (list spare : List ℕ)
    (l u reads : ℕ) : Type 0 where
  pub ready : Ready p
  pub same_n : p.n ≡ n
  pub low : 1 ≤ k
  pub high : k ≤ n + 1
  pub chains : ChainsAt p n (k - 1) chained
  pub both : BothFilled p n (k - 1) room_l room_u stores
  pub ends : EndsAre p (k - 1) l u reads
  pub list_size_lem : length list ≡ p.height
  pub spare_size_lem : length spare ≡ p.height

-- no step is done
pub steps_start :
    {p : Lent} {n room_l room_u reads : ℕ} {chained : ChainStores} {stores : PlanStores} {list spare : List ℕ} → p.n ≡ n
    → reads ≡ length p.columns → Ready p × ChainsAt p n 0 chained
    → BothFilled p n 0 room_l room_u stores → (length list ≡ p.height) × (length spare ≡ p.height)
    → Underway p n 1 room_l room_u chained stores list spare 0 0 reads
steps_start same read (ready, chains) both sizes = record {
  ready = ready;
  same_n = same;
  low = omega arith;
  high = omega arith;
  chains = chains;
  both = both;
  ends = ends_none _ ready 0 0 _ refl refl read;
  list_size_lem = sizes.0;
  spare_size_lem = sizes.1;
}

module _ {p : Lent} {n k room_l room_u : ℕ} {chained : ChainStores} {stores : PlanStores} {list spare : List ℕ} {l u reads : ℕ}
    (under : Underway p n k room_l room_u chained stores list spare l u reads) where
  -- the stores have the room that is said
  room_lower : length stores.lower_side.subs ≡ room_l
  room_lower = filled-room (plan_of p) lower under.both.lowers

  room_upper : length stores.upper_side.subs ≡ room_u
  room_upper = filled-room (plan_of p) upper under.both.uppers

  -- the next step may be taken
  pub step_asks :
      k ≤ n
      → (StepOf p n k × ChainsAt p n (k - 1) chained)
      × (BothFilled p n (k - 1) (length stores.lower_side.subs) (length stores.upper_side.subs) stores
      × (EndsAre p (k - 1) l u reads × ((length list ≡ p.height) × (length spare ≡ p.height))))
  step_asks high = (
    (record { ready = under.ready; same_n = under.same_n; low = under.low; high = high }, under.chains),
    (rw (room_lower, room_upper) under.both, (under.ends, (under.list_size_lem, under.spare_size_lem))),
  )

  -- the earlier steps fit
  fit_until : (t : ℕ) → t < k → FitTo p t room_l room_u
  fit_until t h = fit_before p n (k - 1) room_l room_u stores (omega (arith, under.high)) under.both t (omega arith)

  -- L's subscripts of step k do not fit
  pub full_lower :
      k ≤ n → length stores.lower_side.subs < used (plan_of p) lower k
      → (1 ≤ k) × (k ≤ n) × ((t : ℕ) → t < k → FitTo p t room_l room_u) × (room_l < used (plan_of p) lower k)
  full_lower high over = (under.low, high, fit_until, omega (arith, room_lower))

  -- those of U do not
  pub full_upper :
      k ≤ n → (used (plan_of p) lower k ≤ length stores.lower_side.subs) × (length stores.upper_side.subs < used (plan_of p) upper k)
      → (1 ≤ k) × (k ≤ n) × ((t : ℕ) → t < k → FitTo p t room_l room_u) × (used (plan_of p) lower k ≤ room_l) × (room_u < used (plan_of p) upper k)
  full_upper high (fits, over) = (under.low, high, fit_until, omega (arith, room_lower), omega (arith, room_upper))

  -- one step more is done
  pub steps-turn :
      {l' u' reads' : ℕ} {chained' : ChainStores} {stores' : PlanStores} {list' spare' : List ℕ} → k ≤ n
      → EndsAre p k l' u' reads' × ChainsAt p n k chained'
      × BothFilled p n k (length stores.lower_side.subs) (length stores.upper_side.subs) stores'
      → length list' ≡ length list → length spare' ≡ length spare
      → Underway p n (k + 1) room_l room_u chained' stores' list' spare' l' u' reads'
  steps-turn high (ends, chains, both) c d =
      let back : k + 1 - 1 ≡ k = omega arith in
      record {
        ready = under.ready;
        same_n = under.same_n;
        low = omega arith;
        high = omega arith;
        chains = rw back chains;
        both = rw (back, ← room_lower, ← room_upper) both;
        ends = rw back ends;
        list_size_lem = c ∙ under.list_size_lem;
        spare_size_lem = d ∙ under.spare_size_lem;
      }

  -- all steps are done
  pub steps_end : (n < k) → EndsAre p n l u reads × BothFilled p n n room_l room_u stores
  steps_end over =
      let back : k - 1 ≡ n = omega (arith, under.high) in
      (rw back at under.ends, rw back at under.both)
