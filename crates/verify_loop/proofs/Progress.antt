-- What a step of verifying hands to the functions that it calls and what it leaves, and the steps one after the other.
use mathlib.Core.Bool.{true}
use mathlib.Core.List.{List}
use mathlib.Core.Path.{◌≡◌, refl, sym, ap, ◌∙◌}
use Prim.Native.Nat.{ℕ, suc, ◌+◌, ◌-◌, ◌≤◌, ◌<◌}
use native.Mathlib.Omega.{arith}
use lib.ListN.{length, take, get_or, length-take}
use lib.Seq.{take-take, ext_get_or}
use Rattle.lists.specs.Functions.{same}
use Rattle.lists.proofs.Members.{and_left, and_right, and_both, same_equal, equal_same}
use Rattle.foundation.specs.Pattern.{Lent}
use Rattle.foundation.specs.Plan.{Planning, Side, lower, upper}
use Rattle.foundation.specs.Subscripts.{shared, starts_store}
use Rattle.foundation.specs.Slots.{slot_starts}
use Rattle.foundation.specs.PlanCall.{SideStores, PlanStores, subscripts, same_side}
use Rattle.foundation.proofs.Opening.{store-begins, length_grows, starts_stay}
use Rattle.foundation.proofs.Starts.{length-slot-starts, slot_start_at, slots_none, length-starts, start_at_lem}
use Rattle.plan_gather.specs.Ready.{Ready, plan_of}
use Rattle.plan_gather.specs.Contains.{used, Contains}
use Rattle.plan_gather.specs.Steps.{StepOf, ChainsAt, EndsAre, ChainStores, chain_stores, SideAt}
use Rattle.plan_gather.proofs.Contains.{used_none}
use Rattle.plan_gather.proofs.Progress.{sets-counted, ends_none}
use Rattle.plan_lists.specs.declared.lying.Lists.{Lists}
use Rattle.plan_lists.specs.Lying.{ListsWhole}
use Rattle.verify_loop.specs.Progress.{BothContain}

-- ---- what a step hands to the functions that it calls, and what it leaves

module _ {p : Lent} {n k l u reads : ℕ} {stores : PlanStores} (step : StepOf p n k) (both : BothContain p n (k - 1) stores) (ends : EndsAre p (k - 1) l u reads) where
  -- each side's stores contain the steps before k
  pub lower_at : SideAt p lower n k stores.lower_side l
  lower_at = record { step = step; contained = both.lowers; end_is = ends.lower_end }

  pub upper_at : SideAt p upper n k stores.upper_side u
  upper_at = record { step = step; contained = both.uppers; end_is = ends.upper_end }

  -- its lists are made
  pub verify_lists_ask :
      {row_heads row_links set_heads set_links : List ℕ} {list_size spare_size : ℕ} → ChainsAt p n (k - 1) (chain_stores row_heads row_links set_heads set_links)
      → (list_size ≡ p.height) × (spare_size ≡ p.height)
      → (SideAt p lower n k stores.lower_side l × SideAt p upper n k stores.upper_side u)
      × ((ChainsAt p n (k - 1) (chain_stores row_heads row_links set_heads set_links) × (get_or row_heads k 0 ≡ get_or row_heads k 0))
      × (EndsAre p (k - 1) l u reads × ((list_size ≡ p.height) × (spare_size ≡ p.height))))
  verify_lists_ask chains sizes = ((lower_at, upper_at), ((chains, refl), (ends, sizes)))

-- the lent stores contain it
pub verify_on :
    {lists : Lists} {p : Lent} {n k row l u : ℕ} {lowers uppers : List ℕ} {chained : ChainStores} {stores : PlanStores} → StepOf p n k
    → ListsWhole lists p k row lowers uppers → ChainsAt p n k chained → (l ≡ used (plan_of p) lower k) × Contains (plan_of p) lower n k stores.lower_side
    → (u ≡ used (plan_of p) upper k) × Contains (plan_of p) upper n k stores.upper_side
    → EndsAre p k l u lists.reads × ChainsAt p n k chained × BothContain p n k stores
verify_on step whole chains (lower_end, lowers) (upper_end, uppers) = (
  record { lower_end = lower_end; upper_end = upper_end; read = whole.at.counted ∙ sets-counted step },
  chains,
  record { lowers = lowers; uppers = uppers },
)

-- ---- stores that contain steps

module _ (s : Planning) (side : Side) (n : ℕ) (i : SideStores) where
  -- stores that contain some steps contain each of them
  pub contains_earlier : (k m : ℕ) → k ≤ m → Contains s side n m i → Contains s side n k i
  unfolding used
  contains_earlier k m h contained =
      let less : used s side k ≤ used s side m = length_grows s side k m h in
      record {
        subs-begin =
            sym (take-take (used s side k) (used s side m) i.subs less) ∙ ap (take (used s side k)) contained.subs-begin ∙ store-begins s side k m h;
        subs-room = omega (arith, contained.subs-room);
        starts_size = contained.starts_size;
        slots_size = contained.slots_size;
        starts_at = λ l low high. contained.starts_at l low (omega arith) ∙ starts_stay s side l k m high h;
        slots_at = λ l high. contained.slots_at l (omega arith);
      }

  -- before the first step only the start of the first slots counts
  pub contains_none : length i.starts ≡ n → length i.slot_starts ≡ suc n → get_or i.slot_starts 0 0 ≡ 0 → Contains s side n 0 i
  unfolding shared
  contains_none a b c =
      let none : used s side 0 ≡ 0 = used_none s side in
      record {
        subs-begin = rw none;
        subs-room = rw none (omega arith);
        starts_size = a;
        slots_size = b;
        starts_at = λ l low high. absurd (omega arith);
        slots_at = λ l high.
            let first : l ≡ 0 = omega arith in
            rw (first, slots_none s side) c;
      }

  -- which is 0
  pub contains_first : (k : ℕ) → Contains s side n k i → get_or i.slot_starts 0 0 ≡ 0
  contains_first k contained = contained.slots_at 0 (omega arith) ∙ slots_none s side

  -- ---- stores that contain a plan are the plan's, and the other way round

  pub contains_same : Contains s side n n i → same_side s side n i ≡ true
  unfolding same_side subscripts used
  contains_same contained =
      let a : i.starts ≡ starts_store s side n =
      ext_get_or 0 i.starts (starts_store s side n) (contained.starts_size ∙ sym (length-starts s side n)) λ j below.
      let size = contained.starts_size in
      let back : suc j - 1 ≡ j = omega arith in
      (rw back at (contained.starts_at (suc j) (omega arith) (omega arith))) ∙ sym (start_at_lem s side n j (omega arith)) in
      let b : i.slot_starts ≡ slot_starts s side n =
      ext_get_or 0 i.slot_starts (slot_starts s side n) (contained.slots_size ∙ sym (length-slot-starts s side n)) λ j below.
      let size = contained.slots_size in
      contained.slots_at j (omega arith) ∙ sym (slot_start_at s side n j (omega arith)) in
      and_both _ _ (equal_same _ _ a) (and_both _ _ (equal_same _ _ b) (equal_same _ _ contained.subs-begin))

  pub same_contains : length i.starts ≡ n → length i.slot_starts ≡ suc n → same_side s side n i ≡ true → Contains s side n n i
  unfolding same_side subscripts used
  same_contains x y e =
      let rest = and_right (same i.starts (starts_store s side n)) _ e in
      let a : i.starts ≡ starts_store s side n = same_equal _ _ (and_left (same i.starts (starts_store s side n)) _ e) in
      let b : i.slot_starts ≡ slot_starts s side n = same_equal _ _ (and_left (same i.slot_starts (slot_starts s side n)) _ rest) in
      let c : take (used s side n) i.subs ≡ (shared s side n).store = same_equal _ _ (and_right (same i.slot_starts (slot_starts s side n)) _ rest) in
      let size : length (take (used s side n) i.subs) ≡ used s side n = ap length c in
      record {
        subs-begin = c;
        subs-room = omega (arith, simp length-take at size);
        starts_size = x;
        slots_size = y;
        starts_at = λ l low high.
            let back : suc (l - 1) ≡ l = omega arith in
            ap (λ (xs : List ℕ). get_or xs (l - 1) 0) a ∙ start_at_lem s side n (l - 1) (omega arith) ∙ ap (shared s side n).start back;
        slots_at = λ l high. ap (λ (xs : List ℕ). get_or xs l 0) b ∙ slot_start_at s side n l high;
      }

-- ---- the steps one after the other

-- The lent stores contain the steps before k.
pub record VerifyUnderway (p : Lent) (n k : ℕ) (chained : ChainStores) (stores : PlanStores) (list spare : List ℕ)
    (l u reads : ℕ) : Type 0 where
  pub ready : Ready p
  pub same_n : p.n ≡ n
  pub low : 1 ≤ k
  pub high : k ≤ n + 1
  pub chains : ChainsAt p n (k - 1) chained
  pub both : BothContain p n (k - 1) stores
  pub ends : EndsAre p (k - 1) l u reads
  pub list_size_lem : length list ≡ p.height
  pub spare_size_lem : length spare ≡ p.height

-- the lengths of the lent starts, and of the two in which a list grows
abbrev pub LentSizes : (n height : ℕ) (l_starts l_slots u_starts u_slots list spare : List ℕ) → Type 0
LentSizes n height l_starts l_slots u_starts u_slots list spare =
    (length l_starts ≡ n) × (length l_slots ≡ suc n) × (length u_starts ≡ n) × (length u_slots ≡ suc n) × (length list ≡ height) × (length spare ≡ height)

-- no step is done
pub verify_start :
    {p : Lent} {n reads : ℕ} {chained : ChainStores} {stores : PlanStores} {list spare : List ℕ} → p.n ≡ n
    → reads ≡ length p.columns → Ready p × ChainsAt p n 0 chained
    → LentSizes n p.height stores.lower_side.starts stores.lower_side.slot_starts stores.upper_side.starts stores.upper_side.slot_starts list spare
    → get_or stores.lower_side.slot_starts 0 0 ≡ 0 → get_or stores.upper_side.slot_starts 0 0 ≡ 0
    → VerifyUnderway p n 1 chained stores list spare 0 0 reads
verify_start same read (ready, chains) (a, b, c, d, e, f) l u = record {
  ready = ready;
  same_n = same;
  low = omega arith;
  high = omega arith;
  chains = chains;
  both = record { lowers = contains_none _ lower _ _ a b l; uppers = contains_none _ upper _ _ c d u };
  ends = ends_none _ ready 0 0 _ refl refl read;
  list_size_lem = e;
  spare_size_lem = f;
}

-- slots that start elsewhere are not this plan's
pub first_lower :
    {p : Lent} {n : ℕ} {stores : PlanStores} → (get_or stores.lower_side.slot_starts 0 0 ≡ 0 → ⊥)
    → BothContain p n n stores → ⊥
first_lower h both = h (contains_first _ lower _ _ _ both.lowers)

pub first_upper :
    {p : Lent} {n : ℕ} {stores : PlanStores} → (get_or stores.upper_side.slot_starts 0 0 ≡ 0 → ⊥)
    → BothContain p n n stores → ⊥
first_upper h both = h (contains_first _ upper _ _ _ both.uppers)

-- a difference at a step is one at the end
pub verify_differs_later :
    {p : Lent} {n k : ℕ} {stores : PlanStores} → k ≤ n → (BothContain p n k stores → ⊥)
    → BothContain p n n stores → ⊥
verify_differs_later high differs both =
    differs (record { lowers = contains_earlier _ lower _ _ _ _ high both.lowers; uppers = contains_earlier _ upper _ _ _ _ high both.uppers })

module _ {p : Lent} {n k : ℕ} {chained : ChainStores} {stores : PlanStores} {list spare : List ℕ} {l u reads : ℕ}
    (under : VerifyUnderway p n k chained stores list spare l u reads) where
  -- the next step may be taken
  pub verify_step_asks :
      k ≤ n
      → (StepOf p n k × ChainsAt p n (k - 1) chained)
      × (BothContain p n (k - 1) stores × (EndsAre p (k - 1) l u reads × ((length list ≡ p.height) × (length spare ≡ p.height))))
  verify_step_asks high = (
    (record { ready = under.ready; same_n = under.same_n; low = under.low; high = high }, under.chains),
    (under.both, (under.ends, (under.list_size_lem, under.spare_size_lem))),
  )

  -- one step more is done
  pub verify_turn :
      {l' u' reads' : ℕ} {chained' : ChainStores} {list' spare' : List ℕ} → k ≤ n
      → EndsAre p k l' u' reads' × ChainsAt p n k chained' × BothContain p n k stores
      → length list' ≡ length list → length spare' ≡ length spare
      → VerifyUnderway p n (k + 1) chained' stores list' spare' l' u' reads'
  verify_turn high (ends, chains, both) c d =
      let back : k + 1 - 1 ≡ k = omega arith in
      record {
        ready = under.ready;
        same_n = under.same_n;
        low = omega arith;
        high = omega arith;
        chains = rw back chains;
        both = rw back both;
        ends = rw back ends;
        list_size_lem = c ∙ under.list_size_lem;
        spare_size_lem = d ∙ under.spare_size_lem;
      }

  -- all steps are done
  pub verify_end : (n < k) → EndsAre p n l u reads × BothContain p n n stores
  verify_end over =
      let back : k - 1 ≡ n = omega (arith, under.high) in
      (rw back at under.ends, rw back at under.both)
