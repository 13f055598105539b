-- The further members of the lists of a step, wherever these lie: whether there are any, and which is the least.
use mathlib.Core.Bool.{true, false, cond, not}
use mathlib.Core.List.{List, [], ◌∷◌}
use mathlib.Core.Path.{◌≡◌, refl, sym, ap, ◌∙◌}
use Prim.Native.Nat.{ℕ, ◌+◌, ◌-◌, ◌≤◌, ◌<◌}
use native.Mathlib.Nat.{add-zero}
use native.Mathlib.Omega.{arith}
use lib.Dec.{eqb, ltb, leb}
use lib.ListN.{length, take, drop, get_or, length-drop}
use lib.Seq.{get_or-take, get_or-drop, length-take-le}
use borrow.Author.Tests.{eq-eqb, ltb-true, ltb-false, lt-ltb, le-ltb, leb-true, leb-false}
use Rattle.lists.specs.Functions.{span}
use Rattle.lists.specs.Sets.{first, least_above}
use Rattle.lists.proofs.Members.{by_test, member_head}
use Rattle.lists.proofs.Overlap.{same_at}
use Rattle.lists.proofs.Places.{slice_part}
use Rattle.foundation.specs.Pattern.{Lent, pattern_of, row_of}
use Rattle.foundation.specs.Plan.{Side, lower, upper, brings}
use Rattle.foundation.specs.PlanCall.{SideStores}
use Rattle.foundation.specs.Subscripts.{kept, shared, shared_end}
use Rattle.foundation.proofs.Opening.{shared_end_law}
use Rattle.plan_gather.specs.Ready.{plan_of}
use Rattle.plan_gather.specs.Contains.{used}
use Rattle.plan_gather.specs.Gathering.{without, GrownIn}
use Rattle.plan_gather.specs.Steps.{SideAt, kept_steps}
use Rattle.plan_gather.proofs.Chaining.{first_in, row_rises, row_ends, row_is, row_size, row_first, row_some, starts_size}
use Rattle.plan_gather.proofs.Gathering.{steps_kept}
use Rattle.plan_gather.proofs.Turning.{step_high}
use Rattle.plan_share.proofs.Adding.{side-opens, rest-length, sole_facts, sole-span}
use Rattle.plan_lists.specs.declared.lying.Lies.{Lies}
use Rattle.plan_lists.specs.declared.lying.Lies.TheVariants.{Grown, Row, Sole, Behind}
use Rattle.plan_lists.specs.Lying.{BroughtAlone, OfSole, AddedBehind, WholeAt}
use Rattle.plan_lists.proofs.Whole.{whole-sole, whole-behind, whole_row, whole-grown, met-not-sole, sole_is, sole-some}
use Rattle.plan_sets.specs.Whole.{LowerWhole}

-- ---- a member of a part of a store

-- a store has x at a place
pub record Stands (store : List ℕ) (at x : ℕ) : Type 0 where
  pub inside : at < length store
  pub is : get_or store at 0 ≡ x

-- what stands in a part of a store stands in the store
in_part : (xs ys : List ℕ) (at count i : ℕ) → at + count ≤ length xs → take count (drop at xs) ≡ ys → i < length ys → Stands xs (at + i) (get_or ys i 0)
in_part xs ys at count i room e h =
    let size : length ys ≡ count = sym (ap length e) ∙ length-take-le count (drop at xs) (rw length-drop (omega arith)) in
    record {
      inside = omega arith;
      is = sym (get_or-drop at xs i 0) ∙ sym (get_or-take count (drop at xs) i 0 (omega arith)) ∙ rw e refl;
    }

-- the first member stands first
pub first_at : (xs : List ℕ) → get_or xs 0 0 ≡ first xs
unfolding first
first_at [] = refl
first_at (x ∷ xs) = refl

-- a list without a member has no first
pub none_first : (xs : List ℕ) → length xs ≡ 0 → 0 ≡ first xs
unfolding first
none_first [] e = refl
none_first (x ∷ xs) e = absurd (omega arith)

-- ---- the kept list of step k

module _ {p : Lent} {side : Side} {n k : ℕ} {i : SideStores} {end : ℕ} (at : SideAt p side n k i end) where
  kept_is : kept_steps p side k ≡ kept (plan_of p) side k
  kept_is = steps_kept p at.step.ready k at.step.low (step_high at.step) side

  -- grown, it has as many members as are counted
  pub grown_further : {count : ℕ} {growing : List ℕ} → GrownIn p.height count growing (kept_steps p side k) → ltb 0 count ≡ ltb 0 (length (kept (plan_of p) side k))
  grown_further g = ap (ltb 0) (g.size ∙ ap length kept_is)

  -- and begins at the front
  pub grown-least : {count : ℕ} {growing : List ℕ} → GrownIn p.height count growing (kept_steps p side k) → 0 < length (kept (plan_of p) side k)
      → Stands growing 0 (first (kept (plan_of p) side k))
  grown-least {count} {growing} g some =
      let size : count ≡ length (kept (plan_of p) side k) = g.size ∙ ap length kept_is in
      let found = in_part growing (kept (plan_of p) side k) 0 count 0 (let a = g.fits in let b = g.store_size in omega arith) (g.is ∙ kept_is) some in
      record { inside = found.inside; is = found.is ∙ first_at (kept (plan_of p) side k) }

  -- where none are counted it has none
  pub grown_none : {count : ℕ} {growing : List ℕ} → GrownIn p.height count growing (kept_steps p side k) → count ≡ 0 → 0 ≡ first (kept (plan_of p) side k)
  grown_none g none = none_first (kept (plan_of p) side k) (sym (ap length kept_is) ∙ sym g.size ∙ none)

  -- ---- of a sole step

  module _ {l : ℕ} (sole : OfSole p side k l (kept_steps p side k)) where
    pub sole-before : l < k
    sole-before = (sole_facts at (sole_is sole) (sole-some sole)).0

    -- it has one member less than the sole step's
    pub sole_count : span i.slot_starts l ≡ length (kept (plan_of p) side k) + 1
    sole_count = sole-span at (sole_is sole) (sole-some sole)

    pub sole-rises : get_or i.slot_starts (l - 1) 0 ≤ get_or i.slot_starts l 0
    sole-rises = (side-opens at l sole.some sole-before).rising

    pub sole_further : ltb 1 (span i.slot_starts l) ≡ ltb 0 (length (kept (plan_of p) side k))
    sole_further = above-one (length (kept (plan_of p) side k)) (span i.slot_starts l) sole_count
      where
        above-one : (m s : ℕ) → s ≡ m + 1 → ltb 1 s ≡ ltb 0 m
        above-one m s e =
            by_test (ltb 0 m)
            (λ t. rw t (lt-ltb 1 s (omega (arith, ltb-true 0 m t))))
            (λ t. rw t (le-ltb 1 s (omega (arith, ltb-false 0 m t))))

    -- and begins one place behind it
    pub sole-least : 0 < length (kept (plan_of p) side k) → Stands i.subs (get_or i.starts (l - 1) 0 + 1) (first (kept (plan_of p) side k))
    sole-least some =
        let o = side-opens at l sole.some sole-before in
        let whole : kept (plan_of p) side l ≡ k ∷ kept (plan_of p) side k = (sole_facts at (sole_is sole) (sole-some sole)).1 in
        let found = in_part i.subs (k ∷ kept (plan_of p) side k) (get_or i.starts (l - 1) 0) (span i.slot_starts l) 1 o.inside (o.is ∙ whole) (omega arith) in
        record { inside = found.inside; is = found.is ∙ first_at (kept (plan_of p) side k) }

  -- ---- behind the list of step k-1

  module _ {row count from : ℕ} (behind : AddedBehind p side k row count from (kept_steps p side k)) where
    -- no more members than the store has stand at its end
    pub shared-inside : count ≤ end
    unfolding shared_end used
    shared-inside =
        omega (arith, behind.rest.shares, (shared_end_law (shared (plan_of p) side (k - 1)) (kept (plan_of p) side k)).in_store, at.end_is)

    -- where there are some, the list begins with the first of them
    pub shared-least : 0 < count → Stands i.subs (end - count) (first (kept (plan_of p) side k))
    unfolding shared_end used
    shared-least some =
        let store : List ℕ = (shared (plan_of p) side (k - 1)).store in
        let new : List ℕ = kept (plan_of p) side k in
        let law = shared_end_law (shared (plan_of p) side (k - 1)) new in
        let t = behind.rest.shares in
        let begin = at.contained.subs-begin in
        let room = at.contained.subs-room in
        let e : end ≡ length store = at.end_is in
        let inside : end - count < length store = omega (arith, law.in_store) in
        record {
          inside = omega arith;
          is =
              sym (get_or-take (length store) i.subs (end - count) 0 inside)
              ∙ ap (λ (xs : List ℕ). get_or xs (end - count) 0) begin
              ∙ here store new behind.rest.shares law.same some (omega (arith, law.in_store))
              ∙ first_at new;
        }
      where
        here : (store new : List ℕ) {t : ℕ} → count ≡ t → drop (length store - t) store ≡ take t new → 0 < count → end ≡ length store → get_or store (end - count) 0 ≡ get_or new 0 0
        here store new e same some q =
            ap (λ (j : ℕ). get_or store j 0) (rw (e, q) (sym (add-zero _))) ∙ same_at store new _ 0 (omega arith) same

    -- how many members it has
    behind_count : count + (length (brings (pattern_of p) side row) - from) ≡ length (kept (plan_of p) side k)
    behind_count = simp length-drop at (rest-length at (met-not-sole p k behind.rows) behind.rest)

    -- what the row adds begins where it is said
    rest-least : count ≡ 0 → 0 < length (kept (plan_of p) side k) → (from < length (brings (pattern_of p) side row)) × (get_or (brings (pattern_of p) side row) from 0 ≡ first (kept (plan_of p) side k))
    rest-least none some =
        let whole : drop from (brings (pattern_of p) side row) ≡ kept (plan_of p) side k = behind.rest.is ∙ rw none refl in (
          omega (arith, behind_count),
          ap (λ (j : ℕ). get_or (brings (pattern_of p) side row) j 0) (sym (add-zero from)) ∙ sym (get_or-drop from (brings (pattern_of p) side row) 0 0) ∙ rw whole (first_at (kept (plan_of p) side k)),
        )

-- ---- of L

module _ {p : Lent} {n k : ℕ} {i : SideStores} {end : ℕ} (at : SideAt p lower n k i end) where
  -- what a row brings to L is itself
  pub row_further : {row : ℕ} → BroughtAlone p lower k row (kept_steps p lower k) → not (eqb row k) ≡ ltb 0 (length (kept (plan_of p) lower k))
  unfolding brings without
  row_further {row} brought =
      let is : kept (plan_of p) lower k ≡ cond (eqb row k) [] (row ∷ []) = sym (kept_is at) ∙ brought.is in
      rw is (by_test (eqb row k) (λ e. rw e refl) (λ e. rw e refl))

  -- and behind the list of step k-1 it adds itself, or nothing
  pub behind_further : {row count from : ℕ} → AddedBehind p lower k row count from (kept_steps p lower k) → leb from count ≡ ltb 0 (length (kept (plan_of p) lower k))
  unfolding brings
  behind_further {row} {count} {from} behind =
      let size = behind_count at behind in
      let few = behind.inside in
      by_test (leb from count)
      (λ e. rw e (sym (lt-ltb 0 (length (kept (plan_of p) lower k)) (omega (arith, leb-true from count e)))))
      (λ e. rw e (sym (le-ltb 0 (length (kept (plan_of p) lower k)) (omega (arith, leb-false from count e)))))

-- ---- of U

-- a list that begins with k has one member more than without it, and what is left begins behind k
behind_first : (k : ℕ) (xs : List ℕ) → 0 < length xs → get_or xs 0 0 ≡ k → (length xs ≡ length (without k xs) + 1) × (get_or xs 1 0 ≡ first (without k xs))
unfolding without
behind_first k [] some e = absurd (omega arith)
behind_first k (x ∷ xs) some e =
    let q : without k (x ∷ xs) ≡ xs = rw (eq-eqb x k e) refl in
    (omega (arith, ap length q), first_at xs ∙ ap first (sym q))

-- the place of a part of a store, or none behind its end, as the code reads it
or_none : (store : List ℕ) (at end x : ℕ) → (at < end → Stands store at x) → (end ≤ at → 0 ≡ x) → cond (ltb at end) (get_or store at 0) 0 ≡ x
or_none store at end x here none =
    by_test (ltb at end) (λ t. rw t (here (ltb-true at end t)).is) (λ t. rw t (none (ltb-false at end t)))

module _ {p : Lent} {n k : ℕ} {i : SideStores} {end : ℕ} (at : SideAt p upper n k i end) {row : ℕ} (rows : (plan_of p).first_met k ≡ row ∷ []) where
  -- the one row that is first met at k has it as its least column
  met : (1 ≤ row) × (row ≤ p.height) × (least_above 0 (row_of p row) ≡ k)
  met = first_in p at.step.ready k row at.step.low (step_high at.step) (rw rows (member_head row []))

  pub row_low : 1 ≤ row
  row_low = met.0

  pub row_starts : row < length p.starts
  row_starts = omega (arith, met.1, starts_size p at.step.ready)

  -- it has columns, inside the pattern's
  size : get_or p.starts row 0 - get_or p.starts (row - 1) 0 ≡ length (row_of p row)
  size = row_size p at.step.ready row met.0 met.1

  pub some_column : get_or p.starts (row - 1) 0 < get_or p.starts row 0
  some_column = let least : 1 ≤ least_above 0 (row_of p row) = omega (arith, met.2, at.step.low) in row_some p at.step.ready row met.0 met.1 least

  pub columns-inside : get_or p.starts row 0 ≤ length p.columns
  columns-inside = row_ends p at.step.ready row met.0 met.1

  -- its columns stand where the pattern has them
  in_row : (j : ℕ) → j < length (row_of p row) → Stands p.columns (get_or p.starts (row - 1) 0 + j) (get_or (row_of p row) j 0)
  in_row j h =
      let rises = row_rises p at.step.ready row met.0 met.1 in
      let ends = row_ends p at.step.ready row met.0 met.1 in
      in_part p.columns (row_of p row) (get_or p.starts (row - 1) 0) (get_or p.starts row 0 - get_or p.starts (row - 1) 0) j (omega arith)
      (slice_part (get_or p.starts (row - 1) 0) (get_or p.starts row 0) p.columns rises ∙ sym (row_is p at.step.ready row met.0 met.1))
      h

  -- what it brings begins behind k, if it has a further column
  pub row_least : BroughtAlone p upper k row (kept_steps p upper k)
      → cond (ltb (get_or p.starts (row - 1) 0 + 1) (get_or p.starts row 0)) (get_or p.columns (get_or p.starts (row - 1) 0 + 1) 0) 0 ≡ first (kept (plan_of p) upper k)
  unfolding brings pattern_of
  row_least brought =
      let is : kept (plan_of p) upper k ≡ without k (row_of p row) = sym (kept_is at) ∙ brought.is in
      let long = size in
      let has = some_column in
      let here = in_row 0 (omega arith) in
      let leads : get_or (row_of p row) 0 0 ≡ k =
      sym here.is ∙ ap (λ (j : ℕ). get_or p.columns j 0) (add-zero (get_or p.starts (row - 1) 0)) ∙ row_first p at.step.ready row met.0 met.1 has ∙ met.2 in
      let (one_more, next) = behind_first k (row_of p row) (omega arith) leads in
      or_none p.columns (get_or p.starts (row - 1) 0 + 1) (get_or p.starts row 0) (first (kept (plan_of p) upper k))
      (λ more. let found = in_row 1 (omega arith) in record { inside = found.inside; is = found.is ∙ next ∙ ap first (sym is) })
      (λ none. none_first (kept (plan_of p) upper k) (omega (arith, ap length is)))

  -- behind the list of step k-1, what that list shares comes first, and else what the row adds
  module _ {count from : ℕ} (behind : AddedBehind p upper k row count from (kept_steps p upper k)) where
    -- which begins inside the columns, or at their end
    pub added_inside : get_or p.starts (row - 1) 0 + from ≤ length p.columns
    unfolding brings pattern_of
    added_inside = omega (arith, behind.inside, size, some_column, columns-inside)

    pub added_least : count ≡ 0
        → cond (ltb (get_or p.starts (row - 1) 0 + from) (get_or p.starts row 0)) (get_or p.columns (get_or p.starts (row - 1) 0 + from) 0) 0 ≡ first (kept (plan_of p) upper k)
    unfolding brings pattern_of
    added_least none =
        let long = size in
        let count_is = behind_count at behind in
        or_none p.columns (get_or p.starts (row - 1) 0 + from) (get_or p.starts row 0) (first (kept (plan_of p) upper k))
        (λ more.
        let (inside, is) = rest-least at behind none (omega arith) in
        let found = in_row from inside in
        record { inside = found.inside; is = found.is ∙ is })
        (λ ended. none_first (kept (plan_of p) upper k) (omega arith))

-- ---- as the code is told where a list lies

module _ {lies : Lies} {p : Lent} {n k row : ℕ} {slots : List ℕ} (w : LowerWhole lies p n k row slots) where
  pub told_grown : {count : ℕ} → lies ≡ Grown count → ltb 0 count ≡ ltb 0 (length (kept (plan_of p) lower k))
  told_grown e = grown_further w.at (whole-grown w.whole e)

  pub told_row : lies ≡ Row → not (eqb row k) ≡ ltb 0 (length (kept (plan_of p) lower k))
  told_row e = row_further w.at (whole_row w.whole e)

  pub told-behind : {count from : ℕ} → lies ≡ Behind count from → leb from count ≡ ltb 0 (length (kept (plan_of p) lower k))
  told-behind e = behind_further w.at (whole-behind w.whole e)

  module _ {l : ℕ} (e : lies ≡ Sole l) where
    told-sole : OfSole p lower k l (kept_steps p lower k)
    told-sole = whole-sole w.whole e

    pub sole-low : 1 ≤ l
    sole-low = told-sole.some

    pub sole-inside : l < length slots
    sole-inside =
        rw (sym (ap length w.slots_are))
        (let b = sole-before w.at told-sole in let h = w.at.step.high in let s = w.at.contained.slots_size in omega arith)

    pub sole-slots_rise : get_or slots (l - 1) 0 ≤ get_or slots l 0
    sole-slots_rise = rw (← w.slots_are) (sole-rises w.at told-sole)

    pub sole-slots_further : ltb 1 (span slots l) ≡ ltb 0 (length (kept (plan_of p) lower k))
    sole-slots_further = rw (← w.slots_are) (sole_further w.at told-sole)

module _ {lies : Lies} {p : Lent} {n k row : ℕ} {growing : List ℕ} {i : SideStores} {end : ℕ} (at : SideAt p upper n k i end) (w : WholeAt lies p upper k row growing) where
  module _ {count : ℕ} (e : lies ≡ Grown count) where
    pub least-grown : (count ≡ 0 → ⊥) → Stands growing 0 (first (kept (plan_of p) upper k))
    least-grown some = let g = whole-grown w e in grown-least at g (let long = g.size ∙ ap length (kept_is at) in omega (arith, some))

    pub least_none : count ≡ 0 → 0 ≡ first (kept (plan_of p) upper k)
    least_none none = grown_none at (whole-grown w e) none

  module _ (e : lies ≡ Row) where
    alone : BroughtAlone p upper k row (kept_steps p upper k)
    alone = whole_row w e

    pub alone-low : 1 ≤ row
    alone-low = row_low at alone.rows

    pub alone-starts : row < length p.starts
    alone-starts = row_starts at alone.rows

    pub alone-inside : (get_or p.starts (row - 1) 0 < get_or p.starts row 0) × (get_or p.starts row 0 ≤ length p.columns)
    alone-inside = (some_column at alone.rows, columns-inside at alone.rows)

    pub least-alone : cond (ltb (get_or p.starts (row - 1) 0 + 1) (get_or p.starts row 0)) (get_or p.columns (get_or p.starts (row - 1) 0 + 1) 0) 0 ≡ first (kept (plan_of p) upper k)
    least-alone = row_least at alone.rows alone

  module _ {l : ℕ} (e : lies ≡ Sole l) where
    of_sole : OfSole p upper k l (kept_steps p upper k)
    of_sole = whole-sole w e

    pub upper_sole-low : 1 ≤ l
    upper_sole-low = of_sole.some

    pub upper_sole-slots : (1 ≤ l) × (l < length i.slot_starts) × (get_or i.slot_starts (l - 1) 0 ≤ get_or i.slot_starts l 0)
    upper_sole-slots =
        let b = sole-before at of_sole in
        let h = at.step.high in
        let s = at.contained.slots_size in
        (of_sole.some, omega arith, sole-rises at of_sole)

    pub upper_sole-starts : l - 1 < length i.starts
    upper_sole-starts = let b = sole-before at of_sole in let h = at.step.high in let s = at.contained.starts_size in omega arith

    pub least-sole : ltb 1 (span i.slot_starts l) ≡ true → Stands i.subs (get_or i.starts (l - 1) 0 + 1) (first (kept (plan_of p) upper k))
    least-sole some = sole-least at of_sole (ltb-true 0 (length (kept (plan_of p) upper k)) (sym (sole_further at of_sole) ∙ some))

    pub sole_none : ltb 1 (span i.slot_starts l) ≡ false → 0 ≡ first (kept (plan_of p) upper k)
    sole_none none = none_first (kept (plan_of p) upper k) (omega (arith, sole_count at of_sole, ltb-false 1 (span i.slot_starts l) none))

  module _ {count from : ℕ} (e : lies ≡ Behind count from) where
    behind : AddedBehind p upper k row count from (kept_steps p upper k)
    behind = whole-behind w e

    pub behind-low : 1 ≤ row
    behind-low = row_low at behind.rows

    pub behind-starts : row < length p.starts
    behind-starts = row_starts at behind.rows

    pub behind-inside : (get_or p.starts (row - 1) 0 + from ≤ length p.columns) × (get_or p.starts row 0 ≤ length p.columns)
    behind-inside = (added_inside at behind.rows behind, columns-inside at behind.rows)

    pub behind_end : count ≤ end
    behind_end = shared-inside at behind

    pub least-shared : 0 < count → Stands i.subs (end - count) (first (kept (plan_of p) upper k))
    least-shared = shared-least at behind

    pub least_added : count ≤ 0
        → cond (ltb (get_or p.starts (row - 1) 0 + from) (get_or p.starts row 0)) (get_or p.columns (get_or p.starts (row - 1) 0 + from) 0) 0 ≡ first (kept (plan_of p) upper k)
    least_added none = added_least at behind.rows behind (omega arith)
