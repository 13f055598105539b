-- One row joins the list of the step before: what the list of the step then is, and how much of it the store has already.
use mathlib.Core.Bool.{true, not, or_comm}
use mathlib.Core.List.{List, [], ◌∷◌, ◌++◌, append-nil}
use mathlib.Core.Path.{◌≡◌, refl, sym, ap, ◌∙◌}
use Prim.Native.Nat.{ℕ, zero, suc, ◌+◌, ◌-◌, ◌*◌, ◌^◌, ◌≤◌, ◌<◌}
use native.Mathlib.Nat.{sub-zero}
use native.Mathlib.Omega.{arith}
use mir.Syntax.{w64}
use mir.Val.{Fits}
use lib.Dec.{eqb}
use lib.ListN.{length, take, drop, get_or, length-append, length-drop, get_or-append}
use lib.Seq.{drop-drop, drop_at, get_or-drop, take-append_seam, length-take-le}
use borrow.Author.Tests.{eqb-true, eq-eqb, ne_eqb}
use Rattle.lists.specs.Sets.{member, least_above, Ascending, union, join_all, overlap}
use Rattle.lists.proofs.Members.{by_test, in_keep, member_head, member_union, not-member-nil, union-nil_right}
use Rattle.lists.proofs.Order.{ascending-union, member_first, same_members}
use Rattle.lists.proofs.Least.{least_nonzero_member}
use Rattle.lists.proofs.Overlap.{last_same, overlap_is}
use Rattle.lists.proofs.Places.{ascending_below, slice_part}
use Rattle.foundation.specs.Pattern.{Lent, lent, pattern_of, row_of}
use Rattle.foundation.specs.Plan.{Side, lower, upper, list, brings, plan}
use Rattle.foundation.specs.PlanCall.{SideStores}
use Rattle.foundation.specs.Subscripts.{kept, shared, shared_end}
use Rattle.foundation.proofs.Steps.{joined}
use Rattle.store_place.specs.Places.{ListAsks, ListAt}
use Rattle.store_lists.proofs.Chaining.{linked_end, linked_next}
use Rattle.store_search.specs.Behind.{BehindAs}
use Rattle.std.specs.Prelude.{Some}
use Rattle.store_search.proofs.Passing.{behind-nothing, passed_none, passed_behind}
use Rattle.plan_gather.specs.Ready.{lent_by, plan_of}
use Rattle.plan_gather.specs.Gathering.{without, Within}
use Rattle.plan_gather.specs.Steps.{StepOf, ChainsOf, SideAt}
use Rattle.plan_gather.proofs.Chaining.{first_in, handed_some, row_ends, row_is, row_rises, row_some, starts_size}
use Rattle.plan_gather.proofs.Contains.{Opened, opened-asks, opened_inside, opened_list, kept_within}
use Rattle.plan_gather.proofs.Joining.{without-within}
use Rattle.plan_gather.proofs.Gathering.{brings-within, from-rows_is, from-steps_is, steps_kept, handed_within, RowRead}
use Rattle.plan_share.specs.Adding.{RestOf}
use Rattle.plan_share.proofs.Adding.{side-opens}
use Rattle.plan_append.specs.Joining.{ChainsJoin, JoinsLast, AddedAs}
use Rattle.plan_append.specs.declared.appended.Added.{Added}
use Rattle.plan_append.specs.declared.appended.Added.TheVariants.{Behind, Elsewhere}

-- ---- lists

-- the order of a union does not count
union_turned : (low : ℕ) (xs ys : List ℕ) → Ascending low xs → Ascending low ys → union xs ys ≡ union ys xs
union_turned low xs ys a b =
    same_members low low (union xs ys) (union ys xs) (ascending-union low xs ys a b) (ascending-union low ys xs b a)
    (λ x. member_union x xs ys ∙ or_comm (member x xs) (member x ys) ∙ sym (member_union x ys xs))

-- a list without its own step is a part of it
without-drop : (k : ℕ) (xs : List ℕ) → without k xs ≡ drop (length xs - length (without k xs)) xs
unfolding without
without-drop k [] = refl
without-drop k (x ∷ xs) =
    by_test (eqb x k)
    (λ e. let one : suc (length xs) - length xs ≡ 1 = omega arith in rw (e, one))
    (λ e. let none : suc (length xs) - suc (length xs) ≡ 0 = omega arith in rw (e, none))

without-length : (k : ℕ) (xs : List ℕ) → length (without k xs) ≤ length xs
unfolding without
without-length k [] = omega arith
without-length k (x ∷ xs) = by_test (eqb x k) (λ e. rw e (omega arith)) (λ e. rw e (omega arith))

-- a list ends in the last of what is left of it without k, or, where nothing is left, in k itself
ends_alike : (k : ℕ) (last rest : List ℕ) → 0 < length last
    → get_or last (length last - 1) 0 ≡ get_or (k ∷ without k last ++ rest) (length (without k last)) 0
unfolding without
ends_alike k [] rest some = absurd (omega arith)
ends_alike k (x ∷ xs) rest some =
    let end : suc (length xs) - 1 ≡ length xs = omega arith in
    let found = sym (get_or-append (x ∷ xs) rest 0 (length xs) (omega arith)) in
    by_test (eqb x k) (λ e. rw (e, end, ← eqb-true x k e) found) (λ e. rw (e, end) found)

-- a place behind the first
behind_first : (x : ℕ) (xs : List ℕ) (u : ℕ) → 0 < u → get_or (x ∷ xs) u 0 ≡ get_or xs (u - 1) 0
behind_first x xs zero some = absurd (omega arith)
behind_first x xs (suc u) some = let e : suc u - 1 ≡ u = omega arith in rw e

-- Where a store ends in a list that is not empty, a list that goes on from it, without k, shares all of that with the store, be it nothing where
-- that list is k alone: a longer beginning ends above the store's last subscript.
overlap-behind : (k from : ℕ) (store last rest : List ℕ) → drop from store ≡ last → 0 < length last → Ascending (suc k) (without k last ++ rest)
    → overlap store (without k last ++ rest) ≡ length (without k last)
unfolding Ascending
overlap-behind k from store last rest ends some up =
    let w : List ℕ = without k last in
    let new : List ℕ = w ++ rest in
    let few = without-length k last in
    let size : length last ≡ length store - from = ap length (sym ends) ∙ length-drop from store in
    let more : length new ≡ length w + length rest = length-append w rest in
    let place : length store - length w ≡ from + (length last - length w) = omega arith in
    let same : drop (length store - length w) store ≡ take (length w) new =
    rw (place, ← drop-drop (length last - length w) from store, ends, ← without-drop k last) (sym (take-append_seam w rest)) in
    let end : get_or store (length store - 1) 0 ≡ get_or (k ∷ new) (length w) 0 =
    rw (let at : length store - 1 ≡ from + (length last - 1) = omega arith in at, ← get_or-drop from store (length last - 1) 0, ends) (ends_alike k last rest some) in
    overlap_is (length w) store new (omega arith) (omega arith) same λ u h a b e.
    let rises : get_or (k ∷ new) (length w) 0 < get_or (k ∷ new) u 0 = ascending_below k (length w) u (k ∷ new) (omega arith, up) h (omega arith) in
    let at : get_or (k ∷ new) u 0 ≡ get_or new (u - 1) 0 = behind_first k new u (omega arith) in
    omega (arith, last_same store new u (omega arith) a e)

-- how a list lies to the one before it, both without k
abbrev pub JoinedAs : Added → ℕ → List ℕ → List ℕ → Type 0
JoinedAs (Behind shared from) k last more =
    (shared ≡ length (without k last))
    × (from ≤ length more)
    × ((low : ℕ) → Ascending low (without k last) → union (without k last) (without k more) ≡ without k last ++ drop from more)
JoinedAs Elsewhere k last more = Unit

-- a list begins with k
pub record Led (k : ℕ) (xs : List ℕ) : Type 0 where
  pub some : 0 < length xs
  pub rest : without k xs ≡ drop 1 xs

-- as one does that ascends from k and has it
led : (k : ℕ) (xs : List ℕ) → Ascending k xs → member k xs ≡ true → Led k xs
unfolding without Ascending
led k [] up m = absurd (not-member-nil k m)
led k (x ∷ xs) up m =
    let first = member_first k k x xs up m in
    record { some = omega arith; rest = rw (eq-eqb x k (omega (arith, up.0))) }

-- one that begins with k stands behind another that does from a place on, both without k
pub led_joined :
    (k at : ℕ) (last more have comes : List ℕ) → Led k last → Led k more → have ≡ drop 1 last → comes ≡ drop 1 more → BehindAs (Some at) have comes
    → JoinedAs (Behind (length have) (at + 1)) k last more
led_joined k at last more have comes a b h c (inside, behind) =
    let some = b.some in
    let size : length comes ≡ length more - 1 = ap length c ∙ length-drop 1 more in
    let next : 1 + at ≡ at + 1 = omega arith in
    let part : drop at comes ≡ drop (at + 1) more = ap (drop at) c ∙ drop-drop at 1 more ∙ rw next in
    let first : have ≡ without k last = h ∙ sym a.rest in
    let second : comes ≡ without k more = c ∙ sym b.rest in
    (ap length first, omega arith, λ low up. rw (← first, ← second) (behind low (rw first up) ∙ ap (λ (xs : List ℕ). have ++ xs) part))

-- one row behind another list: it is k itself, or stands behind the last member
own_alone : (k row : ℕ) → (row ≡ k → ⊥) → without k (row ∷ []) ≡ row ∷ []
unfolding without
own_alone k row other = rw (ne_eqb row k other)

module _ (k row : ℕ) (last have : List ℕ) (h : have ≡ without k last) where
  pub own_itself : row ≡ k → JoinedAs (Behind (length have) 1) k last (row ∷ [])
  unfolding without
  own_itself e = (ap length h, omega arith, λ low up. rw (eq-eqb row k e, union-nil_right, append-nil))

  module _ (other : row ≡ k → ⊥) where
    pub own_first : length have ≡ 0 → JoinedAs (Behind (length have) 0) k last (row ∷ [])
    own_first none =
        (ap length h, omega arith, λ low up. rw (own_alone k row other, ← h) (behind-nothing have (row ∷ []) none low (rw h up)))

    pub own_behind : 0 < length have → get_or have (length have - 1) 0 < row → JoinedAs (Behind (length have) 0) k last (row ∷ [])
    own_behind some above = (
      ap length h,
      omega arith,
      λ low up. rw (own_alone k row other, ← h)
          (passed_behind have (row ∷ []) have row [] some above (passed_none have (row ∷ [])) low (rw h up)),
    )

take_none : (count : ℕ) → take {A = ℕ} count [] ≡ []
take_none zero = refl
take_none (suc count) = refl

-- a part of the first places
drop-front : (t count : ℕ) (xs : List ℕ) → drop t (take count xs) ≡ take (count - t) (drop t xs)
drop-front zero count xs = rw sub-zero
drop-front (suc t) zero xs = let e : zero - suc t ≡ 0 = omega arith in rw e
drop-front (suc t) (suc count) [] = sym (take_none (suc count - suc t))
drop-front (suc t) (suc count) (x ∷ xs) = let e : suc count - suc t ≡ count - t = omega arith in rw e (drop-front t count xs)

-- ---- what the chains say

module _ {p : Lent} {n k row set : ℕ} {row_links set_links : List ℕ} (of : StepOf p n k) (chains : ChainsOf p k row row_links set set_links) where
  -- a chain that has a row has it inside
  pub row_inside : (row ≡ 0 → ⊥) → row < length row_links
  row_inside some = (linked_next row_links row ((plan_of p).first_met k) some chains.rows).2

  -- one row and one step
  pub joins : ChainsJoin k row row_links set set_links → JoinsLast p n k row
  joins j =
      let row_some = j.row_some in
      let set-some = j.set-some in
      let (rows, re, _, rl) = linked_next row_links row ((plan_of p).first_met k) (λ (e : row ≡ 0). omega arith) chains.rows in
      let (steps, se, _, sl) = linked_next set_links set ((plan_of p).S k) (λ (e : set ≡ 0). omega arith) chains.steps in
      record {
        step = of;
        later = omega (arith, j.set_is);
        rows = re ∙ rw (linked_end row_links (get_or row_links row 0) rows j.row_last rl);
        steps = se ∙ rw (linked_end set_links (get_or set_links set 0) steps j.set_last sl, j.set_is);
      }

-- ---- the list of the step

module _ {p : Lent} {n k row : ℕ} (j : JoinsLast p n k row) where
  high : k ≤ p.n
  high = let a = j.step.high in let e = j.step.same_n in omega arith

  row_met : member row ((plan_of p).first_met k) ≡ true
  row_met = rw j.rows (member_head row [])

  step_handed : member (k - 1) ((plan_of p).S k) ≡ true
  step_handed = rw j.steps (member_head (k - 1) [])

  -- k is the least member of U of step k-1 behind k-1
  last_led : Led k (kept (plan_of p) upper (k - 1))
  unfolding kept list plan_of plan pattern_of
  last_led =
      let low = j.step.low in
      let least : least_above (k - 1) ((plan_of p).U (k - 1)) ≡ k = (joined (pattern_of p) p.n (k - 1) k low step_handed).3 in
      let listed : member k ((plan_of p).U (k - 1)) ≡ true = rw least at (least_nonzero_member (k - 1) ((plan_of p).U (k - 1)) (λ e. omega arith)) in
      led k _ (handed_within p j.step.ready k low high upper (k - 1) step_handed).ascending
      (in_keep k (λ x. not (eqb x (k - 1))) ((plan_of p).U (k - 1)) listed (ap not (ne_eqb k (k - 1) (λ e. omega arith))))

  module _ (side : Side) where
    -- both lists without k, joined
    kept_joined : kept (plan_of p) side k ≡ union (without k (brings (pattern_of p) side row)) (without k (kept (plan_of p) side (k - 1)))
    unfolding join_all union
    kept_joined =
        let ready = j.step.ready in
        let low = j.step.low in
        let rows = rw j.rows at (from-rows_is p ready k low high side) in
        sym (steps_kept p ready k low high side) ∙ sym (from-steps_is p ready k low high side) ∙ rw (j.steps, ← rows)

    last_within : Within (suc k) p.height (without k (kept (plan_of p) side (k - 1)))
    last_within = without-within k p.height _ (handed_within p j.step.ready k j.step.low high side (k - 1) step_handed)

    row_within : Within (suc k) p.height (without k (brings (pattern_of p) side row))
    row_within = without-within k p.height _ (brings-within p j.step.ready k j.step.low high side row row_met)

    -- Where the row only adds behind the list of step k-1, and that list ends its store, this is what the list of step k adds: by the rule for t too, since
    -- that list is not empty, and what stands before it is not looked at.
    pub joined_rest :
        (t place from : ℕ) → drop place (shared (plan_of p) side (k - 1)).store ≡ kept (plan_of p) side (k - 1)
        → t ≡ length (without k (kept (plan_of p) side (k - 1)))
        → ((low : ℕ) → Ascending low (without k (kept (plan_of p) side (k - 1)))
        → union (without k (kept (plan_of p) side (k - 1))) (without k (brings (pattern_of p) side row))
        ≡ without k (kept (plan_of p) side (k - 1)) ++ drop from (brings (pattern_of p) side row))
        → RestOf p side k t (drop from (brings (pattern_of p) side row))
    unfolding shared_end
    joined_rest t place from ends size behind =
        let last : List ℕ = kept (plan_of p) side (k - 1) in
        let new : kept (plan_of p) side k ≡ without k last ++ drop from (brings (pattern_of p) side row) =
        kept_joined ∙ union_turned (suc k) _ _ row_within.ascending last_within.ascending ∙ behind (suc k) last_within.ascending in
        let up : Ascending (suc k) (without k last ++ drop from (brings (pattern_of p) side row)) =
        rw new at (kept_within p j.step.ready side k).ascending in
        let some : 0 < length last = handed_some p j.step.ready side k (k - 1) j.step.low step_handed in
        record {
          shares = size ∙ rw new (sym (overlap-behind k place _ last _ ends some up));
          is = rw (new, size) (sym (drop_at (without k last) (drop from (brings (pattern_of p) side row)) (length (without k last)) refl));
        }

-- ---- what is read

-- The row first met: its columns, which begin with k, and those behind k.
pub record LedRow (n : ℕ) (starts columns : List ℕ) (k row : ℕ) : Type 0 where
  pub read : RowRead n starts columns row
  pub rising : get_or starts (row - 1) 0 + 1 ≤ get_or starts row 0
  pub led_by : Led k (brings (pattern_of (lent_by n starts columns)) upper row)
  pub rest :
      take (get_or starts row 0 - (get_or starts (row - 1) 0 + 1)) (drop (get_or starts (row - 1) 0 + 1) columns)
      ≡ drop 1 (brings (pattern_of (lent_by n starts columns)) upper row)

pub led_row : {n : ℕ} {starts columns : List ℕ} {k row : ℕ} → JoinsLast (lent_by n starts columns) n k row → LedRow n starts columns k row
unfolding brings pattern_of lent_by lent
led_row {n} {starts} {columns} {k} {row} j =
    let p : Lent = lent_by n starts columns in
    let ready = j.step.ready in
    let (low, high, least) = first_in p ready k row j.step.low j.step.high (row_met j) in
    let a : ℕ = get_or starts (row - 1) 0 in
    let b : ℕ = get_or starts row 0 in
    let rising : a ≤ b = row_rises p ready row low high in
    let less : b - a - 1 ≡ b - (a + 1) = omega arith in
    let is : take (b - a) (drop a columns) ≡ row_of p row = slice_part a b columns rising ∙ sym (row_is p ready row low high) in
    record {
      read = record { low = low; in_starts = omega (arith, starts_size p ready); rising = rising; inside = row_ends p ready row low high; is = is };
      rising = let at_all : 1 ≤ least_above 0 (row_of p row) = omega (arith, least, j.step.low) in omega (arith, row_some p ready row low high at_all);
      led_by =
          led k (row_of p row) (brings-within p ready k j.step.low j.step.high upper row (row_met j)).ascending
          (rw least at (least_nonzero_member 0 (row_of p row) (λ e. omega (arith, j.step.low))));
      rest = sym (ap (drop 1) (sym is) ∙ drop-front 1 (b - a) (drop a columns) ∙ rw (less, drop-drop));
    }

-- a place behind one of the columns behind the first can be told
pub next_fits :
    {n : ℕ} {starts columns : List ℕ} {k row at : ℕ} → LedRow n starts columns k row → length columns * 8 < 2 ^ 63
    → at ≤ length (take (get_or starts row 0 - (get_or starts (row - 1) 0 + 1)) (drop (get_or starts (row - 1) 0 + 1) columns)) → Fits w64 (at + 1)
next_fits {starts = starts} {columns} {row = row} r room inside =
    let a : ℕ = get_or starts (row - 1) 0 + 1 in
    let b : ℕ = get_or starts row 0 in
    let end = r.read.inside in
    let size : length (take (b - a) (drop a columns)) ≡ b - a = length-take-le (b - a) (drop a columns) (rw length-drop (omega arith)) in
    record { fits = omega arith }

-- the list of the step before
module _ {p : Lent} {side : Side} {n k : ℕ} {i : SideStores} {end : ℕ} (later : 2 ≤ k) (at : SideAt p side n k i end) where
  last_opens : Opened (plan_of p) side (k - 1) i
  last_opens = side-opens at (k - 1) (omega arith) (omega arith)

  -- where it lies can be told
  pub last_asks : length i.subs * 8 < 2 ^ 63 → ListAsks i.starts i.slot_starts (k - 1)
  last_asks room =
      let high = at.step.high in
      opened-asks last_opens (omega arith) (omega (arith, at.contained.slots_size)) (omega (arith, at.contained.starts_size)) room

  module _ {from to slot next : ℕ} (lies : ListAt i.starts i.slot_starts (k - 1) from to slot next) where
    -- it lies in the store
    pub last_inside : (from ≤ to) × (to ≤ length i.subs)
    last_inside = opened_inside last_opens lies

    -- and is the store from its start on, if it ends there
    last_at_end : to ≡ end → drop from (shared (plan_of p) side (k - 1)).store ≡ kept (plan_of p) side (k - 1)
    last_at_end ends =
        let store : take to i.subs ≡ (shared (plan_of p) side (k - 1)).store = rw (ends, at.end_is) at.contained.subs-begin in
        rw (← store) (sym (slice_part from to i.subs last_inside.0)) ∙ opened_list last_opens lies

-- in U it begins with k
pub last_begins :
    {p : Lent} {n k row : ℕ} {i : SideStores} {from to slot next end : ℕ} {last : List ℕ} → JoinsLast p n k row → SideAt p upper n k i end
    → ListAt i.starts i.slot_starts (k - 1) from to slot next → last ≡ take (to - from) (drop from i.subs) → Led k last
last_begins j at lies l = rw (l ∙ opened_list (last_opens j.later at) lies) (last_led j)

-- what was found of the list of step k-1, which ends its store, and of what a row brings is what the list of step k adds
pub added_as :
    {p : Lent} {side : Side} {n k row : ℕ} {i : SideStores} {from to slot next end : ℕ} (r : Added) (last more : List ℕ) → JoinsLast p n k row
    → SideAt p side n k i end → ListAt i.starts i.slot_starts (k - 1) from to slot next → to ≡ end → last ≡ take (to - from) (drop from i.subs)
    → more ≡ brings (pattern_of p) side row → JoinedAs r k last more → AddedAs r p side k row
added_as {from = from} (Behind t place) last more j at lies ends l m (a, b, behind) =
    let is = l ∙ opened_list (last_opens j.later at) lies in
    (rw (← m) b, joined_rest j _ t from place (last_at_end j.later at lies ends) (a ∙ rw is) (rw (is, m) at behind))
added_as Elsewhere last more j at lies ends l m found = tt

-- what a row brings to L is itself
pub own-brings : (p : Lent) (row : ℕ) → row ∷ [] ≡ brings (pattern_of p) lower row
unfolding brings
own-brings p row = refl
