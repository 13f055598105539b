-- What planning holds after each of the report's parts 2.1 to 2.5 of a step, and what each part reads.
use mathlib.Core.Bool.{true, false, false≢true, not}
use mathlib.Core.List.{List, [], ◌∷◌}
use mathlib.Core.Logic.Iff
use mathlib.Core.Logic.{◌↔◌, ◌⊎◌, inl, inr, ⊎_elim, ⊎_map}
use mathlib.Core.Path.{◌≡◌, refl, sym, ap, ◌∙◌}
use Prim.Native.Nat.{ℕ, zero, suc, ◌+◌, ◌-◌, ◌≤◌, ◌<◌}
use native.Mathlib.Decide.{dec_lt}
use native.Mathlib.Omega.{arith}
use lib.ListN.{length}
use Rattle.lists.specs.Functions.{total, empty}
use Rattle.lists.specs.Sets.{member, Ascending, least_above}
use Rattle.lists.proofs.Members.{fails, member_head, not-member-nil, joined_part, joined_cases}
use Rattle.lists.proofs.Order.{member-low, same_members-by}
use Rattle.lists.proofs.Least.{least-member, least_above_lem, least-least, least_nonzero_member}
use Rattle.lists.proofs.Counting.{total_cong}
use Rattle.foundation.specs.Pattern.{Lent, Pattern, row_of, column, pattern_of}
use Rattle.foundation.specs.Plan.{Side, lower, upper, Planning, list, unmet_rows, brings, reads_of_rows, reads_of_steps, so_far, initialized, rows_obtained, influenced, collected_if_influenced, after, after_initialization, after_rows, after_test, after_steps, plan}
use Rattle.foundation.specs.Facts.{Plannable}
use Rattle.foundation.specs.Claims.PlanParts.{FirstEntry, RowsMet, SetsJoined, ListsMade, ListsAscend, ListsOfRows, LocalInitialization, RowsObtained, StepsTested, InfluenceCollected, SetsUpdated, ReadsOfParts}
use Rattle.foundation.proofs.Passing.{passes_plannable}
use Rattle.foundation.proofs.Steps.{from_rows, list_frame, list_later, joined, joins, S-none, S-falls, S-frame, first_inside}
use Rattle.foundation.proofs.Gathered.{met-least, least-met, first_met_at, list_cases_lem, list_row, list_step}
use Rattle.foundation.proofs.Listed.{single, list_ascends, rows_ascend}
use Rattle.foundation.proofs.ReadsBound.{first_ascends}
use Rattle.foundation.proofs.InStep.{rows-read, rows-sets, rows_new, steps-sets, steps_lower, steps_upper, steps-read, rows-met, rows_first, steps-met, steps_first, steps_reads, rows_lists, steps_lists}

-- rows bring themselves to L_k: an ascending list of rows, joined row by row, is that list
rows_themselves : (p : Pattern) (a b : ℕ) (rows : List ℕ) → Ascending a rows → Ascending b (from_rows p lower rows) → from_rows p lower rows ≡ rows
unfolding from_rows brings
rows_themselves p a b rows up joined-up =
    same_members-by b a (from_rows p lower rows) rows joined-up up
    (λ x e.
    ⊎_elim (λ none. absurd (not-member-nil x none))
    (λ r. let q : x ≡ r.0 = single x r.0 r.2 in rw q r.1)
    (joined_cases x (brings p lower) [] rows e))
    (λ x e. joined_part x x (brings p lower) [] rows e (member_head x []))

-- what is said of one side of a choice
beside : {A B C : Type 0} → A ↔ B → (A ⊎ C) ↔ (B ⊎ C)
beside (f, g) = (⊎_map f (λ c. c), ⊎_map g (λ c. c))

-- 2.3's test fails just where the set is empty
test_empty : (steps : List ℕ) → (not (empty steps) ≡ false) ↔ (steps ≡ [])
unfolding empty
test_empty [] = ((λ e. refl), (λ e. refl))
test_empty (l ∷ ls) = ((λ e. absurd (false≢true (sym e))), (λ e. absurd (not-member-nil l (rw e at (member_head l ls)))))

-- what planning knows inside a step: the met rows up to m, the sets S and the lists of the steps up to l
abbrev Known : Lent → Planning → ℕ → ℕ → Type 0
Known p s m l = RowsMet p s m × SetsJoined p s l × ListsMade p s l

module _ (p : Lent) (ok : Plannable (pattern_of p)) where
  -- ---- a row's first entry

  -- a row's first entry stands in its least column
  least_first : (k i : ℕ) → 1 ≤ k → ((1 ≤ i) × (i ≤ p.height) × (least_above 0 (row_of p i) ≡ k)) ↔ FirstEntry p k i
  unfolding FirstEntry pattern_of
  least_first k i low = (to, back)
    where
      row : List ℕ
      row = row_of p i

      to : (1 ≤ i) × (i ≤ p.height) × (least_above 0 row ≡ k) → FirstEntry p k i
      to (a, b, q) = (
        a,
        b,
        rw q at (least_nonzero_member 0 row (omega arith)),
        (λ j h. fails (member j row) (λ e. omega (arith, least-least j 0 1 row (ok.ascending i a b) e (member-low j 1 row (ok.ascending i a b) e)))),
      )

      back : FirstEntry p k i → (1 ≤ i) × (i ≤ p.height) × (least_above 0 row ≡ k)
      back (a, b, e, none) =
          elim (dec_lt (least_above 0 row) k) [
            | yes h ↦ absurd (false≢true (sym (none (least_above 0 row) h) ∙ least-member k 0 row e low))
            | no n ↦ (a, b, omega (arith, least-least k 0 1 row (ok.ascending i a b) e low))
          ]

  -- ---- planning between steps

  -- the rows met after m steps, of any state that has the same
  met-after : (m : ℕ) (s : Planning) → s.met ≡ (after (pattern_of p) m).met → s.first_met ≡ (after (pattern_of p) m).first_met → RowsMet p s m
  unfolding RowsMet pattern_of
  met-after m s met first = ((λ i. rw met (to i, back i)), (λ l i. rw first (at l i)))
    where
      to : (i : ℕ) → (after (pattern_of p) m).met i ≡ true → (1 ≤ i) × (i ≤ p.height) × ((j : ℕ) × (j ≤ m) × (member j (row_of p i) ≡ true))
      to i e =
          let (a, b, low, high) = met-least (pattern_of p) ok m i e in
          (a, b, (least_above 0 (row_of p i), high, least_nonzero_member 0 (row_of p i) (omega arith)))

      back : (i : ℕ) → (1 ≤ i) × (i ≤ p.height) × ((j : ℕ) × (j ≤ m) × (member j (row_of p i) ≡ true)) → (after (pattern_of p) m).met i ≡ true
      back i (a, b, (j, high, e)) =
          let up : Ascending 1 (row_of p i) = ok.ascending i a b in
          let low : 0 < j = member-low j 1 (row_of p i) up e in
          least-met (pattern_of p) ok m i a b (least_above_lem j 0 (row_of p i) e low) (omega (arith, least-least j 0 1 (row_of p i) up e low))

      first_at : (l i : ℕ) → 1 ≤ l → l ≤ m → (member i ((after (pattern_of p) m).first_met l) ≡ true) ↔ FirstEntry p l i
      first_at l i low high = Iff.trans (first_met_at (pattern_of p) ok m l i low high) (least_first l i low)

      at : (l i : ℕ) → (member i ((after (pattern_of p) m).first_met l) ≡ true) ↔ ((1 ≤ l) × (l ≤ m) × FirstEntry p l i)
      at l i = (
        (λ e. let (low, high) = first_inside (pattern_of p) m l i e in (low, high, (first_at l i low high).0 e)),
        (λ (low, high, e). (first_at l i low high).1 e),
      )

  module _ (m : ℕ) (small : m ≤ p.n) where
    -- the lists of the steps done are those of the plan
    list_whole : (side : Side) (l : ℕ) → l ≤ m → list (after (pattern_of p) m) side l ≡ list (plan (pattern_of p)) side l
    unfolding plan pattern_of
    list_whole side l h = sym (list_frame (pattern_of p) p.n m l side h small)

    -- the sets S after m steps
    sets-after : (s : Planning) → s.S ≡ (after (pattern_of p) m).S → SetsJoined p s m
    unfolding SetsJoined list
    sets-after s same = ((λ l r. rw same (to l r, back l r)), (λ r. rw same (S-falls (pattern_of p) m r)))
      where
        t : Planning
        t = after (pattern_of p) m

        whole : Planning
        whole = plan (pattern_of p)

        to : (l r : ℕ) → member l (t.S r) ≡ true → (1 ≤ r) × (1 ≤ l) × (l ≤ m) × (1 < length (whole.L l)) × (least_above l (whole.U l) ≡ r)
        to l zero e = absurd (not-member-nil l (rw (S-none (pattern_of p) m) at e))
        to l (suc r) e =
            let low : 1 ≤ suc r = omega arith in
            let (a, b, c, least, many) = joined (pattern_of p) m l (suc r) low e in
            (low, a, b, rw (list_whole lower l b) at many, rw (list_whole upper l b) at least)

        back : (l r : ℕ) → (1 ≤ r) × (1 ≤ l) × (l ≤ m) × (1 < length (whole.L l)) × (least_above l (whole.U l) ≡ r) → member l (t.S r) ≡ true
        back l r (low, a, b, many, least) =
            let some : least_above l (t.U l) ≡ r = rw (list_whole upper l b) least in
            rw (sym some) (joins (pattern_of p) m l a b (rw (sym (list_whole lower l b)) at many) (omega arith))

    -- the lists after m steps
    lists_after : (s : Planning) → s.L ≡ (after (pattern_of p) m).L → s.U ≡ (after (pattern_of p) m).U → ListsMade p s m
    unfolding ListsMade list
    lists_after s low up = (
      (λ l h. rw (low, up) (list_whole lower l h, list_whole upper l h)),
      (λ l h. rw (low, up) (list_later (pattern_of p) m l lower h, list_later (pattern_of p) m l upper h)),
    )

  -- ---- planning inside step k

  module _ (k : ℕ) (low : 1 ≤ k) (high : k ≤ p.n) where
    -- k-1 steps are none too many
    before : k - 1 ≤ p.n
    before = omega arith

    -- the rows first met at k are those with their first entry there
    first_here : (i : ℕ) → (member i ((after (pattern_of p) p.n).first_met k) ≡ true) ↔ FirstEntry p k i
    unfolding RowsMet
    first_here i =
        let (to, back) = (met-after p.n (after (pattern_of p) p.n) refl refl).1 k i in
        ((λ e. (to e).2), (λ e. back (low, high, e)))

    -- what they bring to L_k, and to U_k
    brought_lower : (x : ℕ) → ((i : ℕ) × FirstEntry p k i × (member x (brings (pattern_of p) lower i) ≡ true)) ↔ FirstEntry p k x
    unfolding brings
    brought_lower x =
        ((λ (i, e, m). let q : x ≡ i = single x i m in rw q e), (λ e. (x, e, member_head x [])))

    brought_upper : (x : ℕ) → ((i : ℕ) × FirstEntry p k i × (member x (brings (pattern_of p) upper i) ≡ true)) ↔ ((i : ℕ) × FirstEntry p k i × (member x (row_of p i) ≡ true))
    unfolding brings pattern_of
    brought_upper x = ((λ r. r), (λ r. r))

    -- after 2.2 a side's list has what these rows bring
    rows-members : (side : Side) (x : ℕ) → (member x (so_far (after_rows (pattern_of p) k) side) ≡ true) ↔ ((i : ℕ) × FirstEntry p k i × (member x (brings (pattern_of p) side i) ≡ true))
    unfolding from_rows
    rows-members side x = rw (rows_lists (pattern_of p) k low p.n high side) (
      (λ e.
          ⊎_elim (λ none. absurd (not-member-nil x none)) (λ r. (r.0, (first_here r.0).0 r.1, r.2))
          (joined_cases x (brings (pattern_of p) side) [] ((after (pattern_of p) p.n).first_met k) e)),
      (λ (i, e, m). joined_part x i (brings (pattern_of p) side) [] ((after (pattern_of p) p.n).first_met k) ((first_here i).1 e) m),
    )

    -- after 2.4 it has that, and what is k or more in the lists of the steps in S_k
    steps-members :
        (side : Side) (x : ℕ)
        → (member x (so_far (after_steps (pattern_of p) k) side) ≡ true)
        ↔ (((i : ℕ) × FirstEntry p k i × (member x (brings (pattern_of p) side i) ≡ true))
        ⊎ ((l : ℕ) × (member l ((after_steps (pattern_of p) k).known.S k) ≡ true) × (member x (list (plan (pattern_of p)) side l) ≡ true) × (k ≤ x)))
    unfolding plan pattern_of
    steps-members side x =
        rw (steps_lists (pattern_of p) k low p.n high side, steps-sets (pattern_of p) k, ← S-frame (pattern_of p) p.n (k - 1) k low (omega arith) (omega arith)) (
          (λ e.
              ⊎_elim (λ r. inl (r.0, (first_here r.0).0 r.1, r.2)) (λ r. inr r) (list_cases_lem (pattern_of p) p.n side k x e)),
          (λ c.
              ⊎_elim
              (λ r. list_row (pattern_of p) p.n side k r.0 x low high ((first_here r.0).1 r.1) r.2)
              (λ r. list_step (pattern_of p) p.n side k r.0 x low high r.1 r.2 r.3) c),
        )

    -- ---- 2.1

    -- all but L_k and U_k is as after step k-1
    begun : Known p (after_initialization (pattern_of p) k).known (k - 1) (k - 1)
    unfolding after_initialization initialized
    begun = (met-after (k - 1) _ refl refl, sets-after (k - 1) before _ refl, lists_after (k - 1) before _ refl refl)

    -- ---- 2.2, and so 2.3

    -- the lists have the new rows and their columns
    rows_lists_hold : ListsOfRows p k (after_rows (pattern_of p) k)
    unfolding ListsOfRows so_far
    rows_lists_hold = ((λ i. Iff.trans (rows-members lower i) (brought_lower i)), (λ j. Iff.trans (rows-members upper j) (brought_upper j)))

    -- and ascend
    rows_up : ListsAscend k (after_rows (pattern_of p) k)
    unfolding ListsAscend so_far pattern_of
    rows_up = (up lower, up upper)
      where
        up : (side : Side) → Ascending k (so_far (after_rows (pattern_of p) k) side)
        up side = rw (rows_lists (pattern_of p) k low p.n high side) (rows_ascend (pattern_of p) ok p.n (omega arith) side k low high)

    -- the new rows are met, all else is as after step k-1
    rows-known : Known p (after_rows (pattern_of p) k).known k (k - 1)
    unfolding after_rows after_initialization rows_obtained initialized
    rows-known =
        (met-after k _ (rows-met (pattern_of p) k low) (rows_first (pattern_of p) k low), sets-after (k - 1) before _ refl, lists_after (k - 1) before _ refl refl)

    -- ---- 2.3

    -- S_k is empty just where no step before k hands on to k
    none_before :
        ((after_rows (pattern_of p) k).known.S k ≡ [])
        ↔ ((l : ℕ) → 1 ≤ l → l < k → 1 < length ((plan (pattern_of p)).L l) → least_above l ((plan (pattern_of p)).U l) ≡ k → ⊥)
    unfolding SetsJoined
    none_before = (to, back (S k) refl)
      where
        S : ℕ → List ℕ
        S = (after_rows (pattern_of p) k).known.S

        joins_just :
            (l : ℕ) → (member l (S k) ≡ true) ↔ ((1 ≤ l) × (l ≤ k - 1) × (1 < length ((plan (pattern_of p)).L l)) × (least_above l ((plan (pattern_of p)).U l) ≡ k))
        joins_just l =
            let (to, back) = rows-known.1.0 l k in
            ((λ e. let (r, a, b, many, least) = to e in (a, b, many, least)), (λ (a, b, many, least). back (low, a, b, many, least)))

        to : S k ≡ [] → (l : ℕ) → 1 ≤ l → l < k → 1 < length ((plan (pattern_of p)).L l) → least_above l ((plan (pattern_of p)).U l) ≡ k → ⊥
        to e l a b many least = not-member-nil l (rw e at ((joins_just l).1 (a, omega arith, many, least)))

        back :
            (steps : List ℕ) → S k ≡ steps
            → ((l : ℕ) → 1 ≤ l → l < k → 1 < length ((plan (pattern_of p)).L l) → least_above l ((plan (pattern_of p)).U l) ≡ k → ⊥) → S k ≡ []
        back [] e none = e
        back (l ∷ ls) e none =
            let (a, b, many, least) = (joins_just l).0 (rw e (member_head l ls)) in
            absurd (none l a (omega arith) many least)

    -- where the test fails 2.4 is passed over
    passed_over : influenced k (after_test (pattern_of p) k) ≡ false → after_steps (pattern_of p) k ≡ after_test (pattern_of p) k
    unfolding after_steps collected_if_influenced
    passed_over e = rw e refl

    -- ---- 2.4

    -- the lists are the plan's
    steps-plan : (side : Side) → so_far (after_steps (pattern_of p) k) side ≡ list (plan (pattern_of p)) side k
    unfolding plan pattern_of
    steps-plan side = steps_lists (pattern_of p) k low p.n high side

    -- so they ascend
    steps_up : ListsAscend k (after_steps (pattern_of p) k)
    unfolding ListsAscend so_far pattern_of
    steps_up = (up lower, up upper)
      where
        up : (side : Side) → Ascending k (so_far (after_steps (pattern_of p) k) side)
        up side = rw (steps_lists (pattern_of p) k low p.n high side) (list_ascends (pattern_of p) ok p.n (omega arith) side k)

    -- all else is as after 2.2
    steps-known : Known p (after_steps (pattern_of p) k).known k (k - 1)
    steps-known = (
      met-after k _ (steps-met (pattern_of p) k low) (steps_first (pattern_of p) k low),
      sets-after (k - 1) before _ (steps-sets (pattern_of p) k),
      lists_after (k - 1) before _ (steps_lower (pattern_of p) k) (steps_upper (pattern_of p) k),
    )

    -- ---- the reads

    -- what 2.2 puts into L_k are the rows that it finds unmet
    rows_unmet : (after_rows (pattern_of p) k).Lk ≡ unmet_rows (pattern_of p) (after (pattern_of p) (k - 1)) k
    unfolding so_far pattern_of
    rows_unmet =
        let first : List ℕ = (after (pattern_of p) p.n).first_met k in
        rows_lists (pattern_of p) k low p.n high lower
        ∙ rows_themselves (pattern_of p) 1 k first (first_ascends (pattern_of p) p.n k low high) (rows_ascend (pattern_of p) ok p.n (omega arith) lower k low high)
        ∙ rows_new (pattern_of p) k low p.n high

    -- 2.2 reads C_k and those rows
    rows_reads :
        (after_rows (pattern_of p) k).known.reads
        ≡ (after (pattern_of p) (k - 1)).reads + (length (column (pattern_of p) k) + total (λ i. length (row_of p i)) (after_rows (pattern_of p) k).Lk)
    unfolding reads_of_rows pattern_of
    rows_reads = rw rows_unmet (rows-read (pattern_of p) k)

    -- 2.4 reads the plan's lists of the steps in S_k
    lists_read :
        reads_of_steps (after (pattern_of p) (k - 1)) k
        ≡ total (λ l. length ((plan (pattern_of p)).L l) + length ((plan (pattern_of p)).U l)) ((after (pattern_of p) (k - 1)).S k)
    unfolding reads_of_steps list
    lists_read =
        total_cong _ _ ((after (pattern_of p) (k - 1)).S k)
        (λ l e.
        let done = joined (pattern_of p) (k - 1) l k low e in
        rw (list_whole (k - 1) before lower l done.1, list_whole (k - 1) before upper l done.1))

-- ---- the claims

-- after 2.1
pub local_initialization : LocalInitialization
unfolding LocalInitialization after_initialization initialized
local_initialization most p passes k (low, high) =
    let (met, sets, lists) = begun p (passes_plannable most p passes) k low high in
    (refl, refl, refl, met, sets, lists)

-- after 2.2
pub rows_obtained_lem : RowsObtained
unfolding RowsObtained
rows_obtained_lem most p passes k (low, high) =
    let ok : Plannable (pattern_of p) = passes_plannable most p passes in
    let (met, sets, lists) = rows-known p ok k low high in
    (rows_lists_hold p ok k low high, rows_up p ok k low high, met, sets, lists)

-- after 2.3
pub steps-tested : StepsTested
unfolding StepsTested after_test influenced
steps-tested most p passes k (low, high) =
    let ok : Plannable (pattern_of p) = passes_plannable most p passes in
    let (met, sets, lists) = rows-known p ok k low high in
    let test = test_empty ((after_rows (pattern_of p) k).known.S k) in
    (rows_lists_hold p ok k low high, rows_up p ok k low high, met, sets, lists, test, Iff.trans test (none_before p ok k low high), passed_over p ok k low high)

-- after 2.4
pub influence_collected : InfluenceCollected
unfolding InfluenceCollected so_far list
influence_collected most p passes k (low, high) =
    let ok : Plannable (pattern_of p) = passes_plannable most p passes in
    let (met, sets, lists) = steps-known p ok k low high in (
      (λ i. Iff.trans (steps-members p ok k low high lower i) (beside (brought_lower p ok k low high i))),
      (λ j. Iff.trans (steps-members p ok k low high upper j) (beside (brought_upper p ok k low high j))),
      steps-plan p ok k low high lower,
      steps-plan p ok k low high upper,
      steps_up p ok k low high,
      met,
      sets,
      lists,
    )

-- after 2.5
pub sets_updated_lem : SetsUpdated
unfolding SetsUpdated
sets_updated_lem most p passes k (low, high) =
    let ok : Plannable (pattern_of p) = passes_plannable most p passes in
    (met-after p ok k _ refl refl, sets-after p ok k high _ refl, lists_after p ok k high _ refl refl)

-- what each part reads
pub reads_of_parts : ReadsOfParts
unfolding ReadsOfParts after_test after_initialization initialized
reads_of_parts most p passes k (low, high) =
    let ok : Plannable (pattern_of p) = passes_plannable most p passes in (
      refl,
      rows_reads p ok k low high,
      refl,
      steps-read (pattern_of p) k ∙ ap (λ (r : ℕ). (after_rows (pattern_of p) k).known.reads + r) (rw (rows-sets (pattern_of p) k) (lists_read p ok k low high)),
      sym (steps_reads (pattern_of p) k low),
    )
