-- All rows into the slots: what each row asks for, and what the last one leaves.
use mathlib.Core.Bool.{true, false, false≢true}
use mathlib.Core.List.{List, [], ◌∷◌, map}
use mathlib.Core.Path.{◌≡◌, refl, sym, ap, ◌∙◌}
use Prim.Native.Nat.{ℕ, zero, suc, ◌+◌, ◌-◌, ◌*◌, ◌^◌, ◌≤◌, ◌<◌}
use native.Mathlib.Numerals.{add-one, one-add}
use native.Mathlib.Omega.{arith}
use mir.Syntax.{w64}
use mir.Val.{Fits}
use lib.Dec.{eqb}
use lib.Ieee.{Float, nan}
use lib.ListN.{length, take, drop, get_or, replicate, length-take, length-drop, replicate-append-replicate}
use lib.Seq.{get_or-take, get_or-drop, ext_get_or}
use borrow.Author.Tests.{lt-ltb, le-ltb, le-leb}
use Rattle.lists.specs.Functions.{padded}
use Rattle.lists.specs.Sets.{member, run, upto, index_of, Ascending}
use Rattle.lists.proofs.Members.{by_test}
use Rattle.lists.proofs.Places.{at_index, member_at, length-map_run, get_or-map_run}
use Rattle.foundation.specs.Closed.{Closed}
use Rattle.foundation.specs.Facts.{Plannable}
use Rattle.foundation.specs.Numbers.{plus_zero}
use Rattle.foundation.specs.Pattern.{Lent, Pattern, pattern_of, row_of, present}
use Rattle.foundation.specs.Plan.{Planning, Side, lower, upper}
use Rattle.foundation.specs.PlanCall.{PlanStores}
use Rattle.foundation.specs.RunCall.{value_at, right_at}
use Rattle.foundation.specs.Shown.{at_side, shown, shown_diagonal}
use Rattle.foundation.specs.Slots.{slots_of, slot_in}
use Rattle.foundation.specs.Square.{Square, placed}
use Rattle.foundation.specs.Subscripts.{kept}
use Rattle.foundation.proofs.Containment.{held_at_start, contained}
use Rattle.foundation.proofs.FreeSteps.{columns-from-one}
use Rattle.foundation.proofs.LaidBack.{slots-shown, shown_none, shown_next}
use Rattle.run_slots.specs.Handing.{LoadAsks, Clear}
use Rattle.run_slots.specs.Index.{limit}
use Rattle.run_slots.specs.Shows.{Shows, SquareStores, square_stores, ShowsAll}
use Rattle.run_slots.proofs.Grid.{slot_upper, slot_lower, above}
use Rattle.run_slots.proofs.Shows.{shows_same}
use Rattle.run_load.specs.Rows.{reached, loaded_to, Loaded, RowAsks}
use Rattle.run_load.proofs.Lines.{row_next}
use Rattle.run_load.proofs.Parts.{RowLies, row_lies}

-- ---- before the first row

-- a square of +0 throughout is +0 along every list
blank : (side : Side) (k : ℕ) (xs : List ℕ) → map (at_side side (λ i j. plus_zero) k) xs ≡ replicate (length xs) plus_zero
unfolding at_side
blank side k [] = refl
blank lower k (x ∷ xs) = ap (λ (ys : List Float). plus_zero ∷ ys) (blank lower k xs)
blank upper k (x ∷ xs) = ap (λ (ys : List Float). plus_zero ∷ ys) (blank upper k xs)

module _ (s : Planning) (side : Side) where
  blank_shown : (n : ℕ) → shown s side n (λ i j. plus_zero) ≡ replicate (slots_of s side n) plus_zero
  unfolding slots_of
  blank_shown zero = shown_none s side (λ i j. plus_zero)
  blank_shown (suc n) =
      shown_next s side n (λ i j. plus_zero)
      ∙ rw (blank_shown n, blank side (suc n) (kept s side (suc n))) (replicate-append-replicate (slots_of s side n) (length (kept s side (suc n))) plus_zero)

  -- a store of +0 throughout shows it
  blank_shows : (n : ℕ) (store : List Float) → slots_of s side n ≤ length store → Clear store → Shows s side n (λ i j. plus_zero) store
  unfolding Clear padded
  blank_shows n store fits clear =
      let whole : slots_of s side n + (length store - slots_of s side n) ≡ length store = omega arith in
      let front : shown s side n (λ i j. plus_zero) ≡ replicate (slots_of s side n) plus_zero = blank_shown n in
      record {
        fits = fits;
        holds = clear
            ∙ sym (rw (slots-shown s side n (λ i j. plus_zero), front)
            (replicate-append-replicate (slots_of s side n) (length store - slots_of s side n) plus_zero ∙ rw whole));
      }

-- before row 1 no place of the square has been reached
unreached : (target : Square Float) (a b : ℕ) → 1 ≤ a → loaded_to target 1 [] a b ≡ plus_zero
unfolding loaded_to reached member
unreached target a b low = rw (le-ltb a 1 low) (by_test (eqb a 1) (λ e. rw e) (λ e. rw e))

-- behind the last row every place of it has
all_reached : (target : Square Float) (height a b : ℕ) → a ≤ height → loaded_to target (suc height) [] a b ≡ target a b
unfolding loaded_to reached
all_reached target height a b high = rw (lt-ltb a (suc height) (omega arith))

-- a place that a list has may be read with any number for those that it has not
read_any : (xs : List Float) (k : ℕ) (y z : Float) → k < length xs → get_or xs k y ≡ get_or xs k z
read_any [] k y z l = absurd (omega arith)
read_any (x ∷ xs) zero y z l = refl
read_any (x ∷ xs) (suc k) y z l = read_any xs k y z (omega arith)

right_read : (right : List Float) (k : ℕ) → k < length right → get_or right k nan ≡ right_at right (suc k)
unfolding right_at
right_read right k inside = read_any right k nan plus_zero inside

reached-before : (height a b : ℕ) → a ≤ height → reached (suc height) [] a b ≡ true
unfolding reached
reached-before height a b high = rw (lt-ltb a (suc height) (omega arith))

diagonal-read : (s : Planning) (n height : ℕ) (target : Square Float) (l u d : List Float) → n ≤ height → Loaded s n target (suc height) [] l u d
    → (k : ℕ) → k < n → get_or d k nan ≡ target (suc k) (suc k)
diagonal-read s n height target l u d tall h k inside =
    let e : suc k - 1 ≡ k = omega arith in
    rw e at (h.diagonal (suc k) (omega arith) (omega arith) (reached-before height (suc k) (suc k) (omega arith)))

-- What the code asks of the numbers of the row behind place i, each fact as it asks it.
pub record LineLends (starts columns : List ℕ) (values : List Float) (i : ℕ) : Type 0 where
  pub here_in : i < length starts
  pub here_fits : Fits w64 (i * 8)
  pub sum_fits : Fits w64 (i + 1)
  pub next_in : i + 1 < length starts
  pub next_fits : Fits w64 ((i + 1) * 8)
  pub from-fits : Fits w64 (get_or starts i 0 * 8)
  pub rises : get_or starts i 0 ≤ get_or starts (i + 1) 0
  pub in_columns : get_or starts (i + 1) 0 ≤ length columns
  pub in_values : get_or starts (i + 1) 0 ≤ length values

pub line_lends : {height i : ℕ} (starts columns : List ℕ) (values : List Float) → i < height
    → (length starts ≡ height + 1) × (get_or starts i 0 ≤ get_or starts (i + 1) 0) × (get_or starts (i + 1) 0 ≤ length columns) × (get_or starts (i + 1) 0 ≤ length values)
    → length starts * 8 < 2 ^ 63 → length columns * 8 < 2 ^ 63 → LineLends starts columns values i
line_lends starts columns values inside (size, rises, in_columns, in_values) starts-room columns-room =
    record {
      here_in = omega arith;
      here_fits = record { fits = omega arith };
      sum_fits = record { fits = omega arith };
      next_in = omega arith;
      next_fits = record { fits = omega arith };
      from-fits = record { fits = omega arith };
      rises = rises;
      in_columns = in_columns;
      in_values = in_values;
    }

-- places of the pattern have slots
pub present-slot : (p : Pattern) (L U : ℕ → List ℕ) → Closed p L U → Plannable p → (i j : ℕ) → present p i j ≡ true → slot_in L U i j ≡ true
present-slot p L U closed able = contained closed (held_at_start closed (present p) (λ i j e. e) (columns-from-one p able))

module _ (p : Lent) (values right : List Float) (stores : PlanStores) (z : SquareStores) (w : LoadAsks p values right stores z) where
  abbrev n : ℕ
  n = p.n

  abbrev height : ℕ
  height = p.height

  -- the square before the first step
  abbrev pub target : Square Float
  target = placed (pattern_of p) plus_zero (value_at p values)

  pub all_start : Loaded w.s n target (0 + 1) [] z.lower_slots z.upper_slots z.diagonal
  unfolding at_side reached member pattern_of
  all_start = record {
    lowers = shows_same w.s lower n (λ i j. plus_zero) z.lower_slots (blank_shows w.s lower n z.lower_slots w.l_size w.l_clear) (loaded_to target 1 [])
        (λ k x a b m. unreached target x k (omega (arith, above w.s n height w.layout.grid lower k x m)));
    uppers = shows_same w.s upper n (λ i j. plus_zero) z.upper_slots (blank_shows w.s upper n z.upper_slots w.u_size w.u_clear) (loaded_to target 1 [])
        (λ k x a b m. unreached target k x a);
    size = w.d_size;
    diagonal = λ a low high r. absurd (none a low r);
  }
    where
      none : (a : ℕ) → 1 ≤ a → reached 1 [] a a ≡ true → ⊥
      none a low r = false≢true (sym (rw (le-ltb a 1 low) (by_test (eqb a 1) (λ e. rw e) (λ e. rw e))) ∙ r)

  module _ (i : ℕ) (inside : i < height) where
    abbrev from : ℕ
    from = get_or p.starts i 0

    abbrev end : ℕ
    end = get_or p.starts (i + 1) 0

    row : List ℕ
    row = row_of p (i + 1)

    within : i + 1 ≤ height
    within = rw (add-one i) inside

    lies : RowLies p p.starts p.columns i
    lies = row_lies p w.starts_fitting i inside

    -- where the row lies in what is lent
    pub line_lies : (length p.starts ≡ height + 1) × (from ≤ end) × (end ≤ length p.columns) × (end ≤ length values)
    line_lies = (lies.starts_size, lies.ordered, lies.within, omega (arith, lies.within, w.values_size))

    ascends : Ascending 1 row
    unfolding row pattern_of
    ascends = w.plannable.ascending (i + 1) (omega arith) within

    in_pattern : (j : ℕ) → present (pattern_of p) (i + 1) j ≡ member j row
    unfolding row pattern_of present
    in_pattern j = rw (le-leb 1 (i + 1) (omega arith), le-leb (i + 1) height within)

    slot : (j : ℕ) → member j row ≡ true → slot_in w.s.L w.s.U (i + 1) j ≡ true
    slot j m = present-slot (pattern_of p) w.s.L w.s.U w.layout.closed w.plannable (i + 1) j (in_pattern j ∙ m)

    entry : (j : ℕ) → member j row ≡ true → target (i + 1) j ≡ get_or values (from + index_of j row) plus_zero
    unfolding row placed value_at
    entry j m = rw (in_pattern j, m, add-one i)

    absent : (j : ℕ) → member j row ≡ false → target (i + 1) j ≡ plus_zero
    unfolding placed
    absent j m = rw (in_pattern j, m)

    read : (q : ℕ) → q < length row → get_or (take (end - from) (drop from values)) q nan ≡ target (i + 1) (get_or row q 0)
    unfolding row
    read q l =
        let a : q < end - from = omega (arith, lies.size) in
        let b : from + q < length values = omega (arith, lies.within, w.values_size) in
        get_or-take (end - from) (drop from values) q nan a ∙ get_or-drop from values q nan ∙ read_any values (from + q) nan plus_zero b
        ∙ sym (entry (get_or row q 0) (member_at q row l) ∙ rw (at_index 1 q row ascends l))

    as_many : length (take (end - from) (drop from values)) ≡ length row
    unfolding row
    as_many = simp (length-take, length-drop) (omega (arith, lies.size, lies.within, w.values_size))

    asks : (l u d : List Float) → Loaded w.s n target (i + 1) [] l u d
        → RowAsks (i + 1) row (take (end - from) (drop from values)) stores l u d
    unfolding row pattern_of
    asks l u d h = record {
      s = w.s;
      n = n;
      target = target;
      low = omega arith;
      lower_index = w.layout.lowers;
      upper_index = w.layout.uppers;
      as_many = as_many;
      ascends = ascends;
      bounded = λ j m. w.plannable.bounded (i + 1) j (omega arith) within m;
      lower_slot = λ j m apart. slot_lower w.s (i + 1) j apart (slot j m);
      upper_slot = λ j m apart. slot_upper w.s (i + 1) j apart (slot j m);
      entries = read;
      loaded = h;
    }

    -- what a row asks for
    pub line_asks : (l u d : List Float) → Loaded w.s n target (i + 1) [] l u d
        → RowAsks (i + 1) (take (end - from) (drop from p.columns)) (take (end - from) (drop from values)) stores l u d
    unfolding row
    line_asks l u d h = rw lies.is (asks l u d h)

    -- what a row leaves
    pub line_leaves : (l u d l' u' d' : List Float) → Loaded w.s n target (i + 1) [] l u d
        → ((a : RowAsks (i + 1) (take (end - from) (drop from p.columns)) (take (end - from) (drop from values)) stores l u d)
        → Loaded a.s a.n a.target (i + 1) (take (end - from) (drop from p.columns)) l' u' d')
        → Loaded w.s n target (i + 1 + 1) [] l' u' d'
    unfolding asks row pattern_of
    line_leaves l u d l' u' d' h leaves =
        let left : Loaded w.s n target (i + 1) row l' u' d' = (rw lies.is at leaves) (asks l u d h) in
        rw (add-one (i + 1)) (row_next w.s n target (i + 1) row l' u' d' left absent
        (w.plannable.diagonal (i + 1) (omega arith)))

  -- all rows are loaded
  pub all_end : (i : ℕ) (l u d x : List Float) → height ≤ i → i ≤ height → Loaded w.s n target (i + 1) [] l u d → x ≡ right
      → ShowsAll w.s n height target (right_at right) (square_stores l u d x)
  unfolding at_side shown_diagonal upto pattern_of limit
  all_end i l u d x low high h e =
      let same : i + 1 ≡ suc height = omega arith in
      let g : Loaded w.s n target (suc height) [] l u d = rw same at h in
      let tall : n ≤ height = w.layout.tall in
      record {
        lowers = shows_same w.s lower n (loaded_to target (suc height) []) l g.lowers target (λ k y a b m. sym (all_reached target height y k (w.layout.grid.bounded lower k y m)));
        uppers = shows_same w.s upper n (loaded_to target (suc height) []) u g.uppers target (λ k y a b m. sym (all_reached target height k y (omega arith)));
        diagonal = ext_get_or nan d (map (λ k. target k k) (run 1 n)) (g.size ∙ sym (length-map_run (λ k. target k k) 1 n))
            (λ k inside. diagonal-read w.s n height target l u d tall g k (omega (arith, g.size)) ∙ sym (get_or-map_run (λ k. target k k) 1 n k nan (omega (arith, g.size)) ∙ rw (one-add k)));
        rights = e ∙ ext_get_or nan right (map (right_at right) (run 1 height)) (w.right_size ∙ sym (length-map_run (right_at right) 1 height))
            (λ k inside. right_read right k (omega arith) ∙ sym (get_or-map_run (right_at right) 1 height k nan (omega (arith, w.right_size)) ∙ rw (one-add k)));
      }
