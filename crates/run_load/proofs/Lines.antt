-- A row into the slots: where an entry's slot lies, and what the rows that are done hand over to the next.
use mathlib.Core.Bool.{true, false, cond, false≢true, and-false}
use mathlib.Core.List.{List, [], ◌∷◌, ◌++◌}
use mathlib.Core.Path.{◌≡◌, refl, sym, ◌∙◌}
use Prim.Native.Nat.{ℕ, suc, ◌+◌, ◌-◌, ◌≤◌, ◌<◌}
use native.Mathlib.Numerals.{add-one}
use native.Mathlib.Omega.{arith}
use lib.Dec.{eqb, ltb}
use lib.Ieee.{Float, nan}
use lib.ListN.{length, take, get_or, set}
use lib.Seq.{take-suc, take_all}
use borrow.Author.Tests.{eqb-true, eqb-false, eq-eqb, lt-ltb, le-ltb, ltb-true, ltb-false}
use Rattle.lists.specs.Sets.{member, Ascending, index_of}
use Rattle.lists.proofs.Members.{by_test}
use Rattle.lists.proofs.Order.{member-low}
use Rattle.lists.proofs.Places.{member_at}
use Rattle.foundation.specs.Numbers.{plus_zero}
use Rattle.foundation.specs.Plan.{Planning, Side, lower, upper}
use Rattle.foundation.specs.PlanCall.{PlanStores}
use Rattle.foundation.specs.Shown.{at_side}
use Rattle.foundation.specs.Slots.{slots_of}
use Rattle.foundation.specs.Square.{Square}
use Rattle.foundation.specs.Subscripts.{kept}
use Rattle.run_slots.specs.Lists.{SlotAsks, SlotLeaves}
use Rattle.run_slots.proofs.Lists.{slot-index}
use Rattle.run_slots.proofs.Shows.{shows_same}
use Rattle.run_load.specs.Rows.{reached, loaded_to, Loaded, RowAsks}
use Rattle.run_load.proofs.Reached.{slot-inside, into_lower, into_upper, into_diagonal}

-- ---- an entry of a row

module _ (i : ℕ) (columns : List ℕ) (values : List Float) (stores : PlanStores) (l₀ u₀ d₀ : List Float)
    (w : RowAsks i columns values stores l₀ u₀ d₀) where
  ascends : (side : Side) (k : ℕ) → Ascending (k + 1) (kept w.s side k)
  ascends lower = w.lower_index.ascends
  ascends upper = w.upper_index.ascends

  module _ (q : ℕ) (inside : q < length columns) where
    abbrev j : ℕ
    j = get_or columns q 0

    listed : member j columns ≡ true
    listed = member_at q columns inside

    from_one : 1 ≤ j
    from_one = member-low j 1 columns w.ascends listed

    -- a row with a column from its diagonal on is not above n
    at_most : i ≤ j → i ≤ w.n
    at_most before = omega (arith, w.bounded j listed)

    -- what an entry before the diagonal asks of its slot, and one behind it
    pub row_lower_asks : j < i → SlotAsks stores.lower_side j i
    row_lower_asks apart = record {
      s = w.s;
      side = lower;
      n = w.n;
      index = w.lower_index;
      low = from_one;
      high = w.bounded j listed;
      has = w.lower_slot j listed apart;
    }

    pub row_upper_asks : i < j → SlotAsks stores.upper_side i j
    row_upper_asks apart = record {
      s = w.s;
      side = upper;
      n = w.n;
      index = w.upper_index;
      low = w.low;
      high = at_most (omega arith);
      has = w.upper_slot j listed apart;
    }

    module _ (l u d : List Float) (h : Loaded w.s w.n w.target i (take q columns) l u d) where
      -- one column more is done
      onward : (l' u' d' : List Float) → Loaded w.s w.n w.target i (take q columns ++ j ∷ []) l' u' d'
          → Loaded w.s w.n w.target i (take (q + 1) columns) l' u' d'
      onward l' u' d' g = rw (add-one q, take-suc columns q 0 inside) g

      module _ (to : ℕ) where
        module _ (apart : j < i) (found : (a : SlotAsks stores.lower_side j i) → SlotLeaves to stores.lower_side j i a) where
          lower_is : to ≡ slots_of w.s lower (j - 1) + index_of i (kept w.s lower j)
          unfolding row_lower_asks
          lower_is = slot-index w.s lower j i to (j + 1) (ascends lower j) (found (row_lower_asks apart))

          pub row_lower_inside : to < length l
          row_lower_inside =
              rw lower_is (slot-inside w.s lower w.n (loaded_to w.target i (take q columns)) (loaded_to w.target i (take q columns)) l h.lowers j i
              from_one (w.bounded j listed) (j + 1) (ascends lower j) (w.lower_slot j listed apart))

          pub row_lower : Loaded w.s w.n w.target i (take (q + 1) columns) (set l to (get_or values q nan)) u d
          row_lower = onward _ _ _ (rw lower_is (into_lower w.s w.n w.target i j (take q columns) l u d ascends h (get_or values q nan) (w.entries q inside)
              apart from_one (w.bounded j listed) (w.lower_slot j listed apart)))

        module _ (apart : i < j) (found : (a : SlotAsks stores.upper_side i j) → SlotLeaves to stores.upper_side i j a) where
          upper_is : to ≡ slots_of w.s upper (i - 1) + index_of j (kept w.s upper i)
          unfolding row_upper_asks
          upper_is = slot-index w.s upper i j to (i + 1) (ascends upper i) (found (row_upper_asks apart))

          pub row_upper_inside : to < length u
          row_upper_inside =
              rw upper_is (slot-inside w.s upper w.n (loaded_to w.target i (take q columns)) (loaded_to w.target i (take q columns)) u h.uppers i j
              w.low (at_most (omega arith)) (i + 1) (ascends upper i) (w.upper_slot j listed apart))

          pub row_upper : Loaded w.s w.n w.target i (take (q + 1) columns) l (set u to (get_or values q nan)) d
          row_upper = onward _ _ _ (rw upper_is (into_upper w.s w.n w.target i j (take q columns) l u d ascends h (get_or values q nan) (w.entries q inside)
              apart w.low (at_most (omega arith)) (w.upper_slot j listed apart)))

      pub row_diagonal-inside : i ≤ j → i - 1 < length d
      row_diagonal-inside before = omega (arith, w.low, at_most before, h.size)

      pub row_diagonal : i ≤ j → j ≤ i → Loaded w.s w.n w.target i (take (q + 1) columns) l u (set d (i - 1) (get_or values q nan))
      row_diagonal a b = onward _ _ _ (into_diagonal w.s w.n w.target i j (take q columns) l u d ascends h (get_or values q nan) (w.entries q inside) (omega arith) w.low (at_most a))

  -- all columns are done
  pub row_end : (q : ℕ) (l u d : List Float) → length columns ≤ q → Loaded w.s w.n w.target i (take q columns) l u d → Loaded w.s w.n w.target i columns l u d
  row_end q l u d e h = rw (take_all q columns e) at h

-- ---- the next row

module _ (s : Planning) (n : ℕ) (target : Square Float) (i : ℕ) (columns : List ℕ) (l u d : List Float) (h : Loaded s n target i columns l u d) where
  next_reached : (a b : ℕ) → (a ≡ i → member b columns ≡ true) → reached (suc i) [] a b ≡ true → reached i columns a b ≡ true
  unfolding reached member
  next_reached a b own r =
      by_test (ltb a i)
      (λ e. rw e)
      (λ e. by_test (eqb a i)
      (λ f. rw (e, f) (own (eqb-true a i f)))
      (λ f. absurd (false≢true (sym (rw (le-ltb a (suc i) (omega (arith, ltb-false a i e, eqb-false a i f))) (and-false (eqb a (suc i)))) ∙ r))))

  module _ (absent : (b : ℕ) → member b columns ≡ false → target i b ≡ plus_zero) where
    next_square : (a b : ℕ) → loaded_to target (suc i) [] a b ≡ loaded_to target i columns a b
    unfolding loaded_to reached member
    next_square a b =
        by_test (ltb a i)
        (λ e. rw (e, lt-ltb a (suc i) (omega (arith, ltb-true a i e))))
        (λ e. by_test (eqb a i)
        (λ f. let q : a ≡ i = eqb-true a i f in rw (q, e', eq-eqb i i refl, lt-ltb i (suc i) (omega arith)) (own b))
        (λ f. rw (e, f, le-ltb a (suc i) (omega (arith, ltb-false a i e, eqb-false a i f)), and-false (eqb a (suc i)))))
      where
        e' : ltb i i ≡ false
        e' = le-ltb i i (omega arith)

        own : (c : ℕ) → target i c ≡ cond (member c columns) (target i c) plus_zero
        own c = by_test (member c columns) (λ m. rw m) (λ m. rw m (absent c m))

    -- a row up to n has its diagonal
    pub row_next : (i ≤ n → member i columns ≡ true) → Loaded s n target (suc i) [] l u d
    unfolding at_side
    row_next own = record {
      lowers = shows_same s lower n (loaded_to target i columns) l h.lowers (loaded_to target (suc i) []) (λ k x a b m. next_square x k);
      uppers = shows_same s upper n (loaded_to target i columns) u h.uppers (loaded_to target (suc i) []) (λ k x a b m. next_square k x);
      size = h.size;
      diagonal = λ a low high r. h.diagonal a low high (next_reached a a (λ q. rw q (own (omega arith))) r);
    }
