-- Back substitution row by row: what the index stores and the slots of a row give, and how the rows that are done hand over to the next.
use mathlib.Core.Bool.{true, false}
use mathlib.Core.List.{List, map}
use mathlib.Core.Path.{◌≡◌, refl, sym, ap, ◌∙◌}
use Prim.Native.Nat.{ℕ, suc, ◌+◌, ◌-◌, ◌*◌, ◌^◌, ◌≤◌, ◌<◌}
use native.Mathlib.Omega.{arith}
use lib.Ieee.{Float, nan, fin, binary64, sub, ne}
use lib.IntN.{pos}
use lib.ListN.{length, get_or, set, length-map}
use borrow.Author.Tests.{not-true, not-false}
use Rattle.lists.specs.Functions.{update}
use Rattle.lists.specs.Sets.{run, upto}
use Rattle.lists.proofs.Order.{member-low, ascending-upto}
use Rattle.lists.proofs.Places.{length-upto, length-map_run, get_or_run, member_at, update_same, update_other, map-upto_at}
use Rattle.foundation.specs.Numbers.{finite, quotient}
use Rattle.foundation.specs.Plan.{upper}
use Rattle.foundation.specs.PlanCall.{SideStores}
use Rattle.foundation.specs.Reference.{Going, going, stopped, notFinite, back, solved_row}
use Rattle.foundation.specs.Shown.{at_side, shown_diagonal}
use Rattle.foundation.specs.Subscripts.{kept}
use Rattle.foundation.proofs.FloatSteps.{zero_plus_zero}
use Rattle.store_place.specs.Places.{ListAsks, ListAt}
use Rattle.run_slots.specs.Handing.{SolveAsks}
use Rattle.run_slots.specs.Index.{limit}
use Rattle.run_slots.proofs.Floats.{self_difference}
use Rattle.run_slots.proofs.Grid.{no_slot_upper}
use Rattle.run_slots.proofs.Mapped.{set-map}
use Rattle.run_slots.proofs.Lists.{part_of, Lends, list_asks, list_lies, list_shows, list_lends}
use Rattle.run_solve.specs.Rows.{less_all, Columns}
use Rattle.run_solve.proofs.Rows.{solved-sound, solved-value}

pub solution_size : (f : ℕ → Float) (n : ℕ) (x : List Float) → x ≡ map f (upto n) → length x ≡ n
unfolding upto
solution_size f n x e = rw e (length-map_run f 1 n)

-- and changed at a place
mapped_set : (f : ℕ → Float) (n i : ℕ) (v : Float) → 1 ≤ i → i ≤ n → set (map f (upto n)) (i - 1) v ≡ map (update f i v) (upto n)
unfolding upto
mapped_set f n i v low high =
    let at : get_or (run 1 n) (i - 1) 0 ≡ i = let e : 1 + (i - 1) ≡ i = omega arith in get_or_run 1 n (i - 1) 0 (omega arith) ∙ e in
    let size : i - 1 < length (run 1 n) = rw (length-upto n) (omega arith) in
    set-map 1 f (update f i v) (run 1 n) (i - 1) v (ascending-upto n) size (rw at (update_same f i v)) (λ x m other. update_other f i v x (λ q. other (q ∙ sym at)))

module _ (n : ℕ) (stores : SideStores) (u d x₀ : List Float) (w : SolveAsks n stores u d x₀) where
  pub diagonal_size : length d ≡ n
  unfolding upto shown_diagonal
  diagonal_size = rw w.diagonal (length-map_run _ 1 n)

  module _ (i : ℕ) (low : 1 ≤ i) (high : i ≤ n) where
    abbrev list : List ℕ
    list = kept w.s upper i

    pub row_place : length stores.subs * 8 < 2 ^ 63 → ListAsks stores.starts stores.slot_starts i
    row_place = list_asks w.s upper n stores w.index i low high

    module _ (from to slot next : ℕ) (at : ListAt stores.starts stores.slot_starts i from to slot next) where
      pub row_lends : length stores.subs * 8 < 2 ^ 63 → length u * 8 < 2 ^ 63 → Lends stores u from to slot next
      row_lends = list_lends w.s upper n stores w.index i low high from to slot next at w.g.square u w.uppers

      -- the row's slots are its numbers right of the diagonal
      row_values : part_of slot next u ≡ map (w.g.square i) list
      unfolding at_side
      row_values = list_shows w.s upper n stores w.index i low high from to slot next at w.g.square u w.uppers

      row_columns : part_of from to stores.subs ≡ list
      row_columns = (list_lies w.s upper n stores w.index i low high from to slot next at).opens

      -- what a row asks for
      pub row_asks : (size : ℕ) → n ≤ size → (length (part_of slot next u) ≡ length (part_of from to stores.subs))
          × Columns size (part_of from to stores.subs)
      unfolding limit
      row_asks size room =
          rw (row_values, row_columns) (
            length-map list (w.g.square i),
            λ q l.
                let m = member_at q list l in
                let a : suc i ≤ get_or list q 0 = member-low (get_or list q 0) (suc i) list (w.grid.ascends upper i) m in
                let b = w.grid.bounded upper i (get_or list q 0) m in
                (omega arith, omega arith),
          )

      -- a row solved from its slots is the reference's
      pub row_solved : (right : ℕ → Float) (x : List Float) → x ≡ map right (upto n) → (value : Float)
          → value ≡ quotient (less_all (part_of slot next u) (part_of from to stores.subs) x (get_or x (i - 1) nan)) (get_or d (i - 1) nan)
          → value ≡ (solved_row n w.g.square right i).value
      unfolding shown_diagonal limit
      row_solved right x e value is =
          is
          ∙ rw (row_values, row_columns, e, w.diagonal, map-upto_at right n i nan low high, map-upto_at (λ k. w.g.square k k) n i nan low high)
          (solved-value n w.g.square right i list (w.grid.ascends upper i) (w.grid.bounded upper i)
          (λ j l m. rw (w.outside i j (no_slot_upper w.s i j (omega arith) m)) zero_plus_zero))

-- ---- row after row

-- a run with another right side
unfoldable pub with_right : Going → (ℕ → Float) → Going
with_right g right = record { square = g.square; right = right; pivots = g.pivots; updates = g.updates }

back_goes : (n i : ℕ) (g : Going) (right : ℕ → Float) → (solved_row n g.square right (suc i)).sound ≡ true
    → back n (suc i) (with_right g right) ≡ back n i (with_right g (update right (suc i) (solved_row n g.square right (suc i)).value))
unfolding back with_right
back_goes n i g right e = rw e

back_stops : (n i : ℕ) (g : Going) (right : ℕ → Float) → (solved_row n g.square right (suc i)).sound ≡ false → back n (suc i) (with_right g right) ≡ stopped notFinite (suc i)
unfolding back with_right
back_stops n i g right e = rw e

module _ (n : ℕ) (stores : SideStores) (u d x₀ : List Float) (w : SolveAsks n stores u d x₀) where
  -- The rows above i are still to be solved: x has the right side of a run from which back substitution goes on as from the whole one.
  pub record Solving (x : List Float) (i : ℕ) : Type 0 where
    pub right : ℕ → Float
    pub rights : x ≡ map right (upto n)
    pub rest : back n n w.g ≡ back n i (with_right w.g right)

  pub solving_start : Solving x₀ n
  unfolding with_right
  solving_start = record { right = w.g.right; rights = w.rights; rest = refl }

  module _ (x : List Float) (i : ℕ) (h : Solving x i) (low : 1 ≤ i) (high : i ≤ n) (value : Float)
      (is : value ≡ (solved_row n w.g.square h.right i).value) where
    sound_is : (solved_row n w.g.square h.right i).sound ≡ finite value
    sound_is = solved-sound n w.g.square h.right i (w.sound i i) ∙ ap finite (sym is)

    pub solving_turn : ne (sub binary64 value value) (fin false 0 (pos 0)) ≡ false → Solving (set x (i - 1) value) (i - 1)
    unfolding ne
    solving_turn t =
        let e : suc (i - 1) ≡ i = omega arith in
        let f : finite value ≡ true = sym (self_difference value) ∙ not-false _ t in
        record {
          right = update h.right i value;
          rights = rw h.rights (mapped_set h.right n i value low high);
          rest = h.rest ∙ (rw (e, ← is) at (back_goes n (i - 1) w.g h.right (rw e (sound_is ∙ f))));
        }

    pub solving_stop : ne (sub binary64 value value) (fin false 0 (pos 0)) ≡ true → back n n w.g ≡ stopped notFinite i
    unfolding ne
    solving_stop t =
        let e : suc (i - 1) ≡ i = omega arith in
        let f : finite value ≡ false = sym (self_difference value) ∙ not-true _ t in
        h.rest ∙ (rw e at (back_stops n (i - 1) w.g h.right (rw e (sound_is ∙ f))))

  pub solving_end : (x : List Float) (i : ℕ) → Solving x i → i ≤ 0 → (h : Going) × (back n n w.g ≡ going h) × (x ≡ map h.right (upto n))
  unfolding back with_right
  solving_end x i h l = let e : i ≡ 0 = omega arith in (with_right w.g h.right, rw e at h.rest, h.rights)
