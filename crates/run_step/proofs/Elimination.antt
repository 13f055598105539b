-- Laws of the elimination of a step: column, rows of U and columns of L together make the reference's square.
use mathlib.Core.Bool.{true}
use mathlib.Core.List.{List, map}
use mathlib.Core.Path.{◌≡◌, refl, sym, ◌∙◌}
use Prim.Native.Nat.{ℕ, suc, ◌*◌, ◌^◌, ◌≤◌, ◌<◌}
use native.Mathlib.Omega.{arith}
use lib.Ieee.{Float}
use lib.ListN.{length}
use Rattle.lists.specs.Sets.{member}
use Rattle.lists.proofs.Order.{ascending-length}
use Rattle.foundation.specs.Plan.{Side, lower, upper}
use Rattle.foundation.specs.PlanCall.{SideStores, PlanStores}
use Rattle.foundation.specs.Reference.{multiplier, eliminated}
use Rattle.foundation.specs.Shown.{at_side}
use Rattle.foundation.specs.Subscripts.{kept}
use Rattle.foundation.proofs.FloatSteps.{zero_plus_zero, eliminated-above}
use Rattle.store_place.specs.Places.{ListAsks, ListAt}
use Rattle.run_slots.specs.Index.{limit}
use Rattle.run_slots.specs.Shows.{Shows, SquareStores, square_stores}
use Rattle.run_slots.proofs.Grid.{above, no_slot_lower}
use Rattle.run_slots.proofs.Lists.{part_of, patched, Lends, list_asks, list_lies, list_shows, list_written, list_lends}
use Rattle.run_slots.proofs.Mapped.{map_cong}
use Rattle.run_slots.proofs.Sound.{updates_count, flags-sound}
use Rattle.run_sides.specs.Side.{divided, SideAsks, SideLeaves}
use Rattle.run_sides.proofs.Steps.{divided_other, divided_column, in_rows, upper_reduction, lower_reduction}
use Rattle.run_column.specs.Column.{ColumnAsks, ColumnLeaves}
use Rattle.run_step.specs.Eliminating.{ElimAsks, ElimLeaves}

module _ (k : ℕ) (q : PlanStores) (z : SquareStores) (copy dense : List Float) (w : ElimAsks k q z copy dense) where
  abbrev L : SideStores
  L = q.lower_side

  abbrev U : SideStores
  U = q.upper_side

  abbrev l : List Float
  l = z.lower_slots

  abbrev u : List Float
  u = z.upper_slots

  -- ---- what is lent

  pub lower_place : length L.subs * 8 < 2 ^ 63 → ListAsks L.starts L.slot_starts k
  lower_place = list_asks w.s lower w.n L w.lowers k w.low w.high

  pub upper_place : length U.subs * 8 < 2 ^ 63 → ListAsks U.starts U.slot_starts k
  upper_place = list_asks w.s upper w.n U w.uppers k w.low w.high

  pub lower_lends : (from to slot next : ℕ) → ListAt L.starts L.slot_starts k from to slot next → length L.subs * 8 < 2 ^ 63 → length l * 8 < 2 ^ 63
      → Lends L l from to slot next
  lower_lends from to slot next at = list_lends w.s lower w.n L w.lowers k w.low w.high from to slot next at w.square l w.shows.lowers

  pub upper_lends : (from to slot next : ℕ) → ListAt U.starts U.slot_starts k from to slot next → length U.subs * 8 < 2 ^ 63 → length u * 8 < 2 ^ 63
      → Lends U u from to slot next
  upper_lends from to slot next at = list_lends w.s upper w.n U w.uppers k w.low w.high from to slot next at w.square u w.shows.uppers

  in_height : (side : Side) (x : ℕ) → member x (kept w.s side k) ≡ true → x ≤ w.height
  in_height side = in_rows w.s w.n w.height w.tall w.grid side k

  kept_few : (side : Side) → length (kept w.s side k) ≤ w.height
  kept_few side =
      let h = w.high in
      let t = w.tall in
      omega (arith, ascending-length (suc k) (suc w.height) (kept w.s side k) (omega arith) (w.grid.ascends side k) (λ i m. omega (arith, in_height side i m)))

  module _ (l_from l_to l_slot l_next : ℕ) (column : ListAt L.starts L.slot_starts k l_from l_to l_slot l_next)
      (u_from u_to u_slot u_next : ℕ) (row : ListAt U.starts U.slot_starts k u_from u_to u_slot u_next) where
    -- the rows of L_k and the columns of U_k
    abbrev rows : List ℕ
    rows = part_of l_from l_to L.subs

    abbrev columns : List ℕ
    columns = part_of u_from u_to U.subs

    rows_are : rows ≡ kept w.s lower k
    rows_are = (list_lies w.s lower w.n L w.lowers k w.low w.high l_from l_to l_slot l_next column).opens

    columns_are : columns ≡ kept w.s upper k
    columns_are = (list_lies w.s upper w.n U w.uppers k w.low w.high u_from u_to u_slot u_next row).opens

    -- ---- the column

    pub column_asks : ColumnAsks (part_of l_slot l_next l) rows columns (part_of u_slot u_next u) z.diagonal z.right_side k
    unfolding at_side limit
    column_asks =
        record {
          n = w.n;
          height = w.height;
          square = w.square;
          right = w.right;
          low = w.low;
          high = w.high;
          few = w.few;
          tall = w.tall;
          rows_few = w.rows_few;
          rows_ascend = rw rows_are (w.grid.ascends lower k);
          rows-bounded = rw rows_are (w.grid.bounded lower k);
          columns_ascend = rw columns_are (w.grid.ascends upper k);
          columns-bounded = rw columns_are (w.grid.bounded upper k);
          within = rw (rows_are, columns_are) (w.grid.lower_in_upper k);
          part_is = rw rows_are (list_shows w.s lower w.n L w.lowers k w.low w.high l_from l_to l_slot l_next column w.square l w.shows.lowers);
          row_is = rw columns_are (list_shows w.s upper w.n U w.uppers k w.low w.high u_from u_to u_slot u_next row w.square u w.shows.uppers);
          diagonal = w.shows.diagonal;
          rights = w.shows.rights;
          others = rw rows_are (λ i a m. rw (w.held.outside i k (no_slot_lower w.s i k a m)) zero_plus_zero);
        }

    module _ (part' d' x' : List Float) (f1 c1 : ℕ)
        (made : (v : ColumnAsks (part_of l_slot l_next l) rows columns (part_of u_slot u_next u) z.diagonal z.right_side k)
        → ColumnLeaves (part_of l_slot l_next l) rows columns (part_of u_slot u_next u) z.diagonal z.right_side k part' d' x' f1 c1 v) where
      column_left : ColumnLeaves (part_of l_slot l_next l) rows columns (part_of u_slot u_next u) z.diagonal z.right_side k part' d' x' f1 c1 column_asks
      column_left = made column_asks

      multipliers : part' ≡ map (multiplier k w.square) (kept w.s lower k)
      unfolding column_asks
      multipliers = rw rows_are at column_left.part_is

      -- L shows the square with its column divided
      pub divided-shows : Shows w.s lower w.n (divided k w.square) (patched l_slot l_next part' l)
      unfolding at_side
      divided-shows =
          list_written w.s lower w.n L w.lowers k w.low w.high l_from l_to l_slot l_next column w.square l w.shows.lowers (divided k w.square)
          (λ j i a b ne m. divided_other k w.square i j ne) part'
          (multipliers ∙ map_cong _ _ (kept w.s lower k) (λ i m. sym (divided_column k w.square i (above w.s w.n w.height w.grid lower k i m))))

      -- ---- the rows of U

      factors_are : part_of l_slot l_next (patched l_slot l_next part' l) ≡ map (multiplier k w.square) (kept w.s lower k)
      unfolding at_side
      factors_are =
          list_shows w.s lower w.n L w.lowers k w.low w.high l_from l_to l_slot l_next column (divided k w.square) (patched l_slot l_next part' l) divided-shows
          ∙ map_cong _ _ (kept w.s lower k) (λ i m. divided_column k w.square i (above w.s w.n w.height w.grid lower k i m))

      pub upper_asks : SideAsks u U rows (part_of l_slot l_next (patched l_slot l_next part' l)) copy dense k
      unfolding at_side
      upper_asks =
          record {
            s = w.s;
            side = upper;
            n = w.n;
            height = w.height;
            old = w.square;
            new = eliminated k w.square;
            low = w.low;
            high = w.high;
            tall = w.tall;
            index = w.uppers;
            shows = w.shows.uppers;
            room = w.dense_size;
            fits = rw w.copy_size (kept_few upper);
            bounded = in_height upper;
            reduction = λ values store v s. rw rows_are (upper_reduction w.s w.n w.height w.tall w.grid w.square w.held k (part_of l_slot l_next (patched l_slot l_next part' l)) values store factors_are v s);
          }

      module _ (u' : List Float) (f2 : ℕ)
          (uppers : (v : SideAsks u U rows (part_of l_slot l_next (patched l_slot l_next part' l)) copy dense k)
          → SideLeaves u U rows (part_of l_slot l_next (patched l_slot l_next part' l)) copy dense k f1 u' f2 v) where
        uppers_show : Shows w.s upper w.n (eliminated k w.square) u'
        unfolding upper_asks
        uppers_show = (uppers upper_asks).shows

        -- ---- the columns of L

        row_is : part_of u_slot u_next u' ≡ map (λ j. w.square k j) (kept w.s upper k)
        unfolding at_side
        row_is =
            list_shows w.s upper w.n U w.uppers k w.low w.high u_from u_to u_slot u_next row (eliminated k w.square) u' uppers_show
            ∙ map_cong _ _ (kept w.s upper k) (λ j m. eliminated-above k w.square k j (omega arith))

        module _ (copy' dense' : List Float) (copy_same : length copy' ≡ length copy) (dense_same : length dense' ≡ length dense) where
          pub lower_asks : SideAsks (patched l_slot l_next part' l) L columns (part_of u_slot u_next u') copy' dense' k
          unfolding at_side
          lower_asks =
              record {
                s = w.s;
                side = lower;
                n = w.n;
                height = w.height;
                old = divided k w.square;
                new = eliminated k w.square;
                low = w.low;
                high = w.high;
                tall = w.tall;
                index = w.lowers;
                shows = divided-shows;
                room = dense_same ∙ w.dense_size;
                fits = rw (copy_same, w.copy_size) (kept_few lower);
                bounded = in_height lower;
                reduction = λ values store v s. rw columns_are (lower_reduction w.s w.n w.height w.tall w.grid w.square w.held k (part_of u_slot u_next u') values store row_is v s);
              }

          -- ---- all together

          pub elim_leaves : (l' : List Float) (f3 : ℕ)
              → ((v : SideAsks (patched l_slot l_next part' l) L columns (part_of u_slot u_next u') copy' dense' k)
              → SideLeaves (patched l_slot l_next part' l) L columns (part_of u_slot u_next u') copy' dense' k f2 l' f3 v)
              → ElimLeaves k q z copy dense (square_stores l' u' d' x') f3 c1 w
          unfolding column_asks upper_asks lower_asks
          elim_leaves l' f3 lowers =
              let low_left = lowers lower_asks in
              record {
                shows = record { lowers = low_left.shows; uppers = uppers_show; diagonal = column_left.diagonal; rights = column_left.rights };
                flags = flags-sound w.s w.n w.height w.grid w.square w.held k w.right w.right_sound
                    _ _ f1 f2 f3 refl refl (rw rows_are at column_left.flags) (rw rows_are at (uppers upper_asks).flags) (rw columns_are at low_left.flags);
                counts = rw (rows_are, columns_are) at column_left.counts ∙ sym (updates_count w.s w.n w.height w.grid w.square w.held k);
                few = column_left.few;
              }
