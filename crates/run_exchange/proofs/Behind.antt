-- Laws of the columns of U_k from p on: none where p is above n, else p itself and those beyond it.
use mathlib.Core.List.{List}
use mathlib.Core.Path.{◌≡◌, refl}
use Prim.Native.Nat.{ℕ, ◌+◌, ◌-◌, ◌*◌, ◌^◌, ◌≤◌, ◌<◌}
use native.Mathlib.Omega.{arith}
use lib.Ieee.{Float, nan}
use lib.ListN.{length, get_or, set}
use Rattle.lists.proofs.Small.{next_le}
use Rattle.foundation.specs.Plan.{lower, upper}
use Rattle.foundation.specs.PlanCall.{SideStores}
use Rattle.foundation.specs.Subscripts.{kept}
use Rattle.store_place.specs.Places.{ListAsks, ListAt}
use Rattle.run_slots.specs.Lists.{SlotOf}
use Rattle.run_slots.specs.Shows.{square_stores}
use Rattle.run_slots.proofs.Grid.{above}
use Rattle.run_slots.proofs.Lists.{part_of, ListLies, list_asks, list_lies, list_within}
use Rattle.run_swap.specs.Swapping.{Swapped, BeyondAsks}
use Rattle.run_swap.proofs.Columns.{column_high, own_column}
use Rattle.run_swap.proofs.Puts.{upper_inside, diagonal_size}
use Rattle.run_exchange.specs.Behind.{BehindAsks, BehindLeaves}

module _ (us : List ℕ) (from first t p : ℕ) (i : SideStores) (u d : List Float) (w : BehindAsks us from first t p i u d) where
  -- all columns lie before p
  pub none_left : t ≡ length us → BehindLeaves us from first t p i u d u d w
  none_left e = rw e at w.swapped

  -- ---- p is one of them

  module _ (there : t < length us) where
    in_row : t < length (kept w.s upper w.k)
    in_row = rw (← w.us_are) there

    at_p : get_or (kept w.s upper w.k) t 0 ≡ p
    at_p = rw w.us_are at (w.at there)

    p_above : w.k < p
    p_above = above w.s w.n w.height w.grid lower w.k p w.row

    p_last : p ≤ w.n
    p_last = rw at_p at (column_high w.s w.n w.height w.grid w.k t in_row)

    pub p_low : 1 ≤ p
    p_low = omega (arith, p_above)

    slot_k : SlotOf w.s upper w.k (get_or (kept w.s upper w.k) t 0) (first + t)
    slot_k = record { at = t; inside = in_row; member_is = refl; is = rw w.first_is }

    pub own_in : first + t < length u
    own_in =
        upper_inside w.s w.n w.height _ w.right (square_stores w.l u d w.x) w.swapped.shows w.k _ (first + t) w.low
        (omega (arith, p_above, p_last)) slot_k

    pub p_in : p - 1 < length d
    p_in =
        omega (arith, diagonal_size w.s w.n w.height _ w.right (square_stores w.l u d w.x) w.swapped.shows, p_above, p_last)

    -- the cell behind p's lies among the subscripts or at their end
    pub cell_next : from + t + 1 ≤ length i.subs
    cell_next = omega (arith, w.cells, there)

    pub other_place : length i.subs * 8 < 2 ^ 63 → ListAsks i.starts i.slot_starts p
    other_place = list_asks w.s upper w.n i w.index p p_low p_last

    -- ---- U_p is open

    module _ (begin close second last : ℕ) (other : ListAt i.starts i.slot_starts p begin close second last) where
      pub other_lies : ListLies w.s upper i p begin close second last
      other_lies = list_lies w.s upper w.n i w.index p p_low p_last begin close second last other

      pub other_within : (begin ≤ close) × (close ≤ length i.subs)
      other_within = list_within w.s upper w.n i w.index p p_low p_last begin close second last other

      -- ---- column p is done

      module _ (u₁ d₁ : List Float) (crossing : (d₁ ≡ set d (p - 1) (get_or u (first + t) nan)) × (u₁ ≡ set u (first + t) (get_or d (p - 1) nan))) where
        pub crossed : Swapped w.s w.n w.height w.k p (t + 1) w.square w.right (square_stores w.l u₁ d₁ w.x)
        crossed =
            rw (crossing.0, crossing.1)
            (own_column w.s w.n w.height w.grid w.k p w.square w.right w.low w.row t in_row (square_stores w.l u d w.x) w.swapped
            (first + t) slot_k at_p)

        pub p_before : get_or us (t + 1 - 1) 0 ≡ p
        p_before = let e : t + 1 - 1 ≡ t = omega arith in rw e (w.at there)

        abbrev pub beyond-asks : BeyondAsks us first (t + 1) (part_of begin close i.subs) second u₁
        beyond-asks =
            record {
              s = w.s;
              n = w.n;
              height = w.height;
              k = w.k;
              p = p;
              square = w.square;
              right = w.right;
              l = w.l;
              d = d₁;
              x = w.x;
              grid = w.grid;
              low = w.low;
              row = w.row;
              us_are = w.us_are;
              first_is = w.first_is;
              own_are = other_lies.opens;
              second_is = other_lies.slot_is;
              some = omega arith;
              within = next_le _ _ there;
              last = p_before;
              swapped = crossed;
            }
