-- The exchange put together: what each call finds and leaves, in the order of the code.
use mathlib.Core.Bool.{true}
use mathlib.Core.List.{List, map}
use mathlib.Core.Path.{◌≡◌, refl, sym, ap, ◌∙◌}
use Prim.Native.Nat.{ℕ, ◌+◌, ◌-◌, ◌*◌, ◌^◌, ◌≤◌, ◌<◌}
use native.Mathlib.Omega.{arith}
use lib.Ieee.{Float, nan}
use lib.ListN.{length, get_or, drop, set}
use lib.Seq.{get_or-take, get_or-drop}
use Rattle.lists.specs.Sets.{member, upto}
use Rattle.lists.proofs.Places.{member_at}
use Rattle.foundation.specs.Plan.{Planning, lower, upper}
use Rattle.foundation.specs.PlanCall.{SideStores, PlanStores}
use Rattle.foundation.specs.Square.{Square}
use Rattle.foundation.specs.Subscripts.{kept}
use Rattle.store_place.specs.Places.{ListAsks, ListAt}
use Rattle.run_slots.specs.Index.{limit}
use Rattle.run_slots.specs.Lists.{SlotOf}
use Rattle.run_slots.specs.Shows.{SquareStores, square_stores, ShowsAll}
use Rattle.run_slots.proofs.Grid.{above}
use Rattle.run_slots.proofs.Lists.{part_of, ListLies, list_asks, list_lies, list_within}
use Rattle.run_exchange.specs.Behind.{BehindAsks, BehindLeaves}
use Rattle.run_exchange.specs.Exchange.{row_at, ExchangeAsks, ExchangeLeaves}
use Rattle.run_swap.specs.Swapping.{Swapped, BeforeAsks, BeforeLeaves}
use Rattle.run_swap.proofs.Columns.{first_column}
use Rattle.run_swap.proofs.Puts.{lower_inside, diagonal_size, rights_size}
use Rattle.run_exchange.proofs.Rights.{right_exchanged, exchange_done}

with_right_lem : (s : Planning) (n height : ℕ) (square : Square Float) (right right' : ℕ → Float) (l u d x x' : List Float)
    → ShowsAll s n height square right (square_stores l u d x) → x' ≡ map right' (upto height) → ShowsAll s n height square right' (square_stores l u d x')
with_right_lem s n height square right right' l u d x x' h e = record { lowers = h.lowers; uppers = h.uppers; diagonal = h.diagonal; rights = e }

-- ---- the row that comes up

module _ (k place : ℕ) (stores : PlanStores) (z : SquareStores) (w : ExchangeAsks k place stores z) where
  abbrev lowers : SideStores
  lowers = stores.lower_side

  abbrev uppers : SideStores
  uppers = stores.upper_side

  row_has : member (row_at w.s k place) (kept w.s lower k) ≡ true
  row_has = member_at place (kept w.s lower k) w.inside

  row_above : k < row_at w.s k place
  row_above = above w.s w.n w.p.height w.layout.grid lower k (row_at w.s k place) row_has

  row_last : row_at w.s k place ≤ w.p.height
  unfolding limit
  row_last = w.layout.grid.bounded lower k (row_at w.s k place) row_has

  pub column_place : length lowers.subs * 8 < 2 ^ 63 → ListAsks lowers.starts lowers.slot_starts k
  column_place = list_asks w.s lower w.n lowers w.layout.lowers k w.low w.high

  pub row_place : length uppers.subs * 8 < 2 ^ 63 → ListAsks uppers.starts uppers.slot_starts k
  row_place = list_asks w.s upper w.n uppers w.layout.uppers k w.low w.high

  pub diagonal_in : k - 1 < length z.diagonal
  diagonal_in = omega (arith, diagonal_size w.s w.n w.p.height w.square w.right z w.shows, w.high, w.low)

  -- ---- L_k is open

  module _ (from to slot next : ℕ) (column : ListAt lowers.starts lowers.slot_starts k from to slot next) where
    column_lies : ListLies w.s lower lowers k from to slot next
    column_lies = list_lies w.s lower w.n lowers w.layout.lowers k w.low w.high from to slot next column

    pub cell_in : from + place < length lowers.subs
    cell_in = omega (arith, column_lies.size, column_lies.ends, w.inside)

    pub p_is : get_or lowers.subs (from + place) 0 ≡ row_at w.s k place
    p_is =
        let inside : place < to - from = omega (arith, column_lies.size, w.inside) in
        sym (get_or-take (to - from) (drop from lowers.subs) place 0 inside ∙ get_or-drop from lowers.subs place 0) ∙ ap (λ (zs : List ℕ). get_or zs place 0) column_lies.opens

    slot_p : SlotOf w.s lower k (row_at w.s k place) (slot + place)
    slot_p = record { at = place; inside = w.inside; member_is = refl; is = rw column_lies.slot_is }

    pub slot_in_lem : slot + place < length z.lower_slots
    slot_in_lem =
        lower_inside w.s w.n w.p.height w.square w.right z w.shows (row_at w.s k place) k (slot + place) w.low w.high slot_p

  -- ---- U_k is open

  module _ (start end first past : ℕ) (row : ListAt uppers.starts uppers.slot_starts k start end first past) where
    pub row_lies : ListLies w.s upper uppers k start end first past
    row_lies = list_lies w.s upper w.n uppers w.layout.uppers k w.low w.high start end first past row

    pub row_within : (start ≤ end) × (end ≤ length uppers.subs)
    row_within = list_within w.s upper w.n uppers w.layout.uppers k w.low w.high start end first past row

    us_size : length (part_of start end uppers.subs) ≡ length (kept w.s upper k)
    us_size = ap length row_lies.opens

    pub us_cells : start + length (part_of start end uppers.subs) ≤ length uppers.subs
    us_cells = omega (arith, us_size, row_lies.size, row_lies.ends)

  module _ (p : ℕ) (is : p ≡ row_at w.s k place) where
    pub p_row : member p (kept w.s lower k) ≡ true
    p_row = rw is row_has

    pub p_above : k < p
    p_above = omega (arith, is, row_above)

    p_last : p ≤ w.p.height
    p_last = omega (arith, is, row_last)

    pub p_right : p - 1 < length z.right_side
    p_right = omega (arith, rights_size w.s w.n w.p.height w.square w.right z w.shows, p_above, p_last)

    pub k_right : k - 1 < length z.right_side
    k_right = omega (arith, p_right, p_above)

    -- ---- column k is done

    module _ (from to slot next : ℕ) (column : ListAt lowers.starts lowers.slot_starts k from to slot next) (l₁ d₁ : List Float)
        (diagonal : (d₁ ≡ set z.diagonal (k - 1) (get_or z.lower_slots (slot + place) nan)) × (l₁ ≡ set z.lower_slots (slot + place) (get_or z.diagonal (k - 1) nan)))
        (start end first past : ℕ) (row : ListAt uppers.starts uppers.slot_starts k start end first past) where
      pub begun : Swapped w.s w.n w.p.height k p 0 w.square w.right (square_stores l₁ z.upper_slots d₁ z.right_side)
      begun =
          rw (diagonal.0, diagonal.1)
          (first_column w.s w.n w.p.height w.layout.grid k p w.square w.right w.low p_row w.high z w.shows (slot + place)
          (rw is (slot_p from to slot next column)))

      abbrev pub before-asks : BeforeAsks (part_of start end uppers.subs) first p lowers l₁ z.upper_slots
      before-asks =
          record {
            s = w.s;
            n = w.n;
            height = w.p.height;
            k = k;
            square = w.square;
            right = w.right;
            d = d₁;
            x = z.right_side;
            grid = w.layout.grid;
            index = w.layout.lowers;
            low = w.low;
            row = p_row;
            us_are = (row_lies start end first past row).opens;
            first_is = (row_lies start end first past row).slot_is;
            swapped = begun;
          }

      -- ---- the columns before p are done

      module _ (t : ℕ) (l₂ u₂ : List Float) (before : (a : BeforeAsks (part_of start end uppers.subs) first p lowers l₁ z.upper_slots)
          → BeforeLeaves t (part_of start end uppers.subs) first p lowers l₁ z.upper_slots l₂ u₂ a) where
        abbrev pub behind-asks : BehindAsks (part_of start end uppers.subs) start first t p uppers u₂ d₁
        behind-asks =
            record {
              s = w.s;
              n = w.n;
              height = w.p.height;
              k = k;
              square = w.square;
              right = w.right;
              l = l₂;
              x = z.right_side;
              grid = w.layout.grid;
              index = w.layout.uppers;
              low = w.low;
              row = p_row;
              us_are = (row_lies start end first past row).opens;
              cells = us_cells start end first past row;
              first_is = (row_lies start end first past row).slot_is;
              inside = (before before-asks).inside;
              at = (before before-asks).at;
              swapped = (before before-asks).swapped;
            }

        -- ---- all columns and the right side are done

        pub whole : (u₃ d₃ x₁ : List Float)
            → ((a : BehindAsks (part_of start end uppers.subs) start first t p uppers u₂ d₁) → BehindLeaves (part_of start end uppers.subs) start first t p uppers u₂ d₁ u₃ d₃ a)
            → x₁ ≡ set (set z.right_side (k - 1) (get_or z.right_side (p - 1) nan)) (p - 1) (get_or z.right_side (k - 1) nan)
            → ExchangeLeaves k place stores z (square_stores l₂ u₃ d₃ x₁) w
        whole u₃ d₃ x₁ behind rights =
            rw (← is)
            (with_right_lem w.s w.n w.p.height _ w.right _ l₂ u₃ d₃ z.right_side x₁
            (exchange_done w.s w.n w.p.height w.layout.grid k p w.square w.right w.outside (rw is w.stays) _ (square_stores l₂ u₃ d₃ z.right_side)
            (omega (arith, us_size start end first past row)) (behind behind-asks))
            (rights ∙ right_exchanged w.right w.p.height k p z.right_side w.shows.rights w.low p_above p_last))
