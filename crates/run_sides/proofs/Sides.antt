-- Laws of a side's part of a step with its work stores: list k copied, laid out, taken off, cleared.
use mathlib.Core.List.{List, map}
use mathlib.Core.Path.{◌≡◌, sym, ap, ◌∙◌}
use Prim.Native.Nat.{ℕ, ◌+◌, ◌-◌, ◌*◌, ◌^◌, ◌≤◌, ◌<◌}
use native.Mathlib.Nat.{sub-zero}
use native.Mathlib.Omega.{arith}
use lib.Ieee.{Float}
use lib.ListN.{length, take, length-map}
use Rattle.foundation.specs.PlanCall.{SideStores}
use Rattle.foundation.specs.Shown.{at_side}
use Rattle.foundation.specs.Subscripts.{kept}
use Rattle.store_place.specs.Places.{ListAsks, ListAt}
use Rattle.run_slots.specs.Handing.{Clear}
use Rattle.run_slots.proofs.Lists.{part_of, ListLies, Lends, list_asks, list_lies, list_shows, list_lends}
use Rattle.run_stretch.specs.Stretches.{Below}
use Rattle.run_sides.specs.Heads.{HeadsAsk, HeadsLeave}
use Rattle.run_stretch.specs.Work.{ClearBut, Spread, Dense}
use Rattle.run_sides.specs.Side.{SideAsks, SideLeaves}

module _ (y : List Float) (stores : SideStores) (heads : List ℕ) (factors copy dense : List Float) (k : ℕ) (w : SideAsks y stores heads factors copy dense k) where
  pub side_place : length stores.subs * 8 < 2 ^ 63 → ListAsks stores.starts stores.slot_starts k
  side_place = list_asks w.s w.side w.n stores w.index k w.low w.high

  module _ (from to slot next : ℕ) (at : ListAt stores.starts stores.slot_starts k from to slot next) where
    -- list k's subscripts
    abbrev own : List ℕ
    own = part_of from to stores.subs

    -- and its numbers, as many as fit in front of the copy
    abbrev front_of : List Float → List Float
    front_of copy = take (next - slot - 0) copy

    lies : ListLies w.s w.side stores k from to slot next
    lies = list_lies w.s w.side w.n stores w.index k w.low w.high from to slot next at

    pub side_lends : length stores.subs * 8 < 2 ^ 63 → length y * 8 < 2 ^ 63 → Lends stores y from to slot next
    side_lends = list_lends w.s w.side w.n stores w.index k w.low w.high from to slot next at w.old y w.shows

    count_is : next - slot ≡ length (kept w.s w.side k)
    count_is = omega (arith, lies.next_is)

    -- the copy has a place for each number of list k, as the code lends it
    pub copy-room : next - slot ≤ length copy
    copy-room = rw count_is w.fits

    part_is : part_of slot next y ≡ map (at_side w.side w.old k) (kept w.s w.side k)
    part_is = list_shows w.s w.side w.n stores w.index k w.low w.high from to slot next at w.old y w.shows

    pub copy-asks : length (part_of slot next y) ≤ length copy
    copy-asks = rw (part_is, length-map (kept w.s w.side k) (at_side w.side w.old k)) w.fits

    below_own : Below (w.height + 1) own
    unfolding Below
    below_own = rw lies.opens (λ x m. omega (arith, w.bounded x m))

    module _ (copy' : List Float) (copied : take (length (part_of slot next y)) copy' ≡ part_of slot next y) where
      pub front_is : front_of copy' ≡ map (at_side w.side w.old k) (kept w.s w.side k)
      front_is =
          let n : length (part_of slot next y) ≡ length (kept w.s w.side k) = rw part_is (length-map (kept w.s w.side k) (at_side w.side w.old k)) in
          rw (sub-zero (next - slot), count_is, ← n) (copied ∙ part_is)

      pub spread_asks : Clear dense → (length (front_of copy') ≡ length own) × Below (length dense) own × Clear dense
      spread_asks c =
          (rw (front_is, lies.opens) (length-map (kept w.s w.side k) (at_side w.side w.old k)), rw w.room below_own, c)

      module _ (dense' : List Float) (same : length dense' ≡ length dense) (laid : Spread own (front_of copy') dense') where
        is_dense : Dense w.height (kept w.s w.side k) (at_side w.side w.old k) dense'
        unfolding Spread
        is_dense =
            let r = w.room in
            record { size = same ∙ r; has = λ x l. rw lies.opens at (laid (at_side w.side w.old k) (front_is ∙ ap (map (at_side w.side w.old k)) (sym lies.opens)) x (omega arith)) }

        pub heads_ask : HeadsAsk y stores heads own factors (front_of copy') dense' from
        heads_ask =
            let size : length (kept w.s w.side k) ≡ to - from = omega (arith, lies.size) in
            record {
              s = w.s;
              side = w.side;
              n = w.n;
              old = w.old;
              new = w.new;
              index = w.index;
              shows = w.shows;
              reduction = rw lies.opens (w.reduction (front_of copy') dense' front_is is_dense);
              inside = rw (lies.opens, ← lies.size) lies.ends;
              opens = rw lies.opens (rw size lies.opens);
            }

        pub clear_at_asks : Below (length dense') own × ClearBut own dense'
        unfolding ClearBut Spread
        clear_at_asks = (
          rw (same, w.room) below_own,
          λ x l e. laid (at_side w.side w.old k) (front_is ∙ ap (map (at_side w.side w.old k)) (sym lies.opens)) x l ∙ rw e,
        )

        pub side-leaves : (flag : ℕ) (y' : List Float) (r : ℕ)
            → ((v : HeadsAsk y stores heads own factors (front_of copy') dense' from) → HeadsLeave y stores heads own factors (front_of copy') dense' from flag y' r v)
            → SideLeaves y stores heads factors copy dense k flag y' r w
        unfolding heads_ask
        side-leaves flag y' r h = record { shows = (h heads_ask).shows; flags = (h heads_ask).flags }
