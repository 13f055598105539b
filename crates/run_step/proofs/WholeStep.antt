-- Laws of a step as a whole: from where the run stands before it to where it stands afterwards, or why it stops.
use mathlib.Core.Bool.{Bool, true, false}
use mathlib.Core.List.{List}
use mathlib.Core.Logic.{⊎_elim}
use mathlib.Core.Path.{◌≡◌, refl, sym, ap, ◌∙◌}
use Prim.Native.Nat.{ℕ, zero, suc, ◌-◌, ◌*◌, ◌^◌, ◌≤◌, ◌<◌}
use native.Mathlib.Decide.{dec_lt}
use native.Mathlib.Omega.{arith}
use lib.Dec.{leb}
use lib.Ieee.{Float, nan}
use lib.ListN.{length, get_or}
use Rattle.lists.proofs.Members.{by_test}
use Rattle.lists.proofs.Places.{length-map-upto, map-upto_at}
use Rattle.foundation.specs.Numbers.{plus_zero, finite, may_pivot}
use Rattle.foundation.specs.Pattern.{Pattern}
use Rattle.foundation.specs.Plan.{lower}
use Rattle.foundation.specs.PlanCall.{SideStores, PlanStores}
use Rattle.foundation.specs.Reference.{Choice, pivot_row, eliminated, exchanged_right, stepped, sound_step, sound_with}
use Rattle.foundation.specs.RunCall.{choice_fits}
use Rattle.foundation.specs.Shown.{at_side, shown_diagonal}
use Rattle.foundation.specs.Slots.{has_slot}
use Rattle.foundation.specs.Square.{Square, exchanged}
use Rattle.foundation.specs.Subscripts.{kept}
use Rattle.foundation.proofs.FloatSteps.{pivot_found}
use Rattle.store_place.specs.Places.{ListAsks, ListAt}
use Rattle.run_slots.specs.Flags.{flagged}
use Rattle.run_slots.specs.Handing.{StepAsks, StepLeaves}
use Rattle.run_slots.specs.Index.{limit}
use Rattle.run_slots.specs.Shows.{SquareStores, ShowsAll, InSlots, Stands}
use Rattle.run_slots.specs.declared.StepEnd.TheVariants.{Went}
use Rattle.run_slots.proofs.Exchange.{outside-before, outside-after, held_next, pivot_listed, exchanged-outside}
use Rattle.run_slots.proofs.Grid.{no_slot_lower}
use Rattle.run_slots.proofs.Lists.{part_of, Lends, list_asks, list_lies, list_shows, list_lends}
use Rattle.run_slots.proofs.Sound.{kept_next, right_next}
use Rattle.run_pivot.specs.Pivot.{PivotAsks, PivotLeaves}
use Rattle.run_step.specs.Bringing.{BringAsks}
use Rattle.run_step.specs.Eliminating.{ElimAsks, ElimLeaves}
use Rattle.run_step.proofs.PivotRow.{exchanged_self}

-- ---- small laws

-- a row that is found lies from k on and may serve
serves : (p : Pattern) (choice : Choice) → choice_fits p choice ≡ true → (k : ℕ) → 1 ≤ k → k ≤ p.n → (entry : ℕ → Float) (r : ℕ) → r ≡ pivot_row choice p.height k entry
    → (r ≡ 0 → ⊥) → (k ≤ r) × (may_pivot (entry r) ≡ true)
serves p choice fits zero low high entry r e some = absurd (omega arith)
serves p choice fits (suc t) low high entry r e some =
    let (from, to, may) = pivot_found p choice fits t (omega arith) entry r (sym e) (omega (arith, some)) in (from, may)

flag-down : (b : Bool) (flag : ℕ) → flag ≡ flagged 0 b → flag ≡ 0 → b ≡ true
unfolding flagged
flag-down true flag e z = refl
flag-down false flag e z = absurd (omega arith)

flag_up : (b : Bool) (flag : ℕ) → flag ≡ flagged 0 b → (flag ≡ 0 → ⊥) → b ≡ false
unfolding flagged
flag_up true flag e z = absurd (z e)
flag_up false flag e z = refl

-- an exchange of finite numbers leaves finite numbers
exchanged-sound : (k p : ℕ) (square : Square Float) → ((i j : ℕ) → finite (square i j) ≡ true) → (i j : ℕ) → finite (exchanged k p square i j) ≡ true
unfolding exchanged
exchanged-sound k p square h i j = by_test (leb k j) (λ e. rw e (h _ j)) (λ e. rw e (h i j))

module _ (k row : ℕ) (q : PlanStores) (z : SquareStores) (copy dense : List Float) (w : StepAsks k row q z copy dense) where
  abbrev L : SideStores
  L = q.lower_side

  abbrev l : List Float
  l = z.lower_slots

  -- ---- the pivot row

  out : (i j : ℕ) → has_slot w.s i j ≡ false → w.g.square i j ≡ plus_zero
  out = outside-before w.p w.s w.layout.closed k w.low w.g w.stands.held

  pub lower_place : length L.subs * 8 < 2 ^ 63 → ListAsks L.starts L.slot_starts k
  lower_place = list_asks w.s lower w.n L w.layout.lowers k w.low w.high

  pub own-inside : k - 1 < length z.diagonal
  unfolding shown_diagonal
  own-inside =
      let a = w.low in
      let b = w.high in
      omega (arith, ap length w.stands.shows.diagonal ∙ length-map-upto (λ i. w.g.square i i) w.n)

  module _ (from to slot next : ℕ) (column : ListAt L.starts L.slot_starts k from to slot next) where
    -- the rows of L_k
    abbrev rows : List ℕ
    rows = part_of from to L.subs

    pub lower_lends : length L.subs * 8 < 2 ^ 63 → length l * 8 < 2 ^ 63 → Lends L l from to slot next
    lower_lends = list_lends w.s lower w.n L w.layout.lowers k w.low w.high from to slot next column w.g.square l w.stands.shows.lowers

    rows_are : rows ≡ kept w.s lower k
    rows_are = (list_lies w.s lower w.n L w.layout.lowers k w.low w.high from to slot next column).opens

    pub pivot_asks : PivotAsks k row (get_or z.diagonal (k - 1) nan) (part_of slot next l) rows
    unfolding at_side shown_diagonal limit
    pivot_asks =
        record {
          p = w.p;
          n = w.n;
          choice = w.choice;
          entry = λ i. w.g.square i k;
          width = w.layout.width;
          tall = w.layout.tall;
          fits = w.fits;
          low = w.low;
          high = w.high;
          row_is = w.row_is;
          own_is = sym (ap (λ (zs : List Float). get_or zs (k - 1) nan) w.stands.shows.diagonal ∙ map-upto_at (λ i. w.g.square i i) w.n k nan w.low w.high);
          slots_are = rw rows_are (list_shows w.s lower w.n L w.layout.lowers k w.low w.high from to slot next column w.g.square l w.stands.shows.lowers);
          ascends = rw rows_are (w.layout.grid.ascends lower k);
          bounded = rw rows_are (w.layout.grid.bounded lower k);
          outside = rw rows_are (λ i a b m. out i k (no_slot_lower w.s i k a m));
          sound = λ i. w.stands.sound i k;
        }

    module _ (r place : ℕ)
        (found : (v : PivotAsks k row (get_or z.diagonal (k - 1) nan) (part_of slot next l) rows)
        → PivotLeaves r place k row (get_or z.diagonal (k - 1) nan) (part_of slot next l) rows v) where
      row_is : r ≡ pivot_row w.choice w.p.height k (λ i. w.g.square i k)
      unfolding pivot_asks
      row_is = (found pivot_asks).is

      pub no_pivot : r ≡ 0 → pivot_row w.choice w.p.height k (λ i. w.g.square i k) ≡ 0
      no_pivot e = sym row_is ∙ e

      module _ (some : r ≡ 0 → ⊥) where
        reaches : (k ≤ r) × (may_pivot (w.g.square r k) ≡ true)
        reaches = serves w.p w.choice w.fits k w.low (rw w.layout.width w.high) (λ i. w.g.square i k) r row_is some

        after : (i j : ℕ) → has_slot w.s i j ≡ false → eliminated k (exchanged k r w.g.square) i j ≡ plus_zero
        after = outside-after w.p w.s w.layout.closed k w.low w.g w.stands.held w.p.height w.n r reaches.0 reaches.1

        stays : (i j : ℕ) → has_slot w.s i j ≡ false → exchanged k r w.g.square i j ≡ plus_zero
        stays i j e = elim (dec_lt k r) [
          | yes b ↦ exchanged-outside w.s w.n w.p.height w.layout.grid w.g.square k r out after b
              (pivot_listed w.p w.s w.layout.closed k w.low w.g w.stands.held w.p.height w.n r reaches.0 reaches.1 b) i j e
          | no b ↦ let same : r ≡ k = omega (arith, reaches.0) in rw same (exchanged_self k w.g.square i j) ∙ out i j e
        ]

        pub bring_asks : BringAsks k r place q z
        unfolding pivot_asks
        bring_asks =
            record {
              p = w.p;
              s = w.s;
              n = w.n;
              square = w.g.square;
              right = w.g.right;
              layout = w.layout;
              low = w.low;
              high = w.high;
              found_at = ⊎_elim (λ e. absurd (some e)) (λ t. rw rows_are at t) (found pivot_asks).found_at;
              shows = w.stands.shows;
              outside = out;
              stays = stays;
            }

        -- ---- the elimination

        held_there : InSlots w.s (exchanged k r w.g.square)
        held_there = record { outside = stays; sound = exchanged-sound k r w.g.square w.stands.sound }

        right_there : (i : ℕ) → finite (exchanged_right k r w.g.right i) ≡ true
        unfolding exchanged_right
        right_there i = w.stands.right_sound _

        module _ (z' : SquareStores)
            (brought : (v : BringAsks k r place q z)
            → ShowsAll v.s v.n v.p.height (exchanged k r v.square) (exchanged_right k r v.right) z') where
          pub elim_asks : ElimAsks k q z' copy dense
          unfolding bring_asks
          elim_asks =
              record {
                s = w.s;
                n = w.n;
                height = w.p.height;
                square = exchanged k r w.g.square;
                right = exchanged_right k r w.g.right;
                low = w.low;
                high = w.high;
                few = w.layout.few;
                tall = w.layout.tall;
                rows_few = w.layout.rows_few;
                lowers = w.layout.lowers;
                uppers = w.layout.uppers;
                grid = w.layout.grid;
                shows = brought bring_asks;
                held = held_there;
                right_sound = right_there;
                copy_size = w.copy_size;
                dense_size = w.dense_size;
              }

          -- ---- the end

          module _ (z'' : SquareStores) (flag updates : ℕ)
              (made : (v : ElimAsks k q z' copy dense)
              → ElimLeaves k q z' copy dense z'' flag updates v) where
            flag_is : flag ≡ flagged 0 (sound_step w.p.height w.n k (exchanged k r w.g.square) (exchanged_right k r w.g.right))
            unfolding elim_asks
            flag_is = (made elim_asks).flags

            pub not_finite : (flag ≡ 0 → ⊥) → (t : ℕ) × (pivot_row w.choice w.p.height k (λ i. w.g.square i k) ≡ suc t) × (sound_with w.p.height w.n k (suc t) w.g ≡ false)
            unfolding sound_with
            not_finite up =
                let e : r ≡ suc (r - 1) = omega (arith, reaches.0, w.low) in
                (r - 1, sym row_is ∙ e, rw (← e) (flag_up _ flag flag_is up))

            module _ (down : flag ≡ 0) where
              sound : sound_step w.p.height w.n k (exchanged k r w.g.square) (exchanged_right k r w.g.right) ≡ true
              sound = flag-down _ flag flag_is down

              stands_next : Stands w.p w.s w.n (suc k) (stepped w.p.height w.n k r w.g) z''
              unfolding stepped elim_asks
              stands_next =
                  record {
                    shows = (made elim_asks).shows;
                    held = held_next w.p w.s w.layout.closed k w.low w.g w.stands.held w.p.height w.n r reaches.0 reaches.1;
                    sound = (kept_next w.s w.n w.p.height w.layout.grid (exchanged k r w.g.square) held_there k (exchanged_right k r w.g.right) right_there after sound).sound;
                    right_sound = right_next w.s w.n w.p.height w.layout.grid (exchanged k r w.g.square) held_there k (exchanged_right k r w.g.right) right_there sound;
                  }

              pub went : StepLeaves (Went r updates) k row q z copy dense z'' w
              unfolding sound_with elim_asks
              went = (omega (arith, reaches.0, w.low), sym row_is, sound, (made elim_asks).counts, (made elim_asks).few, stands_next)
