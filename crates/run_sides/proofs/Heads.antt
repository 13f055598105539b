-- Laws of the loop over the heads: the new square on the lists done, the old one on the rest.
use mathlib.Core.Bool.{Bool, true, false, cond, true≢false}
use mathlib.Core.List.{List, [], ◌∷◌, map}
use mathlib.Core.Path.{◌≡◌, refl, sym, ap, ◌∙◌}
use Prim.Native.Nat.{ℕ, zero, suc, ◌+◌, ◌-◌, ◌*◌, ◌^◌, ◌≤◌, ◌<◌}
use native.Mathlib.Decide.{dec_lt}
use native.Mathlib.Omega.{arith}
use lib.Dec.{eqb}
use lib.Ieee.{Float, nan}
use lib.ListN.{length, take, drop, get_or, length-map, length-drop, drop_of_length-le}
use lib.Seq.{take_all, get_or-take, get_or-drop}
use borrow.Author.Tests.{eqb-true, eqb-false}
use Rattle.lists.specs.Functions.{all}
use Rattle.lists.specs.Sets.{member, Ascending, index_of}
use Rattle.lists.proofs.Members.{by_test, fails, member_head, member_tail, not-member-nil, all_snoc, member_snoc, member_snoc_other}
use Rattle.lists.proofs.Order.{member-low, ascending_weaken}
use Rattle.lists.proofs.Places.{ascending_at, member_at, index_at, index_below, not-before, take_more}
use Rattle.foundation.specs.Numbers.{is_zero, finite}
use Rattle.foundation.specs.Plan.{Side, lower, upper}
use Rattle.foundation.specs.PlanCall.{SideStores}
use Rattle.foundation.specs.Reference.{reduced}
use Rattle.foundation.specs.Shown.{at_side}
use Rattle.foundation.specs.Square.{Square}
use Rattle.foundation.specs.Subscripts.{kept}
use Rattle.foundation.proofs.FloatSteps.{reduced_left, reduced_right}
use Rattle.store_place.specs.Places.{ListAsks, ListAt}
use Rattle.run_slots.specs.Flags.{flagged, sound_list}
use Rattle.run_slots.specs.Shows.{Shows}
use Rattle.run_slots.proofs.Flags.{flagged_more}
use Rattle.run_slots.proofs.Lists.{part_of, patched, Lends, list_asks, list_lies, list_shows, list_written, list_lends}
use Rattle.run_slots.proofs.Mapped.{map_cong}
use Rattle.run_slots.proofs.Shows.{shows_same}
use Rattle.run_stretch.specs.Stretches.{UpTo, reduced_all, gathered, Below}
use Rattle.run_stretch.specs.Crossing.{Crossing, SharedCell}
use Rattle.run_sides.specs.Heads.{HeadsAsk, HeadsLeave}
use Rattle.run_stretch.proofs.Reducing.{length-gathered}
use Rattle.run_stretch.proofs.Crossings.{shared_cell}
use Rattle.run_stretch.proofs.Within.{ascending-drop, drop-from, in_drop}

-- the first s members are no greater than any head from t on
unfoldable pub Under : ℕ → ℕ → List ℕ → List ℕ → Type 0
Under t s heads over = (q : ℕ) → t ≤ q → q < length heads → UpTo (get_or heads q 0) s over

pub under_start : (heads over : List ℕ) → Under 0 0 heads over
unfolding Under UpTo
under_start heads over q l u t m = absurd (omega arith)

pub under_next : (b t s : ℕ) (heads over : List ℕ) → Ascending b heads → t < length heads → UpTo (get_or heads t 0) s over → Under (t + 1) s heads over
unfolding Under UpTo
under_next b t s heads over h l up q a u r m = omega (arith, up r m, ascending_at b t q heads h (omega arith) u)

pub under_at : (t s : ℕ) (heads over : List ℕ) → Under t s heads over → t < length heads → UpTo (get_or heads t 0) s over
unfolding Under
under_at t s heads over h l = h t (omega arith) l

-- ---- a square of which some lists are done

unfoldable pub blend : Side → List ℕ → Square Float → Square Float → Square Float
blend lower done new old i j = cond (member j done) (new i j) (old i j)
blend upper done new old i j = cond (member i done) (new i j) (old i j)

at_blend : (side : Side) (done : List ℕ) (new old : Square Float) (l x : ℕ) → at_side side (blend side done new old) l x ≡ cond (member l done) (at_side side new l x) (at_side side old l x)
unfolding blend at_side
at_blend lower done new old l x = refl
at_blend upper done new old l x = refl

all_mapped : (t : Float → Bool) (f : ℕ → Float) (xs : List ℕ) → ((x : ℕ) → member x xs ≡ true → t (f x) ≡ true) → all t (map f xs) ≡ true
unfolding all
all_mapped t f [] h = refl
all_mapped t f (x ∷ xs) h = rw (h x (member_head x xs), all_mapped t f xs (λ z m. h z (member_tail z x xs m)))

-- values of a function taken off values of another
pub reduced_maps : (m : Float) (f g : ℕ → Float) (xs : List ℕ) → reduced_all m (map f xs) (map g xs) ≡ map (λ x. reduced m (f x) (g x)) xs
unfolding reduced_all
reduced_maps m f g [] = refl
reduced_maps m f g (x ∷ xs) = ap (λ (zs : List Float). reduced m (f x) (g x) ∷ zs) (reduced_maps m f g xs)

pub drop-gathered : (dense : List Float) (s : ℕ) (xs : List ℕ) → drop s (gathered dense xs) ≡ gathered dense (drop s xs)
unfolding gathered
drop-gathered dense zero xs = refl
drop-gathered dense (suc s) [] = refl
drop-gathered dense (suc s) (x ∷ xs) = drop-gathered dense s xs

first_left : (over : List ℕ) (s : ℕ) → s < length over → get_or (take (length over - s) (drop s over)) 0 0 ≡ get_or over s 0
first_left over s l =
    let z : s + 0 ≡ s = omega arith in
    get_or-take (length over - s) (drop s over) 0 0 (omega arith) ∙ get_or-drop s over 0 0 ∙ rw z

-- a member of a list whose first s are no greater than i, itself greater, stands behind them
behind : (i s x : ℕ) (ys : List ℕ) → UpTo i s ys → member x ys ≡ true → i < x → member x (drop s ys) ≡ true
unfolding UpTo
behind i s x ys up m l = elim (dec_lt (index_of x ys) s) [
  | yes r ↦ absurd (omega (arith, up (index_of x ys) r, index_at x ys m))
  | no r ↦ rw (index_at x ys m) at (in_drop s (index_of x ys) ys (omega arith) (index_below x ys m))
]

module _ (y₀ : List Float) (stores : SideStores) (heads over : List ℕ) (factors values dense : List Float) (opening : ℕ)
    (w : HeadsAsk y₀ stores heads over factors values dense opening) where
  pub values_length : length values ≡ length over
  values_length = ap length w.reduction.valued ∙ length-gathered dense over

  -- what the loop holds once the first t heads are done
  pub record Partly (flag : ℕ) (y : List Float) (bad t : ℕ) : Type 0 where
    pub shows : Shows w.s w.side w.n (blend w.side (take t heads) w.new w.old) y
    pub flags : bad ≡ flagged flag (all (sound_list w.s w.side w.new) (take t heads))

  pub partly_start : (flag : ℕ) → Partly flag y₀ flag 0
  unfolding flagged all
  partly_start flag = record { shows = shows_same w.s w.side w.n w.old y₀ w.shows (blend w.side [] w.new w.old) (λ l x a b m. at_blend w.side [] w.new w.old l x ∙ nothing l x); flags = refl }
    where
      nothing : (l x : ℕ) → cond (member l []) (at_side w.side w.new l x) (at_side w.side w.old l x) ≡ at_side w.side w.old l x
      nothing l x = rw (fails (member l []) (not-member-nil l))

  pub partly_end : (flag : ℕ) (y : List Float) (bad t : ℕ) → Partly flag y bad t → length heads ≤ t → HeadsLeave y₀ stores heads over factors values dense opening flag y bad w
  partly_end flag y bad t h past =
      let e : take t heads ≡ heads = take_all t heads past in
      record {
        shows = shows_same w.s w.side w.n (blend w.side (take t heads) w.new w.old) y h.shows w.new (λ l x a b m. sym (at_blend w.side (take t heads) w.new w.old l x ∙ rw e (done l x m)));
        flags = h.flags ∙ rw e;
      }
    where
      done : (l x : ℕ) → member x (kept w.s w.side l) ≡ true → cond (member l heads) (at_side w.side w.new l x) (at_side w.side w.old l x) ≡ at_side w.side w.new l x
      done l x m = by_test (member l heads) (λ t. rw t) (λ t. rw t (sym (w.reduction.stays l x t m)))

  module _ (flag : ℕ) (y : List Float) (bad t : ℕ) (h : Partly flag y bad t) (l : t < length heads) where
    -- the square so far differs from the next one in the list of this head alone
    elsewhere : (k x : ℕ) → 1 ≤ k → k ≤ w.n → (k ≡ get_or heads t 0 → ⊥) → member x (kept w.s w.side k) ≡ true
        → at_side w.side (blend w.side (take (t + 1) heads) w.new w.old) k x ≡ at_side w.side (blend w.side (take t heads) w.new w.old) k x
    elsewhere k x a b n m =
        at_blend w.side (take (t + 1) heads) w.new w.old k x ∙ rw (take_more t heads l, member_snoc_other k (get_or heads t 0) (take t heads) n) (sym (at_blend w.side (take t heads) w.new w.old k x))

    here : (x : ℕ) → at_side w.side (blend w.side (take (t + 1) heads) w.new w.old) (get_or heads t 0) x ≡ at_side w.side w.new (get_or heads t 0) x
    here x = at_blend w.side (take (t + 1) heads) w.new w.old (get_or heads t 0) x ∙ rw (take_more t heads l, member_snoc (get_or heads t 0) (take t heads))

    before : (x : ℕ) → at_side w.side (blend w.side (take t heads) w.new w.old) (get_or heads t 0) x ≡ at_side w.side w.old (get_or heads t 0) x
    before x = at_blend w.side (take t heads) w.new w.old (get_or heads t 0) x ∙ rw (not-before 0 t heads w.reduction.once l)

    next_flags : (r : ℕ) → r ≡ flagged bad (sound_list w.s w.side w.new (get_or heads t 0)) → r ≡ flagged flag (all (sound_list w.s w.side w.new) (take (t + 1) heads))
    next_flags r e = e ∙ rw (h.flags, flagged_more, take_more t heads l, all_snoc)

    -- a head whose list stays
    partly_same : ((x : ℕ) → member x (kept w.s w.side (get_or heads t 0)) ≡ true → at_side w.side w.new (get_or heads t 0) x ≡ at_side w.side w.old (get_or heads t 0) x)
        → Partly flag y bad (t + 1)
    unfolding flagged sound_list
    partly_same same = record {
      shows = shows_same w.s w.side w.n (blend w.side (take t heads) w.new w.old) y h.shows (blend w.side (take (t + 1) heads) w.new w.old)
          (λ k x a b m. by_test (eqb k (get_or heads t 0))
          (λ e. let q = eqb-true k (get_or heads t 0) e in rw q (here x ∙ same x (rw q at m) ∙ sym (before x)))
          (λ e. elsewhere k x a b (eqb-false k (get_or heads t 0) e) m));
      flags = next_flags bad (rw (all_mapped finite (at_side w.side w.new (get_or heads t 0)) (kept w.s w.side (get_or heads t 0))
          (λ x m. rw (same x m) (w.reduction.sound (get_or heads t 0) x (member_at t heads l) m))));
    }

    pub partly_zero : is_zero (get_or factors t nan) ≡ true → Partly flag y bad (t + 1)
    partly_zero z = partly_same (λ x m. w.reduction.becomes t x l m ∙ reduced_left _ _ _ z)

    above : (x : ℕ) → member x (kept w.s w.side (get_or heads t 0)) ≡ true → get_or heads t 0 < x
    above x m = omega (arith, member-low x (get_or heads t 0 + 1) (kept w.s w.side (get_or heads t 0)) (w.index.ascends (get_or heads t 0)) m)

    -- a head that the other list does not go beyond
    pub partly_none : (s' : ℕ) → UpTo (get_or heads t 0) s' over → length over ≤ s' → Partly flag y bad (t + 1)
    partly_none s' up past = partly_same (λ x m. w.reduction.becomes t x l m ∙ reduced_right _ _ _ (w.reduction.others (get_or heads t 0) x m
        (fails (member x over) (λ k. not-member-nil x (rw (drop_of_length-le over past) at (behind (get_or heads t 0) s' x over up k (above x m)))))))

    -- the cell of the first common member
    pub cell_fits : (s' : ℕ) → s' ≤ length over → opening + s' ≤ length stores.subs
    cell_fits s' u = omega (arith, w.inside)

    -- a head that the other list goes beyond, from place s' on
    module _ (s' : ℕ) (some : s' < length over) (up : UpTo (get_or heads t 0) s' over) (beyond : s' < length over → get_or heads t 0 < get_or over s' 0) where
      -- it has a list of its own
      listed : (1 ≤ get_or heads t 0) × (get_or heads t 0 ≤ w.n)
      listed = w.reduction.headed (get_or heads t 0) (get_or over s' 0) (member_at t heads l) (member_at s' over some) (beyond some)

      crossing_at : Crossing (kept w.s w.side (get_or heads t 0)) (drop s' over) (drop s' values) dense
      unfolding Below
      crossing_at = record {
        ascends = ascending_weaken 0 (get_or heads t 0 + 1) (kept w.s w.side (get_or heads t 0)) (omega arith) (w.index.ascends (get_or heads t 0));
        over_ascends = ascending-drop 0 s' over w.reduction.over_ascends;
        within = λ x m. let (i, j, u) = drop-from 0 x s' over w.reduction.over_ascends m in
            w.reduction.within (get_or heads t 0) x (member_at t heads l) i (omega (arith, beyond j));
        valued = ap (λ (zs : List Float). drop s' zs) w.reduction.valued ∙ drop-gathered dense s' over;
        others = λ x m n. w.reduction.others (get_or heads t 0) x m (fails (member x over) (λ k. true≢false (sym (behind (get_or heads t 0) s' x over up k (above x m)) ∙ n)));
        room = λ x m. w.reduction.room (get_or heads t 0) x m;
      }

      -- the numbers of its list
      pub head_place : length stores.subs * 8 < 2 ^ 63 → ListAsks stores.starts stores.slot_starts (get_or heads t 0)
      head_place = list_asks w.s w.side w.n stores w.index (get_or heads t 0) listed.0 listed.1

      module _ (from to slot next : ℕ) (at : ListAt stores.starts stores.slot_starts (get_or heads t 0) from to slot next) where
        pub head_lends : length stores.subs * 8 < 2 ^ 63 → length y * 8 < 2 ^ 63 → Lends stores y from to slot next
        head_lends = list_lends w.s w.side w.n stores w.index (get_or heads t 0) listed.0 listed.1 from to slot next at (blend w.side (take t heads) w.new w.old) y h.shows

        -- the part that the code lends, and its subscripts
        lent_part : part_of slot next y ≡ map (at_side w.side w.old (get_or heads t 0)) (kept w.s w.side (get_or heads t 0))
        lent_part =
            list_shows w.s w.side w.n stores w.index (get_or heads t 0) listed.0 listed.1 from to slot next at (blend w.side (take t heads) w.new w.old) y h.shows
            ∙ map_cong _ _ (kept w.s w.side (get_or heads t 0)) (λ x m. before x)

        lent-subs : part_of from to stores.subs ≡ kept w.s w.side (get_or heads t 0)
        lent-subs = (list_lies w.s w.side w.n stores w.index (get_or heads t 0) listed.0 listed.1 from to slot next at).opens

        -- what a head's call asks
        pub asked : (m : Float) → is_zero m ≡ false
            → (length (part_of slot next y) ≡ length (part_of from to stores.subs))
            × (is_zero m ≡ false)
            × Crossing (part_of from to stores.subs) (part_of s' (length over) over) (part_of s' (length over) values) dense
            × (0 < length (part_of s' (length over) over))
            × (all finite (part_of slot next y) ≡ true)
            × SharedCell (part_of from to stores.subs) from (opening + s') (get_or (part_of s' (length over) over) 0 0)
        asked m nz =
            let lv : length values ≡ length over = ap length w.reduction.valued ∙ length-gathered dense over in
            let a : part_of s' (length over) over ≡ drop s' over = take_all (length over - s') (drop s' over) (simp length-drop (omega arith)) in
            let b : part_of s' (length over) values ≡ drop s' values = take_all (length over - s') (drop s' values) (simp length-drop (omega arith)) in (
              rw (lent_part, lent-subs) (length-map (kept w.s w.side (get_or heads t 0)) (at_side w.side w.old (get_or heads t 0))),
              nz,
              rw (lent-subs, a, b) crossing_at,
              rw a (simp length-drop (omega arith)),
              rw lent_part (all_mapped finite (at_side w.side w.old (get_or heads t 0)) (kept w.s w.side (get_or heads t 0)) (λ x k. w.reduction.sound (get_or heads t 0) x (member_at t heads l) k)),
              rw (first_left over s' some) (shared_cell stores.subs over from (to - from) opening s' w.opens some),
            )

        -- what it leaves
        pub partly_turn : (new : List Float) (r : ℕ)
            → (new ≡ reduced_all (get_or factors t nan) (gathered dense (part_of from to stores.subs)) (part_of slot next y)) × (r ≡ flagged bad (all finite new))
            → Partly flag (patched slot next new y) r (t + 1)
        unfolding gathered sound_list
        partly_turn new r (e, g) =
            let list = kept w.s w.side (get_or heads t 0) in
            let is : new ≡ map (at_side w.side w.new (get_or heads t 0)) list
            = e ∙ rw (lent-subs, lent_part, reduced_maps (get_or factors t nan) (λ x. get_or dense x nan) (at_side w.side w.old (get_or heads t 0)) list)
            (map_cong _ _ list (λ x m. sym (w.reduction.becomes t x l m))) in
            record {
              shows = list_written w.s w.side w.n stores w.index (get_or heads t 0) listed.0 listed.1 from to slot next at (blend w.side (take t heads) w.new w.old) y h.shows
                  (blend w.side (take (t + 1) heads) w.new w.old) elsewhere new (is ∙ map_cong _ _ list (λ x m. sym (here x)));
              flags = next_flags r (g ∙ rw is);
            }
