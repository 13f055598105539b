-- Laws of a list that another one crosses: it is updated by equal stretches, or by gathering from the first common member on.
use mathlib.Core.Bool.{Bool, true, false, ◌&&◌}
use mathlib.Core.List.{List, [], ◌∷◌, ◌++◌, append-nil}
use mathlib.Core.Path.{◌≡◌, refl, sym, ap, ◌∙◌}
use Prim.Native.Nat.{ℕ, zero, suc, ◌+◌, ◌-◌, ◌*◌, ◌^◌, ◌≤◌, ◌<◌}
use native.Mathlib.Nat.{add-suc}
use native.Mathlib.Omega.{arith}
use mir.Syntax.{w64}
use mir.Val.{Fits}
use lib.Ieee.{Float, nan}
use lib.ListN.{length, take, drop, get_or, length-take, length-drop, take-append-drop, drop_of_length-le}
use lib.Seq.{drop-drop, length-take-le, take_all, get_or-take, get_or-drop}
use Rattle.lists.specs.Functions.{all}
use Rattle.lists.specs.Sets.{member}
use Rattle.lists.proofs.Members.{fails, by_test, and_left, and_right, and_both, member_head, member_tail, drop_in}
use Rattle.lists.proofs.Order.{member_first}
use Rattle.lists.proofs.Places.{member_last}
use Rattle.foundation.specs.Numbers.{is_zero, finite}
use Rattle.foundation.specs.Reference.{reduced}
use Rattle.foundation.proofs.FloatSteps.{reduced_right}
use Rattle.run_slots.specs.Flags.{flagged}
use Rattle.run_stretch.specs.Stretches.{reduced_all, gathered, Below}
use Rattle.run_stretch.specs.Crossing.{Crossing, SharedCell}
use Rattle.run_stretch.proofs.Reducing.{length-gathered}
use Rattle.run_stretch.proofs.Within.{stretch, take_below, drop-above, take_in}

-- ---- parts of an update

pub reduced-append : (m : Float) (v w x y : List Float) → length v ≡ length x → reduced_all m (v ++ w) (x ++ y) ≡ reduced_all m v x ++ reduced_all m w y
unfolding reduced_all
reduced-append m [] w [] y e = refl
reduced-append m [] w (x ∷ xs) y e = absurd (omega arith)
reduced-append m (v ∷ vs) w [] y e = absurd (omega arith)
reduced-append m (v ∷ vs) w (x ∷ xs) y e = ap (λ (zs : List Float). reduced m v x ∷ zs) (reduced-append m vs w xs y (omega arith))

-- zeros take nothing off
pub reduced_zeros : (m : Float) (dense : List Float) (xs : List ℕ) (y : List Float) → ((x : ℕ) → member x xs ≡ true → is_zero (get_or dense x nan) ≡ true) → length xs ≡ length y
    → reduced_all m (gathered dense xs) y ≡ y
unfolding reduced_all gathered
reduced_zeros m dense [] y z e = refl
reduced_zeros m dense (x ∷ xs) [] z e = absurd (omega arith)
reduced_zeros m dense (x ∷ xs) (v ∷ y) z e =
    rw (reduced_right m (get_or dense x nan) v (z x (member_head x xs)), reduced_zeros m dense xs y (λ w k. z w (member_tail w x xs k)) (omega arith))

pub gathered-append : (dense : List Float) (xs ys : List ℕ) → gathered dense (xs ++ ys) ≡ gathered dense xs ++ gathered dense ys
unfolding gathered
gathered-append dense [] ys = refl
gathered-append dense (x ∷ xs) ys = ap (λ (zs : List Float). get_or dense x nan ∷ zs) (gathered-append dense xs ys)

-- ---- the two ways

module _ (own : List ℕ) (x : ℕ) (xs : List ℕ) (values dense : List Float) (h : Crossing own (x ∷ xs) values dense) (m : Float) (y : List Float) (same : length y ≡ length own)
    (o : ℕ) (inside : o < length own) (first : get_or own o 0 ≡ x) where
  front-zero : (z : ℕ) → member z (take o own) ≡ true → is_zero (get_or dense z nan) ≡ true
  front-zero z k =
      let (i, j) = take_below 0 z o own h.ascends inside k in
      h.others z i (fails (member z (x ∷ xs)) (λ t. omega (arith, member_first z 0 x xs h.over_ascends t)))

  -- gathering from o on updates the whole
  pub gathers : take o y ++ reduced_all m (gathered dense (drop o own)) (drop o y) ≡ reduced_all m (gathered dense own) y
  gathers =
      let ly : length (take o y) ≡ o = length-take-le o y (omega arith) in
      let lo : length (take o own) ≡ o = length-take-le o own (omega arith) in
      let whole : reduced_all m (gathered dense (take o own ++ drop o own)) (take o y ++ drop o y) ≡ take o y ++ reduced_all m (gathered dense (drop o own)) (drop o y)
      = rw (
        gathered-append dense (take o own) (drop o own),
        reduced-append m (gathered dense (take o own)) (gathered dense (drop o own)) (take o y) (drop o y) (length-gathered dense (take o own) ∙ lo ∙ sym ly),
        reduced_zeros m dense (take o own) (take o y) front-zero (lo ∙ sym ly),
      ) in
      sym whole ∙ rw (take-append-drop o own, take-append-drop o y)

  module _ (t : ℕ) (long : length (x ∷ xs) ≡ suc t) (fits : o + t < length own) (last : get_or own (o + t) 0 ≡ get_or (x ∷ xs) t 0) where
    middle : take (suc t) (drop o own) ≡ x ∷ xs
    middle = stretch 0 0 x t o xs own h.over_ascends h.ascends h.within long fits first last

    back-zero : (z : ℕ) → member z (drop (suc t) (drop o own)) ≡ true → is_zero (get_or dense z nan) ≡ true
    back-zero z k =
        let (i, j) = drop-above 0 z (o + t) own h.ascends (rw (drop-drop (suc t) o own, add-suc o t) at k) in
        h.others z i (fails (member z (x ∷ xs)) (λ r. omega (arith, member_last 0 z t (x ∷ xs) h.over_ascends long r)))

    -- updating the stretch alone updates what gathering would
    stretched : reduced_all m values (take (suc t) (drop o y)) ++ drop (suc t) (drop o y) ≡ reduced_all m (gathered dense (drop o own)) (drop o y)
    stretched =
        let ly : length (take (suc t) (drop o y)) ≡ suc t = length-take-le (suc t) (drop o y) (simp length-drop (omega arith)) in
        let lr : length (drop (suc t) (drop o own)) ≡ length (drop (suc t) (drop o y)) = simp length-drop (omega arith) in
        let whole : reduced_all m (gathered dense (take (suc t) (drop o own) ++ drop (suc t) (drop o own))) (take (suc t) (drop o y) ++ drop (suc t) (drop o y))
        ≡ reduced_all m values (take (suc t) (drop o y)) ++ drop (suc t) (drop o y)
        = rw (
          middle,
          h.valued,
          gathered-append dense (x ∷ xs) (drop (suc t) (drop o own)),
          reduced-append m (gathered dense (x ∷ xs)) (gathered dense (drop (suc t) (drop o own))) (take (suc t) (drop o y)) (drop (suc t) (drop o y)) (length-gathered dense (x ∷ xs) ∙ long ∙ sym ly),
          reduced_zeros m dense (drop (suc t) (drop o own)) (drop (suc t) (drop o y)) back-zero lr,
        ) in
        sym whole ∙ rw (take-append-drop (suc t) (drop o own), take-append-drop (suc t) (drop o y))

    pub stretches : take o y ++ (reduced_all m values (take (suc t) (drop o y)) ++ drop (o + suc t) y) ≡ reduced_all m (gathered dense own) y
    stretches = rw (← drop-drop (suc t) o y, stretched) gathers

-- ---- as the code has them

pub all_append : (t : Float → Bool) (xs ys : List Float) → all t (xs ++ ys) ≡ all t xs && all t ys
unfolding all
all_append t [] ys = refl
all_append t (x ∷ xs) ys = by_test (t x) (λ e. rw e (all_append t xs ys)) (λ e. rw e)

pub all_take : (t : Float → Bool) (n : ℕ) (xs : List Float) → all t xs ≡ true → all t (take n xs) ≡ true
unfolding all
all_take t zero xs e = refl
all_take t (suc n) [] e = e
all_take t (suc n) (x ∷ xs) e = and_both (t x) (all t (take n xs)) (and_left (t x) (all t xs) e) (all_take t n xs (and_right (t x) (all t xs) e))

pub all_drop : (t : Float → Bool) (n : ℕ) (xs : List Float) → all t xs ≡ true → all t (drop n xs) ≡ true
unfolding all
all_drop t zero xs e = e
all_drop t (suc n) [] e = e
all_drop t (suc n) (x ∷ xs) e = all_drop t n xs (and_right (t x) (all t xs) e)

-- the flag of a part is the flag of the whole where the rest was finite
pub part_flag : (flag r a c : ℕ) (y part : List Float) → all finite y ≡ true → r ≡ flagged flag (all finite part) → r ≡ flagged flag (all finite (take a y ++ (part ++ drop c (drop a y))))
part_flag flag r a c y part f e =
    e ∙ rw (all_append finite (take a y) (part ++ drop c (drop a y)), all_append finite part (drop c (drop a y)), all_take finite a y f, all_drop finite c (drop a y) (all_drop finite a y f)) (ap (flagged flag) (and_one (all finite part)))
  where
    and_one : (b : Bool) → b ≡ b && true
    and_one true = refl
    and_one false = refl

abbrev pub Reduces : List ℕ → List Float → Float → List Float → ℕ → ℕ → List Float → Type 0
Reduces own dense m y flag r y' = (y' ≡ reduced_all m (gathered dense own) y) × (r ≡ flagged flag (all finite y'))

module _ (own over : List ℕ) (values dense : List Float) (h : Crossing own over values dense) (m : Float) (y : List Float) (same : length y ≡ length own) (some : 0 < length over)
    (o : ℕ) (inside : o < length own) (first : get_or own o 0 ≡ get_or over 0 0) (f : all finite y ≡ true) (flag r : ℕ) (part : List Float) where
  pub by_stretch : o + length over ≤ length own → get_or own (o + length over - 1) 0 ≡ get_or over (length over - 1) 0
      → (part ≡ reduced_all m values (take (o + length over - o) (drop o y))) × (r ≡ flagged flag (all finite part))
      → Reduces own dense m y flag r (take o y ++ (part ++ drop (o + length over - o) (drop o y)))
  by_stretch fits last (e, g) = (from over h some first fits last e, part_flag flag r o (o + length over - o) y part f g)
    where
      from : (over : List ℕ) → Crossing own over values dense → 0 < length over → get_or own o 0 ≡ get_or over 0 0 → o + length over ≤ length own
          → get_or own (o + length over - 1) 0 ≡ get_or over (length over - 1) 0 → part ≡ reduced_all m values (take (o + length over - o) (drop o y))
          → take o y ++ (part ++ drop (o + length over - o) (drop o y)) ≡ reduced_all m (gathered dense own) y
      from [] h some first fits last e = absurd (omega arith)
      from (x ∷ xs) h some first fits last e =
          let c : o + length (x ∷ xs) - o ≡ suc (length xs) = omega arith in
          let p : o + length (x ∷ xs) - 1 ≡ o + length xs = omega arith in
          let q : length (x ∷ xs) - 1 ≡ length xs = omega arith in
          rw (e, c, drop-drop (suc (length xs)) o y)
          (stretches own x xs values dense h m y same o inside first (length xs) refl (omega arith) (rw (p, q) at last))

  pub by_gathering : (part ≡ reduced_all m (gathered dense (take (length own - o) (drop o own))) (take (length own - o) (drop o y))) × (r ≡ flagged flag (all finite part))
      → Reduces own dense m y flag r (take o y ++ (part ++ drop (length own - o) (drop o y)))
  by_gathering (e, g) = (from over h some first, part_flag flag r o (length own - o) y part f g)
    where
      from : (over : List ℕ) → Crossing own over values dense → 0 < length over → get_or own o 0 ≡ get_or over 0 0
          → take o y ++ (part ++ drop (length own - o) (drop o y)) ≡ reduced_all m (gathered dense own) y
      from [] h some first = absurd (omega arith)
      from (x ∷ xs) h some first =
          let a : take (length own - o) (drop o own) ≡ drop o own = take_all (length own - o) (drop o own) (simp length-drop (omega arith)) in
          let b : take (length own - o) (drop o y) ≡ drop o y = take_all (length own - o) (drop o y) (simp length-drop (omega arith)) in
          let past : length (drop o y) ≤ length own - o = simp length-drop (omega arith) in
          rw (e, a, b, drop_of_length-le (drop o y) past, append-nil) (gathers own x xs values dense h m y same o inside first)

pub crossing_values : (own over : List ℕ) (values dense : List Float) → Crossing own over values dense → length values ≡ length over
crossing_values own over values dense h = ap length h.valued ∙ length-gathered dense over

pub below_part : (room a c : ℕ) (subs : List ℕ) → Below room subs → Below room (take c (drop a subs))
unfolding Below
below_part room a c subs h x m = h x (drop_in x a subs (take_in x c (drop a subs) m))

-- the cell that a member of one list was read from, seen from another list of the same subscripts
pub shared_cell : (subs over : List ℕ) (start count opening s : ℕ) → take (length over) (drop opening subs) ≡ over → s < length over
    → SharedCell (take count (drop start subs)) start (opening + s) (get_or over s 0)
unfolding SharedCell
shared_cell subs over start count opening s e l from to =
    let q = opening + s - start in
    let there : start + q ≡ opening + s = omega arith in
    let inside : q < count = omega (arith, simp length-take at to) in
    let has : get_or over s 0 ≡ get_or subs (opening + s) 0 = ap (λ (zs : List ℕ). get_or zs s 0) (sym e) ∙ get_or-take (length over) (drop opening subs) s 0 l ∙ get_or-drop opening subs s 0 in
    get_or-take count (drop start subs) q 0 inside ∙ get_or-drop start subs q 0 ∙ rw there (sym has)

-- where a list of shared subscripts has its member
pub cell_inside : (own : List ℕ) (start cell x : ℕ) → SharedCell own start cell x → start ≤ cell → cell - start < length own → (cell - start < length own) × (get_or own (cell - start) 0 ≡ x)
unfolding SharedCell
cell_inside own start cell x h from to = (to, h from (omega arith))

-- ---- the numbers that the code makes

pub sum_fits : (o c : ℕ) {n : ℕ} → o < n → n * 8 < 2 ^ 63 → c * 8 < 2 ^ 63 → Fits w64 (o + c)
sum_fits o c inside room more = record { fits = omega arith }

pub some_end : (o c : ℕ) → 0 < c → 1 ≤ o + c
some_end o c some = omega arith

pub stretch_size : (y values : List Float) (o c n : ℕ) → length y ≡ n → o + c ≤ n → length values ≡ c → length (take (o + c - o) (drop o y)) ≡ length values
stretch_size y values o c n same within size = simp (length-take, length-drop) (omega arith)

pub rest_size : (y : List Float) (own : List ℕ) (o : ℕ) → length y ≡ length own → length (take (length own - o) (drop o y)) ≡ length (take (length own - o) (drop o own))
rest_size y own o same = simp (length-take, length-drop) (omega arith)
