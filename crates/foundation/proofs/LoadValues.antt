-- Every value and every right side of a load is the f64 of a small whole number, and finite.
use mathlib.Core.Bool.{Bool, true}
use mathlib.Core.List.{List, [], ◌∷◌, ◌++◌}
use mathlib.Core.Path.{◌≡◌, refl}
use Prim.Native.Nat.{ℕ, zero, suc, ◌+◌, ◌-◌, ◌%◌, ◌≤◌, ◌<◌}
use native.Mathlib.Omega.{arith}
use lib.Dec.{ltb, leb}
use lib.IntN.{ℤ, nat_abs}
use lib.Ieee.{Float, nan, inf, fin}
use lib.Ieee.Exact.{HasValue}
use lib.ListN.{length, get_or, length-append, get_or-append}
use lib.Seq.{get_or-append-add}
use borrow.Author.Tests.{leb-true, leb-false}
use Rattle.lists.specs.Functions.{all}
use Rattle.lists.proofs.Members.{by_test, and_both}
use Rattle.foundation.specs.Numbers.{plus_zero, finite, float_of}
use Rattle.foundation.specs.Draw.{drawn, drawn_whole, drawn_value}
use Rattle.foundation.specs.Load.{DrawnRow, entered, asked, asked_state, row_up_to, with_row, next_row, rows_up_to}
use Rattle.foundation.specs.Claims.Offsets.{FloatEqual}
use Rattle.foundation.proofs.LoadRows.{by_place}
use Rattle.foundation.proofs.Offsets.{float_equal}

-- ---- one number

abbrev pub Small : Float → Type 0
Small x = (z : ℤ) × (nat_abs z ≤ 1000) × (x ≡ float_of z)

whole_size : (draw : ℕ) → nat_abs (drawn_whole draw) ≤ 1000
unfolding drawn_whole
whole_size draw =
    let h : draw % 2001 < 2001 = omega arith in
    by_test (ltb (draw % 2001) 1000) (λ e. rw e (omega arith)) (λ e. rw e (omega arith))

small-drawn : (draw : ℕ) → Small (drawn_value draw)
unfolding drawn_value
small-drawn draw = (drawn_whole draw, whole_size draw, refl)

value-finite : (x : Float) (s : Bool) (n : ℕ) → HasValue x s n 1 → finite x ≡ true
unfolding finite
value-finite nan t n v = absurd v
value-finite (inf s) t n v = absurd v
value-finite (fin s m e) t n v = refl

small-finite : (x : Float) → Small x → finite x ≡ true
unfolding FloatEqual
small-finite x (z, low, e) = rw e (value-finite (float_of z) _ _ (float_equal z (omega (arith, low))).0)

-- ---- all numbers of a list

abbrev pub AllSmall : List Float → Type 0
AllSmall xs = (k : ℕ) → k < length xs → Small (get_or xs k plus_zero)

small_none : AllSmall []
small_none k h = absurd (omega arith)

small_one : (x : Float) → Small x → AllSmall (x ∷ [])
small_one x s zero h = s
small_one x s (suc k) h = absurd (omega arith)

behind : (xs ys : List Float) (k m : ℕ) → k ≡ length xs + m → Small (get_or ys m plus_zero) → Small (get_or (xs ++ ys) k plus_zero)
behind xs ys k m e s = rw (e, get_or-append-add xs ys m plus_zero) s

small-append : (xs ys : List Float) → AllSmall xs → AllSmall ys → AllSmall (xs ++ ys)
small-append xs ys a b k h =
    by_test (leb (suc k) (length xs))
    (λ e. let low : k < length xs = leb-true _ _ e in rw (get_or-append xs ys plus_zero k low) (a k low))
    (λ e. let high : length xs < suc k = leb-false _ _ e in
    let there : k ≡ length xs + (k - length xs) = omega arith in
    let room : k - length xs < length ys = omega (arith, length-append xs ys) in
    behind xs ys k (k - length xs) there (b (k - length xs) room))

pub all_finite_lem : (xs : List Float) → AllSmall xs → all finite xs ≡ true
unfolding all
all_finite_lem [] s = refl
all_finite_lem (x ∷ xs) s =
    and_both (finite x) (all finite xs) (small-finite x (s 0 (omega arith))) (all_finite_lem xs (λ k h. s (suc k) (omega arith)))

-- ---- a row, a load

small_row : (d row state j : ℕ) → AllSmall (row_up_to d row state j).values
unfolding row_up_to entered asked
small_row d row state zero = small_none
small_row d row state (suc j) =
    let r = row_up_to d row state j in
    let draw = drawn (asked_state row (suc j) r.state) in
    by_place d row (suc j) r (λ (q : DrawnRow). AllSmall q.values)
    (λ e. small-append r.values (drawn_value draw ∷ []) (small_row d row state j) (small_one (drawn_value draw) (small-drawn draw)))
    (λ e. small_row d row state j)

pub small-values : (seed n d i : ℕ) → AllSmall (rows_up_to seed n d i).values
unfolding rows_up_to next_row with_row
small-values seed n d zero = small_none
small-values seed n d (suc i) =
    let l = rows_up_to seed n d i in
    small-append l.values (row_up_to d (suc i) l.state n).values (small-values seed n d i) (small_row d (suc i) l.state n)

pub small_right : (seed n d i : ℕ) → AllSmall (rows_up_to seed n d i).right
unfolding rows_up_to next_row with_row
small_right seed n d zero = small_none
small_right seed n d (suc i) =
    let l = rows_up_to seed n d i in
    let draw = drawn (row_up_to d (suc i) l.state n).state in
    small-append l.right (drawn_value draw ∷ []) (small_right seed n d i) (small_one (drawn_value draw) (small-drawn draw))
