-- One place of the square written anew is one slot written: in L, in U or on the diagonal.
use mathlib.Core.Bool.{cond, ◌&&◌}
use mathlib.Core.List.{List}
use mathlib.Core.Path.{◌≡◌, refl, sym, ap, ◌∙◌}
use Prim.Native.Nat.{ℕ, suc, ◌-◌, ◌≤◌, ◌<◌}
use native.Mathlib.Omega.{arith}
use lib.Dec.{eqb}
use lib.Ieee.{Float, nan}
use lib.ListN.{length, get_or, set}
use borrow.Author.Tests.{eqb-true, eq-eqb}
use Rattle.lists.specs.Sets.{upto}
use Rattle.lists.proofs.Members.{by_test}
use Rattle.lists.proofs.Places.{length-map-upto, map-upto_at}
use Rattle.foundation.specs.Plan.{Planning, lower, upper}
use Rattle.foundation.specs.Shown.{at_side, shown_diagonal}
use Rattle.foundation.specs.Square.{Square}
use Rattle.run_slots.specs.Index.{Grid}
use Rattle.run_slots.specs.Lists.{SlotOf}
use Rattle.run_slots.specs.Shows.{Shows, SquareStores, square_stores, ShowsAll}
use Rattle.run_slots.proofs.Grid.{above}
use Rattle.run_slots.proofs.Mapped.{map_cong, map-upto-set}
use Rattle.run_slots.proofs.Shows.{part_inside, shows-read, shows-set, shows_same}

-- a square with v at (i, j)
unfoldable pub put : ℕ → ℕ → Float → Square Float → Square Float
put i j v square a b = cond (eqb a i && eqb b j) v (square a b)

module _ (i j : ℕ) (v : Float) (square : Square Float) where
  pub put_here : put i j v square i j ≡ v
  unfolding put
  put_here = rw (eq-eqb i i refl, eq-eqb j j refl)

  pub put_apart : (a b : ℕ) → (a ≡ i → b ≡ j → ⊥) → put i j v square a b ≡ square a b
  unfolding put
  put_apart a b apart =
      by_test (eqb a i)
      (λ e. by_test (eqb b j) (λ f. absurd (apart (eqb-true a i e) (eqb-true b j f))) (λ f. rw (e, f)))
      (λ e. rw e)

-- ---- the four stores

module _ (s : Planning) (n height : ℕ) (square : Square Float) (right : ℕ → Float) (z : SquareStores) (h : ShowsAll s n height square right z) where
  -- a square that is the same at every place
  pub shows_all_same : (square' : Square Float) → ((i j : ℕ) → square' i j ≡ square i j) → ShowsAll s n height square' right z
  unfolding at_side shown_diagonal
  shows_all_same square' same =
      record {
        lowers = shows_same s lower n square z.lower_slots h.lowers square' (λ k y a b m. same y k);
        uppers = shows_same s upper n square z.upper_slots h.uppers square' (λ k y a b m. same k y);
        diagonal = h.diagonal ∙ map_cong (λ i. square i i) (λ i. square' i i) (upto n) (λ i m. sym (same i i));
        rights = h.rights;
      }

  pub diagonal_size : length z.diagonal ≡ n
  unfolding shown_diagonal
  diagonal_size = ap length h.diagonal ∙ length-map-upto (λ i. square i i) n

  pub rights_size : length z.right_side ≡ height
  rights_size = ap length h.rights ∙ length-map-upto right height

  -- reading a place
  pub read_lower : (i j q : ℕ) → 1 ≤ j → j ≤ n → SlotOf s lower j i q → get_or z.lower_slots q nan ≡ square i j
  unfolding at_side
  read_lower i j q low high w = rw w.is (shows-read s lower n square z.lower_slots h.lowers j low high w.at w.inside ∙ rw w.member_is)

  pub read_upper : (i j q : ℕ) → 1 ≤ i → i ≤ n → SlotOf s upper i j q → get_or z.upper_slots q nan ≡ square i j
  unfolding at_side
  read_upper i j q low high w = rw w.is (shows-read s upper n square z.upper_slots h.uppers i low high w.at w.inside ∙ rw w.member_is)

  pub read-diagonal : (i : ℕ) → 1 ≤ i → i ≤ n → get_or z.diagonal (i - 1) nan ≡ square i i
  unfolding shown_diagonal
  read-diagonal i low high = ap (λ (zs : List Float). get_or zs (i - 1) nan) h.diagonal ∙ map-upto_at (λ i. square i i) n i nan low high

  -- its slot lies in the store
  pub lower_inside : (i j q : ℕ) → 1 ≤ j → j ≤ n → SlotOf s lower j i q → q < length z.lower_slots
  lower_inside i j q low high w = omega (arith, w.is, w.inside, part_inside s lower n square z.lower_slots h.lowers j low high)

  pub upper_inside : (i j q : ℕ) → 1 ≤ i → i ≤ n → SlotOf s upper i j q → q < length z.upper_slots
  upper_inside i j q low high w = omega (arith, w.is, w.inside, part_inside s upper n square z.upper_slots h.uppers i low high)

  -- writing a place
  module _ (grid : Grid s n height) where
    diagonal_put : (i j : ℕ) (v : Float) → (i ≡ j → ⊥) → z.diagonal ≡ shown_diagonal n (put i j v square)
    unfolding shown_diagonal
    diagonal_put i j v other =
        h.diagonal ∙ map_cong (λ a. square a a) (λ a. put i j v square a a) (upto n) (λ a m. sym (put_apart i j v square a a (λ p q. other (sym p ∙ q))))

    lowers_put : (i j : ℕ) (v : Float) → i ≤ j → Shows s lower n (put i j v square) z.lower_slots
    unfolding at_side
    lowers_put i j v le =
        shows_same s lower n square z.lower_slots h.lowers (put i j v square)
        (λ k y a b m. put_apart i j v square y k (λ p q. omega (arith, above s n height grid lower k y m)))

    uppers_put : (i j : ℕ) (v : Float) → j ≤ i → Shows s upper n (put i j v square) z.upper_slots
    unfolding at_side
    uppers_put i j v le =
        shows_same s upper n square z.upper_slots h.uppers (put i j v square)
        (λ k y a b m. put_apart i j v square k y (λ p q. omega (arith, above s n height grid upper k y m)))

    pub put_lower : (i j q : ℕ) (v : Float) → j < i → 1 ≤ j → j ≤ n → SlotOf s lower j i q → ShowsAll s n height (put i j v square) right (square_stores (set z.lower_slots q v) z.upper_slots z.diagonal z.right_side)
    unfolding at_side
    put_lower i j q v lt low high w =
        record {
          lowers =
              rw w.is (shows-set s lower n square z.lower_slots h.lowers j low high w.at w.inside (suc j) (grid.ascends lower j) (put i j v square) v
              (λ k y a b ne m. put_apart i j v square y k (λ p q. ne q)) (rw w.member_is (put_here i j v square))
              (λ y m ne. put_apart i j v square y j (λ p q. ne (p ∙ sym w.member_is))));
          uppers = uppers_put i j v (omega arith);
          diagonal = diagonal_put i j v (λ e. omega arith);
          rights = h.rights;
        }

    pub put_upper : (i j q : ℕ) (v : Float) → i < j → 1 ≤ i → i ≤ n → SlotOf s upper i j q → ShowsAll s n height (put i j v square) right (square_stores z.lower_slots (set z.upper_slots q v) z.diagonal z.right_side)
    unfolding at_side
    put_upper i j q v lt low high w =
        record {
          lowers = lowers_put i j v (omega arith);
          uppers =
              rw w.is (shows-set s upper n square z.upper_slots h.uppers i low high w.at w.inside (suc i) (grid.ascends upper i) (put i j v square) v
              (λ k y a b ne m. put_apart i j v square k y (λ p q. ne p)) (rw w.member_is (put_here i j v square))
              (λ y m ne. put_apart i j v square i y (λ p q. ne (q ∙ sym w.member_is))));
          diagonal = diagonal_put i j v (λ e. omega arith);
          rights = h.rights;
        }

    pub put_diagonal : (i : ℕ) (v : Float) → 1 ≤ i → i ≤ n → ShowsAll s n height (put i i v square) right (square_stores z.lower_slots z.upper_slots (set z.diagonal (i - 1) v) z.right_side)
    unfolding shown_diagonal
    put_diagonal i v low high =
        record {
          lowers = lowers_put i i v (omega arith);
          uppers = uppers_put i i v (omega arith);
          diagonal =
              rw h.diagonal (map-upto-set (λ a. square a a) (λ a. put i i v square a a) n i v low high (put_here i i v square)
              (λ a ne. put_apart i i v square a a (λ p q. ne p)));
          rights = h.rights;
        }
