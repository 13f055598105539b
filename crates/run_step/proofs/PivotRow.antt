-- Laws of bringing the pivot row to row k.
use mathlib.Core.List.{List}
use mathlib.Core.Logic.{⊎_elim}
use mathlib.Core.Path.{◌≡◌, sym, ap, ◌∙◌}
use Prim.Native.Nat.{ℕ, ◌<◌}
use lib.Dec.{eqb, leb}
use lib.Ieee.{Float}
use lib.ListN.{length, get_or}
use borrow.Author.Tests.{eqb-true}
use Rattle.lists.specs.Sets.{upto}
use Rattle.lists.proofs.Members.{by_test}
use Rattle.foundation.specs.Plan.{Planning, Side, lower, upper}
use Rattle.foundation.specs.PlanCall.{PlanStores}
use Rattle.foundation.specs.Reference.{exchanged_right}
use Rattle.foundation.specs.Shown.{at_side, shown_diagonal}
use Rattle.foundation.specs.Square.{Square, swap, exchanged}
use Rattle.foundation.specs.Subscripts.{kept}
use Rattle.run_slots.specs.Shows.{Shows, SquareStores, ShowsAll}
use Rattle.run_slots.proofs.Mapped.{map_cong}
use Rattle.run_slots.proofs.Shows.{shows_same}
use Rattle.run_exchange.specs.Exchange.{ExchangeAsks}
use Rattle.run_step.specs.Bringing.{BringAsks}

-- ---- a row exchanged with itself

swap_self : (k i : ℕ) → swap k k i ≡ i
unfolding swap
swap_self k i = by_test (eqb i k) (λ e. rw e (sym (eqb-true i k e))) (λ e. rw e)

pub exchanged_self : (k : ℕ) (square : Square Float) (i j : ℕ) → exchanged k k square i j ≡ square i j
unfolding exchanged
exchanged_self k square i j = rw (swap_self k i) (by_test (leb k j) (λ e. rw e) (λ e. rw e))

side_self : (s : Planning) (side : Side) (n k : ℕ) (square : Square Float) (store : List Float) → Shows s side n square store → Shows s side n (exchanged k k square) store
unfolding at_side
side_self s lower n k square store h = shows_same s lower n square store h (exchanged k k square) (λ l x a b m. exchanged_self k square x l)
side_self s upper n k square store h = shows_same s upper n square store h (exchanged k k square) (λ l x a b m. exchanged_self k square l x)

pub shows_self : (s : Planning) (n height k : ℕ) (square : Square Float) (right : ℕ → Float) (z : SquareStores) → ShowsAll s n height square right z
    → ShowsAll s n height (exchanged k k square) (exchanged_right k k right) z
unfolding shown_diagonal exchanged_right
shows_self s n height k square right z h =
    record {
      lowers = side_self s lower n k square z.lower_slots h.lowers;
      uppers = side_self s upper n k square z.upper_slots h.uppers;
      diagonal = h.diagonal ∙ map_cong _ _ (upto n) (λ i m. sym (exchanged_self k square i i));
      rights = h.rights ∙ map_cong _ _ (upto height) (λ i m. sym (ap right (swap_self k i)));
    }

-- ---- the two ways

module _ (k row place : ℕ) (q : PlanStores) (z : SquareStores) (w : BringAsks k row place q z) where
  pub stays_there : row ≡ k → ShowsAll w.s w.n w.p.height (exchanged k row w.square) (exchanged_right k row w.right) z
  stays_there e = rw e (shows_self w.s w.n w.p.height k w.square w.right z w.shows)

  module _ (other : row ≡ k → ⊥) where
    at_place : (place < length (kept w.s lower k)) × (row ≡ get_or (kept w.s lower k) place 0)
    at_place = ⊎_elim (λ e. absurd (other e)) (λ t. t) w.found_at

    pub exchange_asks : ExchangeAsks k place q z
    exchange_asks =
        record {
          p = w.p;
          s = w.s;
          n = w.n;
          square = w.square;
          right = w.right;
          layout = w.layout;
          low = w.low;
          high = w.high;
          inside = at_place.0;
          shows = w.shows;
          outside = w.outside;
          stays = rw at_place.1 at w.stays;
        }

    pub comes_there : (z' : SquareStores)
        → ((v : ExchangeAsks k place q z)
        → ShowsAll v.s v.n v.p.height (exchanged k (get_or (kept v.s lower k) place 0) v.square) (exchanged_right k (get_or (kept v.s lower k) place 0) v.right) z')
        → ShowsAll w.s w.n w.p.height (exchanged k row w.square) (exchanged_right k row w.right) z'
    unfolding exchange_asks
    comes_there z' left = rw at_place.1 (left exchange_asks)
