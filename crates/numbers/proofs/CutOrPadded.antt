-- Laws of what a store holds of a list: what stands at each place, the loop that writes it, and a text that fits.
use mathlib.Core.Path.{◌≡◌, refl, sym, ◌∙◌}
use mathlib.Core.List.{List, [], ◌∷◌, ◌++◌}
use Prim.Native.Nat.{ℕ, zero, suc, ◌+◌, ◌-◌, ◌≤◌, ◌<◌}
use native.Mathlib.Omega.{arith}
use lib.Dec.{eqb}
use lib.ListN.{length, get_or, set, replicate, length-append, length-set, length-replicate}
use lib.Seq.{length-take-le, get_or-take, take_all, ext_get_or, get_or-set_same, get_or-set_other}
use borrow.Author.Tests.{eqb-true, eqb-false}
use Rattle.lists.specs.Functions.{padded}
use Rattle.lists.proofs.Members.{by_test}
use Rattle.lists.proofs.Places.{length-padded, padded-full, padded-nil, blank_read}
use Rattle.numbers.specs.Numbered.{cut_or_padded}

-- zeros behind a list read as what lies behind it does
zeros_behind : (k : ℕ) (xs : List ℕ) (i : ℕ) → get_or (xs ++ replicate k 0) i 0 ≡ get_or xs i 0
zeros_behind k [] i = blank_read 0 k i
zeros_behind k (x ∷ xs) zero = refl
zeros_behind k (x ∷ xs) (suc i) = zeros_behind k xs i

cut-or-padded-length : (room : ℕ) (xs : List ℕ) → length (cut_or_padded room xs) ≡ room
unfolding cut_or_padded padded
cut-or-padded-length room xs = length-take-le room (xs ++ replicate (room - length xs) 0) (rw (length-append, length-replicate) (omega arith))

cut-or-padded_reads : (room : ℕ) (xs : List ℕ) (i : ℕ) → i < room → get_or (cut_or_padded room xs) i 0 ≡ get_or xs i 0
unfolding cut_or_padded padded
cut-or-padded_reads room xs i h = get_or-take room (xs ++ replicate (room - length xs) 0) i 0 h ∙ zeros_behind (room - length xs) xs i

-- a list that fits stands whole, with zeros behind it
pub cut-or-padded-whole : (room : ℕ) (xs : List ℕ) → length xs ≤ room → cut_or_padded room xs ≡ padded 0 room xs
unfolding cut_or_padded
cut-or-padded-whole room xs h = take_all room (padded 0 room xs) (let e = length-padded 0 room xs h in omega arith)

-- a list as long as the store is the store
pub cut-or-padded_same : (room : ℕ) (xs : List ℕ) → length xs ≡ room → cut_or_padded room xs ≡ xs
cut-or-padded_same room xs e = rw (← e) (cut-or-padded-whole (length xs) xs (omega arith) ∙ padded-full 0 xs)

-- of no list there are zeros throughout
pub cut-or-padded_none : (room : ℕ) → cut_or_padded room [] ≡ replicate room 0
cut-or-padded_none room = cut-or-padded-whole room [] (omega arith) ∙ padded-nil 0 room

-- The store that was `was` is now `now`: its first `t` places are those of `xs`.
pub record Laying (xs was now : List ℕ) (t : ℕ) : Type 0 where
  pub size : length now ≡ length was
  pub written : (i : ℕ) → i < t → get_or now i 0 ≡ get_or xs i 0

pub laying_start : (xs was : List ℕ) → Laying xs was was 0
laying_start xs was = record { size = refl; written = λ i h. absurd (omega arith) }

pub laying_turn : (xs was now : List ℕ) (t v : ℕ) → Laying xs was now t → t < length now → v ≡ get_or xs t 0 → Laying xs was (set now t v) (t + 1)
laying_turn xs was now t v l h e =
    record {
      size = length-set now t v ∙ l.size;
      written = λ i b. by_test (eqb i t)
          (λ q. rw (eqb-true i t q) (get_or-set_same now t v 0 h ∙ e))
          (λ q. let other = eqb-false i t q in get_or-set_other now t i v 0 other ∙ l.written i (before i b other));
    }
  where
    before : (i : ℕ) → i < t + 1 → (i ≡ t → ⊥) → i < t
    before i b other = omega arith

pub laying_end : (xs was now : List ℕ) (t : ℕ) → Laying xs was now t → length was ≤ t → now ≡ cut_or_padded (length was) xs
laying_end xs was now t l h =
    ext_get_or 0 now (cut_or_padded (length was) xs) (l.size ∙ sym (cut-or-padded-length (length was) xs))
    (λ i b. let e = l.size in l.written i (omega arith) ∙ sym (cut-or-padded_reads (length was) xs i (omega arith)))
