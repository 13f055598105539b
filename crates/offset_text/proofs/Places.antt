-- A form and a text, place by place: `has_form` as a test of each pair.
use Rattle.std.proofs.Common.{◌≡◌, ℕ, zero, suc, ◌<◌, Bool, true, false, List, [], ◌∷◌, length, refl, sym, arith}
use Rattle.std.proofs.Math.Bool.{and-false}
use Rattle.std.specs.Bool.{MatchBool}
use Rattle.std.specs.List.{AllWithin, HoldsAt, zip}
use Rattle.lists.proofs.Members.{fails}
use Rattle.foundation.specs.OffsetReading.{may_stand, has_form}
use Rattle.foundation.proofs.OffsetTexts.{form-length}

abbrev pub Stands : ℕ × ℕ → Type 0
Stands p = may_stand p.0 p.1 ≡ true

abbrev pub Differs : ℕ × ℕ → Type 0
Differs p = may_stand p.0 p.1 ≡ false

each_stands : (kinds text : List ℕ) → length kinds ≡ length text → AllWithin Stands (zip kinds text) 0 (length (zip kinds text)) → has_form kinds text ≡ true
unfolding has_form
each_stands [] [] e h = refl
each_stands [] (byte ∷ text) e h = absurd (omega arith)
each_stands (kind ∷ kinds) [] e h = absurd (omega arith)
each_stands (kind ∷ kinds) (byte ∷ text) e h =
    rw (h 0 (kind, byte) (omega arith) (omega arith), each_stands kinds text (omega arith) (λ k d low high. h (suc k) d (omega arith) (omega arith)))

one_differs : (kinds text : List ℕ) (k : ℕ) → k < length (zip kinds text) → HoldsAt Differs (zip kinds text) k → has_form kinds text ≡ false
unfolding has_form
one_differs [] text k inside h = absurd (omega arith)
one_differs (kind ∷ kinds) [] k inside h = absurd (omega arith)
one_differs (kind ∷ kinds) (byte ∷ text) zero inside h = rw (h (kind, byte))
one_differs (kind ∷ kinds) (byte ∷ text) (suc k) inside h = rw (one_differs kinds text k (omega arith) (λ d. h d)) (and-false (may_stand kind byte))

pub of_pairs : (kinds text : List ℕ) (r : Bool) → length kinds ≡ length text
    → MatchBool r (AllWithin Stands (zip kinds text) 0 (length (zip kinds text))) ((k : ℕ) × (k < length (zip kinds text)) × HoldsAt Differs (zip kinds text) k)
    → r ≡ has_form kinds text
of_pairs kinds text true e h = sym (each_stands kinds text e h)
of_pairs kinds text false e (k, inside, differs) = sym (one_differs kinds text k inside differs)

pub another_length : (kinds text : List ℕ) → (length kinds ≡ length text → ⊥) → false ≡ has_form kinds text
another_length kinds text h = sym (fails (has_form kinds text) (λ e. h (sym (form-length kinds text e))))
