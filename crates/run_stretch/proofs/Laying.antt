-- Laws of filling and clearing the work stores.
use mathlib.Core.Bool.{false, cond}
use mathlib.Core.List.{List, [], ◌∷◌, ◌++◌, map}
use mathlib.Core.Path.{◌≡◌, sym, ap, ◌∙◌}
use Prim.Native.Nat.{ℕ, suc, ◌+◌, ◌≤◌, ◌<◌}
use native.Mathlib.Numerals.{add-one}
use lib.Dec.{eqb}
use lib.Ieee.{Float, nan, of_bits, binary64}
use lib.ListN.{length, get_or, take, drop, set, replicate, length-set, length-replicate, get_or-replicate, drop_of_length-le}
use lib.Seq.{take-suc, take_all, take-suc-set, drop-cons, get_or-set_same, get_or-set_other, ext_get_or}
use borrow.Author.Tests.{eqb-true, eqb-false}
use Rattle.lists.specs.Sets.{member}
use Rattle.lists.proofs.Members.{by_test, fails, not-member-nil, member_snoc, member_snoc_other, not_in}
use Rattle.lists.proofs.Places.{get_or_mapped}
use Rattle.foundation.specs.Numbers.{plus_zero}
use Rattle.run_slots.specs.Handing.{Clear}
use Rattle.run_stretch.specs.Work.{ClearBut, Spread}

pub copy-turn : (to from : List Float) (i : ℕ) → i < length from → i < length to → take i to ≡ take i from → take (i + 1) (set to i (get_or from i nan)) ≡ take (i + 1) from
copy-turn to from i l k e = rw (add-one, take-suc-set to i (get_or from i nan) k, take-suc from i nan l, e)

-- spread so far
unfoldable pub Spreading : List ℕ → List Float → List Float → ℕ → Type 0
Spreading subs values store i = (f : ℕ → Float) → values ≡ map f subs → (x : ℕ) → x < length store → get_or store x nan ≡ cond (member x (take i subs)) (f x) plus_zero

pub spread_start : (subs : List ℕ) (values store : List Float) → Clear store → Spreading subs values store 0
unfolding Spreading Clear
spread_start subs values store c f e x l = ap (λ (zs : List Float). get_or zs x nan) c ∙ get_or-replicate (length store) x plus_zero nan l ∙ sym (rw (fails (member x []) (not-member-nil x)))

pub spread_turn : (subs : List ℕ) (values store : List Float) (i : ℕ) → i < length subs → get_or subs i 0 < length store → Spreading subs values store i
    → Spreading subs values (set store (get_or subs i 0) (get_or values i nan)) (i + 1)
unfolding Spreading
spread_turn subs values store i l k h f e x m =
    let more : take (i + 1) subs ≡ take i subs ++ get_or subs i 0 ∷ [] = rw add-one (take-suc subs i 0 l) in
    let v : get_or values i nan ≡ f (get_or subs i 0) = ap (λ (zs : List Float). get_or zs i nan) e ∙ get_or_mapped f subs i nan l in
    by_test (eqb x (get_or subs i 0))
    (λ t. let q = eqb-true x (get_or subs i 0) t in rw (q, more, get_or-set_same store (get_or subs i 0) (get_or values i nan) nan k, member_snoc (get_or subs i 0) (take i subs)) v)
    (λ t. let q = eqb-false x (get_or subs i 0) t in rw (more, get_or-set_other store (get_or subs i 0) x (get_or values i nan) nan q, member_snoc_other x (get_or subs i 0) (take i subs) q)
    (h f e x (simp length-set at m)))

pub spread_end : (subs : List ℕ) (values store : List Float) (i : ℕ) → length subs ≤ i → Spreading subs values store i → Spread subs values store
unfolding Spreading Spread
spread_end subs values store i l h f e x m = h f e x m ∙ rw (take_all i subs l)

-- clearing so far
unfoldable pub Clearing : List ℕ → List Float → ℕ → Type 0
Clearing subs store i = (x : ℕ) → x < length store → member x (drop i subs) ≡ false → get_or store x nan ≡ plus_zero

pub clear_at_start : (subs : List ℕ) (store : List Float) → ClearBut subs store → Clearing subs store 0
unfolding Clearing ClearBut
clear_at_start subs store h = h

pub clear_at_turn : (subs : List ℕ) (store : List Float) (i : ℕ) → i < length subs → get_or subs i 0 < length store → Clearing subs store i → Clearing subs (set store (get_or subs i 0) (of_bits binary64 0)) (i + 1)
unfolding Clearing of_bits plus_zero
clear_at_turn subs store i l k h x m n =
    by_test (eqb x (get_or subs i 0))
    (λ t. let q = eqb-true x (get_or subs i 0) t in rw (q, get_or-set_same store (get_or subs i 0) (of_bits binary64 0) nan k))
    (λ t. let q = eqb-false x (get_or subs i 0) t in rw (get_or-set_other store (get_or subs i 0) x (of_bits binary64 0) nan q)
    (h x (simp length-set at m) (rw (drop-cons subs i 0 l) (not_in x (get_or subs i 0) (drop (suc i) subs) q (rw add-one at n)))))

pub clear_at_end : (subs : List ℕ) (store : List Float) (i : ℕ) → length subs ≤ i → Clearing subs store i → Clear store
unfolding Clearing Clear
clear_at_end subs store i l h =
    ext_get_or nan store (replicate (length store) plus_zero) (sym (length-replicate (length store) plus_zero))
    (λ x m. h x m (rw (drop_of_length-le subs l) (fails (member x []) (not-member-nil x))) ∙ sym (get_or-replicate (length store) x plus_zero nan m))
