-- Numbers laid into a store one behind the other, and a list that is filled up to a length.
use mathlib.Core.List.{List, [], ◌∷◌, ◌++◌, append_assoc, append-nil}
use mathlib.Core.Path.{◌≡◌, refl, sym, ap, ◌∙◌}
use Prim.Native.Nat.{ℕ, suc, ◌+◌, ◌-◌, ◌≤◌, ◌<◌}
use native.Mathlib.Nat.{add-zero}
use native.Mathlib.Numerals.{add-one}
use native.Mathlib.Omega.{arith}
use lib.ListN.{length, set, drop, replicate, length-append}
use lib.Seq.{sets, drop_at}
use Rattle.lists.specs.Functions.{padded}
use Rattle.lists.proofs.Places.{padded-full}

module _ {ℓ} {A : Type ℓ} where
  -- one more behind those that were laid
  pub sets_snoc : (l : List A) (i : ℕ) (vs : List A) (v : A) → set (sets l i vs) (i + length vs) v ≡ sets l i (vs ++ v ∷ [])
  sets_snoc l i [] v = rw (add-zero i)
  sets_snoc l i (a ∷ vs) v =
      let e : i + suc (length vs) ≡ suc i + length vs = omega arith in
      rw e (sets_snoc (set l i a) (suc i) vs v)

  -- a place behind a list
  set_seam : (xs : List A) (y : A) (ys : List A) (v : A) → set (xs ++ y ∷ ys) (length xs) v ≡ xs ++ v ∷ ys
  set_seam [] y ys v = refl
  set_seam (x ∷ xs) y ys v = ap (λ (t : List A). x ∷ t) (set_seam xs y ys v)

  set_blank : (xs : List A) (k : ℕ) (b v : A) → set (xs ++ replicate (suc k) b) (length xs) v ≡ (xs ++ v ∷ []) ++ replicate k b
  set_blank xs k b v = set_seam xs b (replicate k b) v ∙ sym (append_assoc xs (v ∷ []) (replicate k b))

  -- one more in a list that is filled up
  pub padded-set : (b : A) (room : ℕ) (xs : List A) (v : A) → length xs < room → set (padded b room xs) (length xs) v ≡ padded b room (xs ++ v ∷ [])
  unfolding padded
  padded-set b room xs v h =
      let e : room - length xs ≡ suc (room - (length xs + 1)) = omega arith in
      rw (e, length-append xs (v ∷ [])) (set_blank xs (room - (length xs + 1)) b v)

  -- a list laid behind it
  pub sets-padded : (b : A) (room : ℕ) (ys xs : List A) → length ys + length xs ≤ room → sets (padded b room ys) (length ys) xs ≡ padded b room (ys ++ xs)
  sets-padded b room ys [] h = rw (append-nil ys)
  sets-padded b room ys (x ∷ xs) h =
      let fits : length ys < room = omega arith in
      let longer : length (ys ++ x ∷ []) ≡ suc (length ys) = length-append ys (x ∷ []) ∙ add-one (length ys) in
      let rest : length (ys ++ x ∷ []) + length xs ≤ room = omega (arith, longer) in
      rw (padded-set b room ys x fits, ← longer) (sets-padded b room (ys ++ x ∷ []) xs rest ∙ ap (padded b room) (append_assoc ys (x ∷ []) xs))

  -- what stands behind it, and a store that it fills
  pub padded-drop : (b : A) (room : ℕ) (xs : List A) → drop (length xs) (padded b room xs) ≡ replicate (room - length xs) b
  unfolding padded
  padded-drop b room xs = drop_at xs (replicate (room - length xs) b) (length xs) refl

  pub full-store : (b : A) (room : ℕ) (xs : List A) → length xs ≡ room → padded b room xs ≡ xs
  full-store b room xs e = ap (λ (k : ℕ). padded b k xs) (sym e) ∙ padded-full b xs
