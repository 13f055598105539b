-- What stands at a place: of a function changed at one place, of a run, of lists one behind the other, of a filled list.
use mathlib.Core.Path.{◌≡◌, refl, sym, ap, ◌∙◌}
use mathlib.Core.Logic.{⊎_elim}
use mathlib.Core.Bool.{true, false}
use mathlib.Core.List.{List, [], ◌∷◌, ◌++◌, map, append-nil, append_assoc}
use Prim.Native.Nat.{ℕ, zero, suc, ◌+◌, ◌-◌, ◌≤◌, ◌<◌, suc-le-suc}
use native.Mathlib.Nat.{add-zero, add-suc, suc-add, sub_self, sub-zero}
use native.Mathlib.Numerals.{one-add, add-one}
use native.Mathlib.Omega.{arith}
use lib.Dec.{eqb}
use lib.ListN.{length, get_or, take, replicate, length-append, length-map, length-replicate, get_or-append, drop}
use lib.Seq.{take-suc, take-append_seam, get_or-append-add, take-nil}
use borrow.Author.Tests.{eqb-true, eqb-false, eq-eqb, ne_eqb}
use Rattle.lists.specs.Functions.{update, total, chain, padded}
use Rattle.lists.specs.Sets.{member, Ascending, run, upto, index_of}
use Rattle.lists.proofs.Members.{by_test, member_head, member_tail, member_cases, not-member-nil, fails, not_in}
use Rattle.lists.proofs.Order.{member-low, member-above}

module _ {ℓ} {A : Type ℓ} where
  -- a function changed at a place has the new value there
  pub update_same : (f : ℕ → A) (k : ℕ) (v : A) → update f k v k ≡ v
  unfolding update
  update_same f k v = rw (eq-eqb k k refl)

  -- a function changed at a place is the same at the others
  pub update_other : (f : ℕ → A) (k : ℕ) (v : A) (j : ℕ) → (j ≡ k → ⊥) → update f k v j ≡ f j
  unfolding update
  update_other f k v j n = rw (ne_eqb j k n)

  -- the same, where a test tells that the place is another
  pub update-untouched : (f : ℕ → A) (k : ℕ) (v : A) (j : ℕ) → eqb j k ≡ false → update f k v j ≡ f j
  unfolding update
  update-untouched f k v j e = rw e

-- a run goes on by the next number behind it
pub run_snoc : (a d : ℕ) → run a (suc d) ≡ run a d ++ (a + d) ∷ []
unfolding run
run_snoc a zero = rw add-zero
run_snoc a (suc d) = rw (add-suc, ← suc-add) (ap (λ (zs : List ℕ). a ∷ zs) (run_snoc (suc a) d))

-- a run is as long as it is said to be
pub length_run : (a d : ℕ) → length (run a d) ≡ d
unfolding run
length_run a zero = refl
length_run a (suc d) = ap suc (length_run (suc a) d)

-- the number at each place of a run
pub get_or_run : (a d i z : ℕ) → i < d → get_or (run a d) i z ≡ a + i
unfolding run
get_or_run a zero i z l = absurd (omega arith)
get_or_run a (suc d) zero z l = sym (add-zero a)
get_or_run a (suc d) (suc i) z l = get_or_run (suc a) d i z (omega arith) ∙ omega arith

-- the numbers 1 to n + 1 are those to n and one more
pub upto_snoc : (n : ℕ) → upto (suc n) ≡ upto n ++ suc n ∷ []
unfolding upto
upto_snoc n = run_snoc 1 n ∙ rw (one-add n)

-- the numbers 1 to n are n
pub length-upto : (n : ℕ) → length (upto n) ≡ n
unfolding upto
length-upto n = length_run 1 n

module _ {ℓ} {A : Type ℓ} where
  -- a value for each number of a run: as many as the run is long
  pub length-map_run : (f : ℕ → A) (a d : ℕ) → length (map f (run a d)) ≡ d
  length-map_run f a d = length-map (run a d) f ∙ length_run a d

  -- a value for each number of a run: the one at each place
  pub get_or-map_run : (f : ℕ → A) (a d i : ℕ) (z : A) → i < d → get_or (map f (run a d)) i z ≡ f (a + i)
  unfolding run
  get_or-map_run f a zero i z l = absurd (omega arith)
  get_or-map_run f a (suc d) zero z l = rw add-zero
  get_or-map_run f a (suc d) (suc i) z l = get_or-map_run f (suc a) d i z (omega arith) ∙ rw (suc-add, add-suc)

-- the number i of 1 to n stands at place i - 1
pub upto_at : (n i : ℕ) → 1 ≤ i → i ≤ n → get_or (upto n) (i - 1) 0 ≡ i
unfolding upto
upto_at n i low high = let e : 1 + (i - 1) ≡ i = omega arith in get_or_run 1 n (i - 1) 0 (omega arith) ∙ e

module _ {ℓ} {A : Type ℓ} where
  -- a value for each of 1 to n: n values
  pub length-map-upto : (f : ℕ → A) (n : ℕ) → length (map f (upto n)) ≡ n
  unfolding upto
  length-map-upto f n = length-map_run f 1 n

  -- a value for each of 1 to n: that of i stands at place i - 1
  pub map-upto_at : (f : ℕ → A) (n i : ℕ) (z : A) → 1 ≤ i → i ≤ n → get_or (map f (upto n)) (i - 1) z ≡ f i
  unfolding upto
  map-upto_at f n i z low high = let e : 1 + (i - 1) ≡ i = omega arith in get_or-map_run f 1 n (i - 1) z (omega arith) ∙ ap f e

  -- a value for each member of a list: the one at each place
  pub get_or_mapped : (f : ℕ → A) (xs : List ℕ) (i : ℕ) (z : A) → i < length xs → get_or (map f xs) i z ≡ f (get_or xs i 0)
  get_or_mapped f [] i z l = absurd (omega arith)
  get_or_mapped f (x ∷ xs) zero z l = refl
  get_or_mapped f (x ∷ xs) (suc i) z l = get_or_mapped f xs i z (omega arith)

  -- the places from f to t, however they are cut out
  pub slice_part : (f t : ℕ) (xs : List A) → f ≤ t → take (t - f) (drop f xs) ≡ drop f (take t xs)
  slice_part zero t xs h = let e : t - 0 ≡ t = omega arith in rw e
  slice_part (suc f) zero xs h = absurd (omega arith)
  slice_part (suc f) (suc t) [] h = take-nil (suc t - suc f)
  slice_part (suc f) (suc t) (x ∷ xs) h = let e : suc t - suc f ≡ t - f = omega arith in rw e (slice_part f t xs (omega arith))

-- the place of a member is one of the list's
pub index_below : (x : ℕ) (xs : List ℕ) → member x xs ≡ true → index_of x xs < length xs
unfolding index_of
index_below x [] e = absurd (not-member-nil x e)
index_below x (y ∷ ys) e = by_test (eqb x y)
    (λ q. rw q (omega arith))
    (λ q. rw q (suc-le-suc (⊎_elim (λ p. absurd (eqb-false x y q p)) (index_below x ys) (member_cases x y ys e))))

-- a member stands at its place
pub index_at : (x : ℕ) (xs : List ℕ) → member x xs ≡ true → get_or xs (index_of x xs) 0 ≡ x
unfolding index_of
index_at x [] e = absurd (not-member-nil x e)
index_at x (y ∷ ys) e = by_test (eqb x y)
    (λ q. rw q (sym (eqb-true x y q)))
    (λ q. rw q (⊎_elim (λ p. absurd (eqb-false x y q p)) (index_at x ys) (member_cases x y ys e)))

-- what stands at a place is a member
pub member_at : (i : ℕ) (xs : List ℕ) → i < length xs → member (get_or xs i 0) xs ≡ true
member_at i [] l = absurd (omega arith)
member_at zero (y ∷ ys) l = member_head y ys
member_at (suc i) (y ∷ ys) l = member_tail (get_or ys i 0) y ys (member_at i ys (omega arith))

-- the members of an ascending list do not fall
pub ascending_at : (low i j : ℕ) (xs : List ℕ) → Ascending low xs → i ≤ j → j < length xs → get_or xs i 0 ≤ get_or xs j 0
unfolding Ascending
ascending_at low i j [] h l u = absurd (omega arith)
ascending_at low zero zero (x ∷ xs) h l u = omega arith
ascending_at low zero (suc j) (x ∷ xs) h l u =
    let m : suc x ≤ get_or xs j 0 = member-low (get_or xs j 0) (suc x) xs h.1 (member_at j xs (omega arith)) in
    omega arith
ascending_at low (suc i) zero (x ∷ xs) h l u = absurd (omega arith)
ascending_at low (suc i) (suc j) (x ∷ xs) h l u = ascending_at (suc x) i j xs h.1 (omega arith) (omega arith)

-- and rise from one place to a later one
pub ascending_below : (low i j : ℕ) (xs : List ℕ) → Ascending low xs → i < j → j < length xs → get_or xs i 0 < get_or xs j 0
unfolding Ascending
ascending_below low i j [] h l u = absurd (omega arith)
ascending_below low i zero (x ∷ xs) h l u = absurd (omega arith)
ascending_below low zero (suc j) (x ∷ xs) h l u = member-low (get_or xs j 0) (suc x) xs h.1 (member_at j xs (omega arith))
ascending_below low (suc i) (suc j) (x ∷ xs) h l u = ascending_below (suc x) i j xs h.1 (omega arith) (omega arith)

-- no member of an ascending list is above the last
pub member_last : (a x i : ℕ) (xs : List ℕ) → Ascending a xs → length xs ≡ suc i → member x xs ≡ true → x ≤ get_or xs i 0
unfolding Ascending
member_last a x i [] h e m = absurd (omega arith)
member_last a x zero (y ∷ []) h e m = ⊎_elim (λ (q : x ≡ y). omega arith) (λ r. absurd (not-member-nil x r)) (member_cases x y [] m)
member_last a x zero (y ∷ (z ∷ zs)) h e m = absurd (omega arith)
member_last a x (suc i) (y ∷ ys) h e m =
    ⊎_elim
    (λ (q : x ≡ y). omega (arith, member-above (get_or ys i 0) a y ys h (member_at i ys (omega arith))))
    (λ r. member_last (suc y) x i ys h.1 (omega arith) r) (member_cases x y ys m)

-- what stands at a place of an ascending list does not stand before it
pub not-before : (a i : ℕ) (xs : List ℕ) → Ascending a xs → i < length xs → member (get_or xs i 0) (take i xs) ≡ false
unfolding Ascending
not-before a i [] h l = absurd (omega arith)
not-before a zero (y ∷ ys) h l = fails (member y []) (not-member-nil y)
not-before a (suc i) (y ∷ ys) h l =
    let up : y < get_or ys i 0 = member-above (get_or ys i 0) a y ys h (member_at i ys (omega arith)) in
    not_in (get_or ys i 0) y (take i ys) (λ q. omega arith) (not-before (suc y) i ys h.1 (omega arith))

-- in an ascending list the place of what stands at a place is that place
pub at_index : (a i : ℕ) (xs : List ℕ) → Ascending a xs → i < length xs → index_of (get_or xs i 0) xs ≡ i
unfolding index_of Ascending
at_index a i [] h l = absurd (omega arith)
at_index a zero (y ∷ ys) h l = rw (eq-eqb y y refl)
at_index a (suc i) (y ∷ ys) h l =
    let k : i < length ys = omega arith in
    let up : y < get_or ys i 0 = member-above (get_or ys i 0) a y ys h (member_at i ys k) in
    let other : eqb (get_or ys i 0) y ≡ false = ne_eqb (get_or ys i 0) y (omega arith) in
    rw other (ap suc (at_index (suc y) i ys h.1 k))

module _ {ℓ} {A : Type ℓ} where
  -- the sum over two lists one behind the other is both sums
  pub total-append : (f : A → ℕ) (xs ys : List A) → total f (xs ++ ys) ≡ total f xs + total f ys
  unfolding total
  total-append f [] ys = omega arith
  total-append f (x ∷ xs) ys = rw (total-append f xs ys) (omega arith)

module _ {ℓ κ} {A : Type ℓ} {B : Type κ} where
  -- the lists of two lists' members are those of both, one behind the other
  pub chain-append : (f : A → List B) (xs ys : List A) → chain f (xs ++ ys) ≡ chain f xs ++ chain f ys
  unfolding chain
  chain-append f [] ys = refl
  chain-append f (x ∷ xs) ys = rw (chain-append f xs ys) (sym (append_assoc (f x) (chain f xs) (chain f ys)))

  -- lists one behind the other are as long as all together
  pub length-chain : (f : A → List B) (xs : List A) → length (chain f xs) ≡ total (λ x. length (f x)) xs
  unfolding chain total
  length-chain f [] = refl
  length-chain f (x ∷ xs) = rw (length-append, length-chain f xs)

  -- what stands at each place of the list that belongs to one member
  pub get_or-chain : (f : A → List B) (p : List A) (x : A) (q : List A) (i : ℕ) (z : B) → i < length (f x)
      → get_or (chain f (p ++ x ∷ q)) (length (chain f p) + i) z ≡ get_or (f x) i z
  unfolding chain
  get_or-chain f p x q i z l = rw (chain-append f p (x ∷ q)) (get_or-append-add (chain f p) (f x ++ chain f q) i z ∙ get_or-append (f x) (chain f q) z i l)

module _ {ℓ} {A : Type ℓ} where
  -- a filled list is as long as there is room
  pub length-padded : (z : A) (room : ℕ) (xs : List A) → length xs ≤ room → length (padded z room xs) ≡ room
  unfolding padded
  length-padded z room xs l = rw (length-append, length-replicate) (omega arith)

  -- a filled list begins with the list
  pub padded-take : (z : A) (room : ℕ) (xs : List A) → take (length xs) (padded z room xs) ≡ xs
  unfolding padded
  padded-take z room xs = take-append_seam xs (replicate (room - length xs) z)

  -- where there is no more room, nothing is filled up
  pub padded-full : (z : A) (xs : List A) → padded z (length xs) xs ≡ xs
  unfolding padded
  padded-full z xs = rw sub_self (append-nil xs)

  -- a blank store reads as the blank everywhere, and behind its end too
  pub blank_read : (z : A) (room i : ℕ) → get_or (replicate room z) i z ≡ z
  blank_read z zero i = refl
  blank_read z (suc room) zero = refl
  blank_read z (suc room) (suc i) = blank_read z room i

  -- no list filled up is the one value as often as there is room
  pub padded-nil : (z : A) (room : ℕ) → padded z room [] ≡ replicate room z
  unfolding padded
  padded-nil z room = rw sub-zero

-- the members before place i and the one there
pub take_more : (i : ℕ) (xs : List ℕ) → i < length xs → take (i + 1) xs ≡ take i xs ++ get_or xs i 0 ∷ []
take_more i xs l = rw add-one (take-suc xs i 0 l)
