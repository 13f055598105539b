-- How a list grows by unions at the front of a store, and how far a chain has been joined.
use mathlib.Core.Bool.{true}
use mathlib.Core.List.{List, [], ◌∷◌, ◌++◌}
use mathlib.Core.Path.{◌≡◌, sym, ap, ◌∙◌}
use Prim.Native.Nat.{ℕ, suc, ◌+◌, ◌-◌, ◌≤◌}
use native.Mathlib.Nat.{sub-zero}
use native.Mathlib.Omega.{arith}
use lib.ListN.{length, take, drop, length-append}
use lib.Seq.{take_at}
use Rattle.lists.specs.Sets.{member, Ascending, union, join_all}
use Rattle.lists.proofs.Members.{member_head, member_tail}
use Rattle.plan_gather.specs.Gathering.{without, Within, GrownIn}
use Rattle.plan_gather.proofs.Joining.{part_is, within-length, joined_within}

-- ---- a list joins

-- the places up to `count`, as the code lends them
abbrev pub front : ℕ → List ℕ → List ℕ
front count have = take (count - 0) have

-- and those from `at` on
abbrev pub added : ℕ → List ℕ → List ℕ
added at comes = take (length comes - at) (drop at comes)

module _ {n k count : ℕ} {have xs more comes : List ℕ} (h : GrownIn n count have xs) (w : Within (suc k) n xs)
    (m : Within k n more) (cut : comes ≡ without k more) where
  front_is : front count have ≡ xs
  front_is = let c : count - 0 ≡ count = omega arith in rw c h.is

  union_is : union (front count have) comes ≡ union xs (without k more)
  union_is = rw (front_is, cut)

  union-fits : length (union (front count have) comes) ≤ n
  union-fits = rw union_is (within-length k n (union xs (without k more)) (joined_within k n xs more w m))

  -- a merge has room in the store
  pub merge_room : (count ≤ length have) × (length (union (take count have) comes) ≤ length have)
  merge_room =
      let size = h.store_size in
      let fits = h.fits in
      let room : length (union (take count have) comes) ≤ n = rw sub-zero at union-fits in
      (omega arith, omega arith)

  -- and then the store has the union
  pub merge_grown :
      {have' : List ℕ} {r : ℕ} → length have' ≡ length have
      → (r ≡ length (union (take count have) comes)) × (take r have' ≡ union (take count have) comes)
      → (m : ℕ) (ys : List ℕ) → GrownIn m count have ys → GrownIn m r have' (union ys (without k more))
  merge_grown l (q, t) m ys g =
      let same : ys ≡ xs = sym g.is ∙ h.is in
      let whole : union (take count have) comes ≡ union xs (without k more) = rw sub-zero at union_is in
      let f = union-fits in
      rw same
      (record {
        store_size = l ∙ g.store_size;
        size = q ∙ ap length whole;
        fits = rw (q ∙ ap length whole ∙ sym (ap length union_is)) (omega (arith, f, h.store_size, g.store_size));
        is = t ∙ whole;
      })

  -- where the list only adds behind the end, from `at` on
  module _ (at : ℕ)
      (behind : (at ≤ length comes) × ((low : ℕ) → Ascending low (front count have) → union (front count have) comes ≡ front count have ++ drop at comes)) where
    rest_is : union xs (without k more) ≡ xs ++ drop at comes
    rest_is = sym union_is ∙ behind.1 (suc k) (rw front_is w.ascending) ∙ rw front_is

    -- what is added has room in the same store
    pub behind-room : count + length (added at comes) ≤ length have
    behind-room =
        let l = h.store_size in
        let c = h.size in
        let f = union-fits in
        let e = ap length (union_is ∙ rest_is) ∙ length-append xs (drop at comes) in
        rw (part_is comes at) (omega arith)

    -- and then that store has the union
    pub behind-grown :
        {have' : List ℕ} {r : ℕ} → length have' ≡ length have
        → (r ≡ count + length (added at comes)) × (have' ≡ take count have ++ added at comes ++ drop (count + length (added at comes)) have)
        → (m : ℕ) (ys : List ℕ) → GrownIn m count have ys → GrownIn m r have' (union ys (without k more))
    behind-grown {have'} {r} l (q, t) m ys g =
        let same : ys ≡ xs = sym g.is ∙ h.is in
        let room = behind-room in
        let size = h.size in
        let list = g.store_size in
        let whole : union xs (without k more) ≡ xs ++ added at comes = rest_is ∙ rw (part_is comes at) in
        let long : r ≡ length (xs ++ added at comes) = q ∙ rw (size, length-append) in
        rw (same, whole)
        (record {
          store_size = l ∙ g.store_size;
          size = long;
          fits = omega arith;
          is = rw (t, h.is) (take_at (xs ++ added at comes) _ r (sym long));
        })

-- ---- how far a chain has been joined

-- The list grown and what is `left` of a chain make the whole. What is left is among `all`.
pub record Gathers (n k count : ℕ) (growing : List ℕ) (part : ℕ → List ℕ) (all whole left : List ℕ) : Type 0 where
  pub so_far : List ℕ
  pub grown : GrownIn n count growing so_far
  pub within : Within (suc k) n so_far
  pub among : (i : ℕ) → member i left ≡ true → member i all ≡ true
  pub comes : join_all part so_far left ≡ whole

module _ {n k count : ℕ} {growing : List ℕ} {part : ℕ → List ℕ} {all whole left : List ℕ} (g : Gathers n k count growing part all whole left) where
  -- the chain is passed
  pub gathers_end : left ≡ [] → GrownIn n count growing whole
  unfolding join_all
  gathers_end none = rw (rw none at g.comes) at g.grown

  module _ {i : ℕ} {later : List ℕ} (next : left ≡ i ∷ later) where
    -- the chain's next member
    pub gathers_here : member i all ≡ true
    gathers_here = g.among i (rw next (member_head i later))

    -- its list is joined
    pub gathers_turn :
        {count' : ℕ} {growing' : List ℕ} (more : List ℕ) → Within k n more → without k more ≡ part i
        → GrownIn n count' growing' (union g.so_far (without k more)) → Gathers n k count' growing' part all whole later
    unfolding join_all
    gathers_turn more w e h =
        record {
          so_far = union g.so_far (without k more);
          grown = h;
          within = joined_within k n g.so_far more g.within w;
          among = λ j m. g.among j (rw next (member_tail j i later m));
          comes = rw e (rw next at g.comes);
        }
