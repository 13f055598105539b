-- Sets as ascending lists, and the small functions on lists.
use Rattle.std.specs.Prelude.{true, false, List, [], ◌∷◌, map, ◌≡◌, ℕ, suc, ◌+◌, ◌*◌, ltb, leb}
use Rattle.lists.specs.Functions.{update, keep, all, some, empty, total, chain, padded, same}
use Rattle.lists.specs.Sets.{member, run, upto, between, union, join_all, from, first, least_above, index_of, begins, overlap}
use Rattle.foundation.specs.Table.{Case, case, matches, Holds}
use Rattle.foundation.specs.Cases.Show.{flags, row}

-- What the tables themselves rest on, without a table: every member of a list passes a test, of none, of two, not the first, not the last; two lists
-- are the same, both empty, both of two, not one longer on either side, nor other in the first or the last; so with lists of lists; and a
-- table with a row that does not match does not hold.
unfoldable pub Ground : Type 0
Ground =
    (all (leb 2) [] ≡ true)
    × (all (leb 2) (2 ∷ 3 ∷ []) ≡ true)
    × (all (leb 2) (1 ∷ 3 ∷ []) ≡ false)
    × (all (leb 2) (3 ∷ 1 ∷ []) ≡ false)
    × (same [] [] ≡ true)
    × (same (1 ∷ 2 ∷ []) (1 ∷ 2 ∷ []) ≡ true)
    × (same [] (1 ∷ []) ≡ false)
    × (same (1 ∷ []) [] ≡ false)
    × (same (1 ∷ []) (1 ∷ 2 ∷ []) ≡ false)
    × (same (1 ∷ 2 ∷ []) (1 ∷ []) ≡ false)
    × (same (3 ∷ 2 ∷ []) (1 ∷ 2 ∷ []) ≡ false)
    × (same (1 ∷ 3 ∷ []) (1 ∷ 2 ∷ []) ≡ false)
    × (same (0 ∷ []) (1 ∷ []) ≡ false)
    × (matches (case [] []) ≡ true)
    × (matches (case ((1 ∷ []) ∷ (2 ∷ []) ∷ []) ((1 ∷ []) ∷ (2 ∷ []) ∷ [])) ≡ true)
    × (matches (case [] ([] ∷ [])) ≡ false)
    × (matches (case ([] ∷ []) []) ≡ false)
    × (matches (case ((1 ∷ []) ∷ (2 ∷ []) ∷ []) ((3 ∷ []) ∷ (2 ∷ []) ∷ [])) ≡ false)
    × (matches (case ((1 ∷ []) ∷ (2 ∷ []) ∷ []) ((1 ∷ []) ∷ (3 ∷ []) ∷ [])) ≡ false)
    × (Holds (case [] ([] ∷ []) ∷ []) → ⊥)

unfoldable pub list_cases : List Case
list_cases =
    -- a function changed at one place
    row (map (update suc 2 9) (0 ∷ 1 ∷ 2 ∷ 3 ∷ [])) (1 ∷ 2 ∷ 9 ∷ 4 ∷ [])
    -- the members that pass, in order
    ∷ row (keep (ltb 2) (3 ∷ 1 ∷ 4 ∷ 2 ∷ 5 ∷ [])) (3 ∷ 4 ∷ 5 ∷ [])
    -- whether some member passes: of none, the first, the last, no one
    ∷ row (flags (some (leb 2) [] ∷ some (leb 2) (2 ∷ 1 ∷ []) ∷ some (leb 2) (1 ∷ 2 ∷ []) ∷ some (leb 2) (1 ∷ 1 ∷ []) ∷ [])) (0 ∷ 1 ∷ 1 ∷ 0 ∷ [])
    -- whether a list has no member
    ∷ row (flags (empty {A = ℕ} [] ∷ empty {A = ℕ} (0 ∷ []) ∷ [])) (1 ∷ 0 ∷ [])
    -- a sum over the members; of none it is 0
    ∷ row (total (λ x. x * x) (2 ∷ 3 ∷ 5 ∷ []) ∷ total (λ x. x * x) [] ∷ []) (38 ∷ 0 ∷ [])
    -- lists one behind the other
    ∷ row (chain (λ x. x ∷ (x + 5) ∷ []) (1 ∷ 2 ∷ [])) (1 ∷ 6 ∷ 2 ∷ 7 ∷ [])
    -- filled up to 5, to its own length, and never cut
    ∷ row (padded 7 5 (1 ∷ 2 ∷ [])) (1 ∷ 2 ∷ 7 ∷ 7 ∷ 7 ∷ [])
    ∷ row (padded 7 2 (1 ∷ 2 ∷ [])) (1 ∷ 2 ∷ [])
    ∷ row (padded 7 1 (1 ∷ 2 ∷ [])) (1 ∷ 2 ∷ [])
    -- a member: of none, the first, the last, none of them
    ∷ row (flags (member 1 [] ∷ member 1 (1 ∷ 4 ∷ []) ∷ member 4 (1 ∷ 4 ∷ []) ∷ member 2 (1 ∷ 4 ∷ []) ∷ [])) (0 ∷ 1 ∷ 1 ∷ 0 ∷ [])
    -- so many numbers from one on; 1 to n; a to b, one of them, none
    ∷ row (run 4 3) (4 ∷ 5 ∷ 6 ∷ [])
    ∷ row (upto 3) (1 ∷ 2 ∷ 3 ∷ [])
    ∷ row (between 3 5) (3 ∷ 4 ∷ 5 ∷ [])
    ∷ row (between 3 3) (3 ∷ [])
    ∷ row (between 4 3) []
    -- the union, a common member once; of an empty set on either side
    ∷ row (union (1 ∷ 3 ∷ 5 ∷ []) (2 ∷ 3 ∷ 6 ∷ 7 ∷ [])) (1 ∷ 2 ∷ 3 ∷ 5 ∷ 6 ∷ 7 ∷ [])
    ∷ row (union (2 ∷ 9 ∷ []) (1 ∷ 2 ∷ [])) (1 ∷ 2 ∷ 9 ∷ [])
    ∷ row (union [] (1 ∷ 2 ∷ [])) (1 ∷ 2 ∷ [])
    ∷ row (union (1 ∷ 2 ∷ []) []) (1 ∷ 2 ∷ [])
    -- a set, and the sets of two members joined to it
    ∷ row (join_all (λ x. x ∷ (x + 3) ∷ []) (4 ∷ []) (1 ∷ 3 ∷ [])) (1 ∷ 3 ∷ 4 ∷ 6 ∷ [])
    -- the members that are 3 or more
    ∷ row (from 3 (1 ∷ 3 ∷ 5 ∷ [])) (3 ∷ 5 ∷ [])
    -- the first member; the least above 3; 0 where there is none
    ∷ row (first (4 ∷ 6 ∷ []) ∷ first [] ∷ least_above 3 (1 ∷ 3 ∷ 5 ∷ 7 ∷ []) ∷ least_above 7 (1 ∷ 7 ∷ []) ∷ []) (4 ∷ 0 ∷ 5 ∷ 0 ∷ [])
    -- the place of a member, from 0
    ∷ row (index_of 2 (2 ∷ 4 ∷ 6 ∷ []) ∷ index_of 6 (2 ∷ 4 ∷ 6 ∷ []) ∷ index_of 2 (4 ∷ 2 ∷ []) ∷ index_of 1 [] ∷ []) (0 ∷ 2 ∷ 1 ∷ 0 ∷ [])
    -- how a list begins: with none, with its first, with itself; not with more than it has, nor with another first or last
    ∷ row (flags (begins [] [] ∷ begins [] (1 ∷ []) ∷ begins (1 ∷ []) (1 ∷ 2 ∷ []) ∷ begins (1 ∷ 2 ∷ []) (1 ∷ 2 ∷ []) ∷ [])) (1 ∷ 1 ∷ 1 ∷ 1 ∷ [])
    ∷ row (flags (begins (1 ∷ 2 ∷ []) (1 ∷ []) ∷ begins (2 ∷ []) (1 ∷ 2 ∷ []) ∷ begins (1 ∷ 3 ∷ []) (1 ∷ 2 ∷ []) ∷ [])) (0 ∷ 0 ∷ 0 ∷ [])
    -- document 02, ticket 5: "the longest run for which the last t subscripts of the whole store equal the first t of the new list": all, some, the longer of two, none, of no list
    ∷ row (overlap (3 ∷ 4 ∷ []) (3 ∷ 4 ∷ 6 ∷ []) ∷ overlap (1 ∷ 3 ∷ 4 ∷ []) (3 ∷ 4 ∷ 6 ∷ []) ∷ overlap (2 ∷ 1 ∷ 2 ∷ 1 ∷ 2 ∷ []) (1 ∷ 2 ∷ 1 ∷ 2 ∷ 9 ∷ []) ∷ []) (2 ∷ 2 ∷ 4 ∷ [])
    ∷ row (overlap (3 ∷ 4 ∷ []) (3 ∷ 6 ∷ []) ∷ overlap [] (3 ∷ []) ∷ overlap (3 ∷ []) [] ∷ []) (0 ∷ 0 ∷ 0 ∷ [])
    ∷ []
