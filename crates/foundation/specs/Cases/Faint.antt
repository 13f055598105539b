-- Pivots around the least magnitude that one must have: document 02, Ticket 14. Rows of the square and right sides are bit patterns.
use Rattle.std.specs.Prelude.{List, [], ◌∷◌, map, ℕ}
use Rattle.foundation.specs.Pattern.{Pattern}
use Rattle.foundation.specs.Numbers.{least_pivot, may_pivot}
use Rattle.foundation.specs.Reference.{largest, listed, whole, cut, pivot_row, sound_place}
use Rattle.foundation.specs.Table.{Case, case}
use Rattle.foundation.specs.Cases.Show.{flag, flags, float, floats, pattern, row, three}
use Rattle.foundation.specs.Cases.Reference.{two, side_of, solve}
use Rattle.foundation.specs.Cases.StepParts.{one, most, infinity, sound_second}

-- 2 to the power -1022, the largest number below it, each with either sign, and the least number above 0
abbrev pub limit : ℕ
limit = 0x0010000000000000

abbrev pub minus_limit : ℕ
minus_limit = 0x8010000000000000

abbrev pub fainter : ℕ
fainter = 0x000FFFFFFFFFFFFF

abbrev pub minus_fainter : ℕ
minus_fainter = 0x800FFFFFFFFFFFFF

abbrev pub faintest : ℕ
faintest = 0x0000000000000001

-- the one place of one row
abbrev pub single : Pattern
single = record { n = 1; height = 1; row = λ i. 1 ∷ [] }

unfoldable pub limit_cases : List Case
limit_cases =
    -- "2 to the power -1022"
    row (pattern least_pivot ∷ []) (limit ∷ [])
    -- "A pivot must have magnitude at least 2 to the power -1022": that number and the next one, the number before it and the least, twice it, of either sign
    ∷ row
    (flags
    (map may_pivot
    (floats
    (limit ∷ minus_limit ∷ 0x0010000000000001 ∷ 0x8010000000000001 ∷ fainter ∷ minus_fainter ∷ faintest ∷ 0x8000000000000001 ∷ 0x0020000000000000 ∷ 0x8020000000000000 ∷ []))))
    (1 ∷ 1 ∷ 1 ∷ 1 ∷ 0 ∷ 0 ∷ 0 ∷ 0 ∷ 1 ∷ 1 ∷ [])
    -- "choice among rows passes over the rest, and 13 is given where none is left or the listed row is fainter": the rows from step 1, 2 and 3 on; each row by a list
    ∷ row (map (λ k. pivot_row largest 3 k (side_of (fainter ∷ minus_limit ∷ minus_fainter ∷ []))) (1 ∷ 2 ∷ 3 ∷ [])) (2 ∷ 2 ∷ 0 ∷ [])
    ∷ row (map (λ k. pivot_row largest 3 k (side_of (minus_fainter ∷ fainter ∷ faintest ∷ []))) (1 ∷ 2 ∷ 3 ∷ [])) (0 ∷ 0 ∷ 0 ∷ [])
    ∷ row (map (λ k. pivot_row (listed (1 ∷ 2 ∷ 3 ∷ [])) 3 k (side_of (fainter ∷ minus_limit ∷ minus_fainter ∷ []))) (1 ∷ 2 ∷ 3 ∷ [])) (0 ∷ 2 ∷ 0 ∷ [])
    -- 14 looks at faint numbers too: a faint entry of the pivot row beside an infinite place; a faint entry below a pivot at the limit, where the largest number less a part of its negative
    -- is not finite; a faint multiplier beside an infinite place
    ∷ row
    (flag (sound_place (float one) (float faintest) (float infinity))
    ∷ sound_second ((limit ∷ 0xFFEFFFFFFFFFFFFF ∷ []) ∷ (fainter ∷ most ∷ []) ∷ []) (one ∷ one ∷ [])
    ∷ sound_second ((one ∷ one ∷ []) ∷ (faintest ∷ infinity ∷ []) ∷ []) (one ∷ one ∷ [])
    ∷ [])
    (0 ∷ 0 ∷ 0 ∷ [])
    -- "at least 2 to the power -1022": exactly that serves, with either sign
    ∷ case (solve single largest whole ((limit ∷ []) ∷ []) (limit ∷ []))
    ((1 ∷ []) ∷ (1 ∷ []) ∷ (0 ∷ []) ∷ (one ∷ []) ∷ (limit ∷ []) ∷ [])
    ∷ case (solve single largest whole ((minus_limit ∷ []) ∷ []) (limit ∷ []))
    ((1 ∷ []) ∷ (1 ∷ []) ∷ (0 ∷ []) ∷ (0xBFF0000000000000 ∷ []) ∷ (minus_limit ∷ []) ∷ [])
    -- the largest number below it does not, with either sign, by either choice of rows
    ∷ case (solve single largest whole ((fainter ∷ []) ∷ []) (limit ∷ []))
    ((0 ∷ 13 ∷ 1 ∷ []) ∷ [])
    ∷ case (solve single largest whole ((minus_fainter ∷ []) ∷ []) (limit ∷ []))
    ((0 ∷ 13 ∷ 1 ∷ []) ∷ [])
    ∷ case (solve single (listed (1 ∷ [])) whole ((minus_fainter ∷ []) ∷ []) (limit ∷ []))
    ((0 ∷ 13 ∷ 1 ∷ []) ∷ [])
    ∷ case (solve single (listed (1 ∷ [])) whole ((minus_limit ∷ []) ∷ []) (limit ∷ []))
    ((1 ∷ []) ∷ (1 ∷ []) ∷ (0 ∷ []) ∷ (0xBFF0000000000000 ∷ []) ∷ (minus_limit ∷ []) ∷ [])
    -- "choice among rows passes over the rest": row 2 at the limit, not row 1 just below it
    ∷ case (solve two largest (cut 1) ((fainter ∷ one ∷ []) ∷ (minus_limit ∷ one ∷ []) ∷ []) (one ∷ one ∷ []))
    ((1 ∷ []) ∷ (2 ∷ []) ∷ (1 ∷ []) ∷ (one ∷ 0x3FFFFFFFFFFFFFFF ∷ []) ∷ (minus_limit ∷ one ∷ []) ∷ (0xBFEFFFFFFFFFFFFE ∷ 0x3FFFFFFFFFFFFFFF ∷ []) ∷ [])
    -- two equal faint entries are no tie; of two at the limit the upper row is taken
    ∷ case (solve three largest (cut 1) ((fainter ∷ 0 ∷ 0 ∷ []) ∷ (minus_fainter ∷ 0 ∷ 0 ∷ []) ∷ (limit ∷ one ∷ 0 ∷ []) ∷ []) (0 ∷ 0 ∷ 0 ∷ []))
    ((1 ∷ []) ∷ (3 ∷ []) ∷ (2 ∷ []) ∷ (0 ∷ 0 ∷ 0 ∷ []) ∷ (limit ∷ one ∷ 0 ∷ []) ∷ (0xBFEFFFFFFFFFFFFE ∷ 0x3FEFFFFFFFFFFFFE ∷ 0 ∷ []) ∷ (0x3FEFFFFFFFFFFFFE ∷ 0xBFEFFFFFFFFFFFFE ∷ 0 ∷ []) ∷ [])
    ∷ case (solve three largest (cut 1) ((fainter ∷ 0 ∷ 0 ∷ []) ∷ (minus_limit ∷ 0 ∷ one ∷ []) ∷ (limit ∷ one ∷ 0 ∷ []) ∷ []) (0 ∷ 0 ∷ 0 ∷ []))
    ((1 ∷ []) ∷ (2 ∷ []) ∷ (2 ∷ []) ∷ (0 ∷ 0 ∷ 0 ∷ []) ∷ (minus_limit ∷ 0 ∷ one ∷ []) ∷ (0xBFEFFFFFFFFFFFFE ∷ 0 ∷ 0x3FEFFFFFFFFFFFFE ∷ []) ∷ (0xBFF0000000000000 ∷ one ∷ one ∷ []) ∷ [])
    -- "13 is given where none is left": at step 2, where the difference of two numbers is too faint
    ∷ case (solve two largest whole ((limit ∷ limit ∷ []) ∷ (limit ∷ 0x0010000000000001 ∷ []) ∷ []) (one ∷ one ∷ []))
    ((0 ∷ 13 ∷ 2 ∷ []) ∷ [])
    -- a run that is cut before that step does not stop
    ∷ case (solve two largest (cut 1) ((limit ∷ limit ∷ []) ∷ (limit ∷ 0x0010000000000001 ∷ []) ∷ []) (one ∷ one ∷ []))
    ((1 ∷ []) ∷ (1 ∷ []) ∷ (1 ∷ []) ∷ (one ∷ 0 ∷ []) ∷ (limit ∷ limit ∷ []) ∷ (one ∷ faintest ∷ []) ∷ [])
    -- "or the listed row is fainter": row 2, though row 1 serves; row 2 at the limit serves, though row 1 is larger
    ∷ case (solve two (listed (2 ∷ 2 ∷ [])) whole ((one ∷ 0 ∷ []) ∷ (fainter ∷ one ∷ []) ∷ []) (one ∷ one ∷ []))
    ((0 ∷ 13 ∷ 1 ∷ []) ∷ [])
    ∷ case (solve two (listed (2 ∷ 2 ∷ [])) (cut 1) ((one ∷ 0 ∷ []) ∷ (limit ∷ one ∷ []) ∷ []) (one ∷ one ∷ []))
    ((1 ∷ []) ∷ (2 ∷ []) ∷ (1 ∷ []) ∷ (one ∷ 0xFFD0000000000000 ∷ []) ∷ (limit ∷ one ∷ []) ∷ (0x7FD0000000000000 ∷ 0xFFD0000000000000 ∷ []) ∷ [])
    -- "Multipliers and updates treat such entries as today": below the pivot a faint entry is divided, and its multiplier is
    -- subnormal and updates;
    ∷ case (solve two largest (cut 1) ((one ∷ one ∷ []) ∷ (faintest ∷ 0 ∷ []) ∷ []) (one ∷ 0 ∷ []))
    ((1 ∷ []) ∷ (1 ∷ []) ∷ (1 ∷ []) ∷ (one ∷ 0x8000000000000001 ∷ []) ∷ (one ∷ one ∷ []) ∷ (faintest ∷ 0x8000000000000001 ∷ []) ∷ [])
    -- zero, and nothing is updated;
    ∷ case (solve two largest (cut 1) ((0x4010000000000000 ∷ one ∷ []) ∷ (faintest ∷ 0 ∷ []) ∷ []) (one ∷ 0 ∷ []))
    ((1 ∷ []) ∷ (1 ∷ []) ∷ (0 ∷ []) ∷ (one ∷ 0 ∷ []) ∷ (0x4010000000000000 ∷ one ∷ []) ∷ (0 ∷ 0 ∷ []) ∷ [])
    -- normal, over a pivot at the limit
    ∷ case (solve two largest (cut 1) ((limit ∷ one ∷ []) ∷ (faintest ∷ 0 ∷ []) ∷ []) (one ∷ 0 ∷ []))
    ((1 ∷ []) ∷ (1 ∷ []) ∷ (1 ∷ []) ∷ (one ∷ 0xBCB0000000000000 ∷ []) ∷ (limit ∷ one ∷ []) ∷ (0x3CB0000000000000 ∷ 0xBCB0000000000000 ∷ []) ∷ [])
    -- a faint entry of the pivot row updates
    ∷ case (solve two largest (cut 1) ((one ∷ faintest ∷ []) ∷ (one ∷ 0 ∷ []) ∷ []) (one ∷ one ∷ []))
    ((1 ∷ []) ∷ (1 ∷ []) ∷ (1 ∷ []) ∷ (one ∷ 0 ∷ []) ∷ (one ∷ faintest ∷ []) ∷ (one ∷ 0x8000000000000001 ∷ []) ∷ [])
    -- and is taken off in back substitution
    ∷ case (solve two largest whole ((one ∷ faintest ∷ []) ∷ (0 ∷ limit ∷ []) ∷ []) (one ∷ one ∷ []))
    ((1 ∷ []) ∷ (1 ∷ 2 ∷ []) ∷ (0 ∷ []) ∷ (0x3FEFFFFFFFFFFFFE ∷ 0x7FD0000000000000 ∷ []) ∷ (one ∷ faintest ∷ []) ∷ (0 ∷ limit ∷ []) ∷ [])
    -- 14: the quotient over a pivot at the limit is not finite
    ∷ case (solve two (listed (1 ∷ 2 ∷ [])) whole ((limit ∷ 0 ∷ []) ∷ (0x4010000000000000 ∷ one ∷ []) ∷ []) (one ∷ one ∷ []))
    ((0 ∷ 14 ∷ 1 ∷ []) ∷ [])
    -- 13 before 14: the quotient over a faint pivot, which would not be finite, is not taken; over a pivot at the limit it is
    ∷ case (solve two (listed (1 ∷ 2 ∷ [])) whole ((fainter ∷ 0 ∷ []) ∷ (0x4010000000000000 ∷ one ∷ []) ∷ []) (one ∷ one ∷ []))
    ((0 ∷ 13 ∷ 1 ∷ []) ∷ [])
    -- 14 in a run: below a pivot at the limit a faint entry takes the negative of the largest number off the largest
    ∷ case (solve two largest (cut 1) ((limit ∷ 0xFFEFFFFFFFFFFFFF ∷ []) ∷ (fainter ∷ most ∷ []) ∷ []) (0 ∷ 0 ∷ []))
    ((0 ∷ 14 ∷ 1 ∷ []) ∷ [])
    -- in back substitution, over a pivot at the limit
    ∷ case (solve single largest whole ((limit ∷ []) ∷ []) (0x4010000000000000 ∷ []))
    ((0 ∷ 14 ∷ 1 ∷ []) ∷ [])
    -- at step 2 by a list, and cut to 2 steps
    ∷ case (solve two (listed (1 ∷ 2 ∷ [])) whole ((limit ∷ limit ∷ []) ∷ (limit ∷ 0x0010000000000001 ∷ []) ∷ []) (one ∷ one ∷ []))
    ((0 ∷ 13 ∷ 2 ∷ []) ∷ [])
    ∷ case (solve two largest (cut 2) ((limit ∷ limit ∷ []) ∷ (limit ∷ 0x0010000000000001 ∷ []) ∷ []) (one ∷ one ∷ []))
    ((0 ∷ 13 ∷ 2 ∷ []) ∷ [])
    -- no step, no pivot
    ∷ case (solve single largest (cut 0) ((fainter ∷ []) ∷ []) (one ∷ []))
    ((1 ∷ []) ∷ [] ∷ (0 ∷ []) ∷ (one ∷ []) ∷ (fainter ∷ []) ∷ [])
    -- a multiplier of -0
    ∷ case (solve two largest (cut 1) ((0x4010000000000000 ∷ one ∷ []) ∷ (0x8000000000000001 ∷ 0 ∷ []) ∷ []) (one ∷ 0 ∷ []))
    ((1 ∷ []) ∷ (1 ∷ []) ∷ (0 ∷ []) ∷ (one ∷ 0 ∷ []) ∷ (0x4010000000000000 ∷ one ∷ []) ∷ (0x8000000000000000 ∷ 0 ∷ []) ∷ [])
    -- at step 2 row 3 at the limit, not row 2 just below it
    ∷ case (solve three largest (cut 2) ((one ∷ 0 ∷ 0 ∷ []) ∷ (0 ∷ fainter ∷ one ∷ []) ∷ (0 ∷ minus_limit ∷ one ∷ []) ∷ []) (0 ∷ 0 ∷ 0 ∷ []))
    ((1 ∷ []) ∷ (1 ∷ 3 ∷ []) ∷ (1 ∷ []) ∷ (0 ∷ 0 ∷ 0 ∷ []) ∷ (one ∷ 0 ∷ 0 ∷ []) ∷ (0 ∷ minus_limit ∷ one ∷ []) ∷ (0 ∷ 0xBFEFFFFFFFFFFFFE ∷ 0x3FFFFFFFFFFFFFFF ∷ []) ∷ [])
    ∷ []
