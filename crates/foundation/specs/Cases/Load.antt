-- Test loads: document 02, Ticket 6. The draws were worked out from its words, the loads by the program of different authorship.
use Rattle.std.specs.Prelude.{List, [], ◌∷◌, ◌++◌, map, ℕ, zero, suc, length, replicate, take, drop}
use Rattle.lists.specs.Functions.{total}
use Rattle.foundation.specs.Answer.{Answer}
use Rattle.foundation.specs.Numbers.{plus_zero}
use Rattle.foundation.specs.Draw.{stepped, xor_right, xor_left, mixed, drawn, drawn_value}
use Rattle.foundation.specs.Load.{DrawnRow, entered, present_by, asked_state, asked, next_place, row_up_to, Load, with_row, next_row, rows_up_to, load_of}
use Rattle.foundation.specs.LoadCall.{LoadSizes, load_sizes, load_sizes_fit, judged_load, within_entries, loaded, load_answer, LoadStores, load_leaves}
use Rattle.foundation.specs.Table.{Case, case, told, refusal, grant}
use Rattle.foundation.specs.Cases.Show.{flags, patterns, row}

-- the first draws from a state, as many as the first number says
abbrev pub draws : ℕ → ℕ → List ℕ
draws zero state = []
draws (suc more) state = drawn state ∷ draws more (stepped state)

-- a row as far as it is drawn: the state, the columns, the bits of the values
abbrev pub drawn_row : DrawnRow → List (List ℕ)
drawn_row r = (r.state ∷ []) ∷ r.columns ∷ patterns r.values ∷ []

-- a load as far as it is drawn: the state, the row starts, the columns, the bits of the values and of the right side
abbrev pub drawn_load : Load → List (List ℕ)
drawn_load l = (l.state ∷ []) ∷ l.starts ∷ l.columns ∷ patterns l.values ∷ patterns l.right ∷ []

-- the sizes that are asked for, and the load of a seed in stores of these sizes
abbrev pub asks : ℕ → LoadSizes
asks n = load_sizes (suc n) 16384 16384 n

abbrev pub shown_load : Load → List (List ℕ)
shown_load l = l.starts ∷ l.columns ∷ patterns l.values ∷ patterns l.right ∷ []

abbrev pub loads : ℕ → ℕ → ℕ → List (List ℕ)
loads seed n d = told shown_load (loaded seed n d (asks n))

-- what is answered before any draw, and what a call answers
abbrev pub counts : Answer ℕ → List (List ℕ)
counts answer = told (λ count. (count ∷ []) ∷ []) answer

abbrev pub judges : ℕ → ℕ → LoadSizes → List (List ℕ)
judges n d w = counts (judged_load n d w)

-- a load of so many entries, for the limit alone; the number of entries where it is granted
abbrev pub wide : ℕ → Load
wide entries = record { state = 0; starts = 0 ∷ []; columns = replicate entries 1; values = []; right = [] }

abbrev pub limits : ℕ → List (List ℕ)
limits entries = told (λ l. (length l.columns ∷ []) ∷ []) (within_entries (wide entries))

-- the four stores after a call: all of the row starts and the right side; of columns and values the first ones, how many there are, and the sum of the rest
abbrev pub front : ℕ → List ℕ → List (List ℕ)
front count store = take count store ∷ (length store ∷ total (λ x. x) (drop count store) ∷ []) ∷ []

abbrev pub stores_shown : ℕ → LoadStores → List (List ℕ)
stores_shown count s = s.starts ∷ patterns s.right ∷ front count s.columns ++ front count (patterns s.values)

abbrev pub leaves : ℕ → ℕ → ℕ → ℕ → LoadSizes → List (List ℕ)
leaves count seed n d w = counts (load_answer seed n d w) ++ stores_shown count (load_leaves seed n d w)

-- a row that has an entry in column 5, and its state
abbrev pub begun : DrawnRow
begun = record { state = 7; columns = 5 ∷ []; values = plus_zero ∷ [] }

-- a load of one row
abbrev pub one_row : Load
one_row = record { state = 3; starts = 0 ∷ 2 ∷ []; columns = 1 ∷ 4 ∷ []; values = plus_zero ∷ plus_zero ∷ []; right = plus_zero ∷ [] }

unfoldable pub draw_cases : List Case
draw_cases =
    -- "each draw adds 2654435769, dropping what passes 32 bits": to 2^32 - 1, to 2^32 and past it
    row (map stepped (0 ∷ 1640531526 ∷ 1640531527 ∷ 1640531528 ∷ 4294967295 ∷ [])) (2654435769 ∷ 4294967295 ∷ 0 ∷ 1 ∷ 2654435768 ∷ [])
    -- "z xor (z shifted right 16)", "that xor (itself shifted right 11)", "that xor (itself shifted left 7, kept to 32 bits)"
    ∷ row (map (xor_right 16) (1 ∷ 65536 ∷ 305419896 ∷ 2147483648 ∷ 4294967295 ∷ [])) (1 ∷ 65537 ∷ 305415244 ∷ 2147516416 ∷ 4294901760 ∷ [])
    ∷ row (map (xor_right 11) (1 ∷ 65536 ∷ 305419896 ∷ 2147483648 ∷ 4294967295 ∷ [])) (1 ∷ 65568 ∷ 305533170 ∷ 2148532224 ∷ 4292870144 ∷ [])
    ∷ row (map (xor_left 7) (1 ∷ 33554431 ∷ 33554432 ∷ 305419896 ∷ 2147483648 ∷ 4294967295 ∷ [])) (129 ∷ 4261412991 ∷ 33554432 ∷ 136276600 ∷ 2147483648 ∷ 127 ∷ [])
    -- "then z = state, .."
    ∷ row (map mixed (0 ∷ 1 ∷ 65536 ∷ 33554433 ∷ 305419896 ∷ 2147483648 ∷ 4294967295 ∷ [])) (0 ∷ 129 ∷ 8458401 ∷ 33637025 ∷ 135749760 ∷ 2152761360 ∷ 8327136 ∷ [])
    -- the first draws of three seeds
    ∷ row (draws 6 0) (2245302282 ∷ 185081908 ∷ 2313965219 ∷ 370163945 ∷ 2646410846 ∷ 326733158 ∷ [])
    ∷ row (draws 6 1) (2245302665 ∷ 185082037 ∷ 2313964836 ∷ 370163816 ∷ 2646411229 ∷ 326733287 ∷ [])
    ∷ row (draws 6 4294967295) (2245302411 ∷ 185082295 ∷ 2313965090 ∷ 370164590 ∷ 2646410975 ∷ 326733029 ∷ [])
    -- and of one whose first draw is 0
    ∷ row (draws 2 1640531527) (0 ∷ 2245302282 ∷ [])
    -- "(draw mod 2,001) - 1,000": the ends, zero (+0) and its neighbours
    ∷ row (patterns (map drawn_value (0 ∷ 1 ∷ 999 ∷ 1000 ∷ 1001 ∷ 2000 ∷ 2001 ∷ 2002 ∷ 4294967295 ∷ [])))
    (0xc08f400000000000 ∷ 0xc08f380000000000 ∷ 0xbff0000000000000 ∷ 0x0000000000000000 ∷ 0x3ff0000000000000 ∷ 0x408f400000000000 ∷ 0xc08f400000000000 ∷ 0xc08f380000000000 ∷ 0xc05cc00000000000 ∷ [])
    ∷ []

unfoldable pub place_cases : List Case
place_cases =
    -- "the place is present if the draw divides by d without rest": by the draw from the state, not by the state or the next draw
    row (flags (map (λ d. present_by d 1 2 0) (1 ∷ 2 ∷ 3 ∷ 4 ∷ 6 ∷ 2245302282 ∷ 2245302283 ∷ 4294967296 ∷ []))) (1 ∷ 1 ∷ 1 ∷ 0 ∷ 1 ∷ 1 ∷ 0 ∷ 0 ∷ [])
    ∷ row (flags (map (λ d. present_by d 2 1 1) (1 ∷ 2 ∷ 3 ∷ 5 ∷ 7 ∷ 185082037 ∷ []))) (1 ∷ 0 ∷ 0 ∷ 1 ∷ 0 ∷ 0 ∷ [])
    -- d has 64 bits: none of these is 2; the largest draw, and a d beyond it
    ∷ row (flags (map (λ d. present_by d 1 2 0) (4294967298 ∷ 281474976710658 ∷ 9223372036854775810 ∷ []))) (0 ∷ 0 ∷ 0 ∷ [])
    ∷ row (flags (map (λ d. present_by d 1 2 3804709576) (4294967295 ∷ 4294967296 ∷ []))) (1 ∷ 0 ∷ [])
    -- places far from the diagonal
    ∷ row (flags (present_by 4 1 257 0 ∷ present_by 4 9 1 0 ∷ present_by 2 1 1024 0 ∷ present_by 2 1024 1 0 ∷ [])) (0 ∷ 0 ∷ 1 ∷ 1 ∷ [])
    -- a draw of 0 divides by every d
    ∷ row (flags (map (λ d. present_by d 3 2 1640531527) (1 ∷ 2 ∷ 4294967296 ∷ 18446744073709551615 ∷ []))) (1 ∷ 1 ∷ 1 ∷ 1 ∷ [])
    -- "on the diagonal": whatever the draw
    ∷ row (flags (map (λ d. present_by d 2 2 1) (1 ∷ 2 ∷ 18446744073709551615 ∷ []))) (1 ∷ 1 ∷ 1 ∷ [])
    -- "off the diagonal, one draw", and none on it
    ∷ row (asked_state 1 2 7 ∷ asked_state 2 1 7 ∷ asked_state 2 2 7 ∷ asked_state 1 1 0 ∷ []) (2654435776 ∷ 2654435776 ∷ 7 ∷ 0 ∷ [])
    ∷ case (drawn_row (asked 1 2 begun) ++ drawn_row (asked 6 6 begun)) ((2654435776 ∷ []) ∷ (5 ∷ []) ∷ (0 ∷ []) ∷ (7 ∷ []) ∷ (5 ∷ []) ∷ (0 ∷ []) ∷ [])
    -- "one draw gives the value"
    ∷ case (drawn_row (entered 6 begun)) ((2654435776 ∷ []) ∷ (5 ∷ 6 ∷ []) ∷ (0 ∷ 0x407f100000000000 ∷ []) ∷ [])
    -- a place more: absent, present, and on the diagonal
    ∷ case (drawn_row (next_place 5 1 6 begun)) ((2654435776 ∷ []) ∷ (5 ∷ []) ∷ (0 ∷ []) ∷ [])
    ∷ case (drawn_row (next_place 2 1 6 begun)) ((1013904249 ∷ []) ∷ (5 ∷ 6 ∷ []) ∷ (0 ∷ 0xc065000000000000 ∷ []) ∷ [])
    ∷ case (drawn_row (next_place 5 6 6 begun)) ((2654435776 ∷ []) ∷ (5 ∷ 6 ∷ []) ∷ (0 ∷ 0x407f100000000000 ∷ []) ∷ [])
    -- "for each column": none, and the columns of a row one after the other
    ∷ case (drawn_row (row_up_to 2 1 9 0)) ((9 ∷ []) ∷ [] ∷ [] ∷ [])
    ∷ case (drawn_row (row_up_to 2 1 9 1)) ((2654435778 ∷ []) ∷ (1 ∷ []) ∷ (0x4087980000000000 ∷ []) ∷ [])
    ∷ case (drawn_row (row_up_to 2 1 9 4)) ((387276966 ∷ []) ∷ (1 ∷ 4 ∷ []) ∷ (0x4087980000000000 ∷ 0x4089600000000000 ∷ []) ∷ [])
    ∷ case (drawn_row (row_up_to 3 3 9 5)) ((1401181208 ∷ []) ∷ (1 ∷ 3 ∷ 4 ∷ []) ∷ (0xc07aa00000000000 ∷ 0x408a580000000000 ∷ 0xc02a000000000000 ∷ []) ∷ [])
    ∷ case (drawn_row (row_up_to 1 2 4294967295 3)) ((387276956 ∷ []) ∷ (1 ∷ 2 ∷ 3 ∷ []) ∷ (0x4089080000000000 ∷ 0xc073a00000000000 ∷ 0xc081c80000000000 ∷ []) ∷ [])
    ∷ case (drawn_row (row_up_to 1000000 4 9 4)) ((2027808493 ∷ []) ∷ (4 ∷ []) ∷ (0x408a580000000000 ∷ []) ∷ [])
    ∷ case (drawn_row (row_up_to 2 7 9 4)) ((3041712735 ∷ []) ∷ (1 ∷ 3 ∷ []) ∷ (0xc07aa00000000000 ∷ 0x4089600000000000 ∷ []) ∷ [])
    -- "After each row one draw gives the right side likewise.": a row more
    ∷ case (drawn_load (with_row begun one_row)) ((2654435776 ∷ []) ∷ (0 ∷ 2 ∷ 3 ∷ []) ∷ (1 ∷ 4 ∷ 5 ∷ []) ∷ (0 ∷ 0 ∷ 0 ∷ []) ∷ (0 ∷ 0x407f100000000000 ∷ []) ∷ [])
    ∷ case (drawn_load (next_row 4 3 2 one_row))
    ((1401181202 ∷ []) ∷ (0 ∷ 2 ∷ 5 ∷ []) ∷ (1 ∷ 4 ∷ 1 ∷ 2 ∷ 4 ∷ []) ∷ (0 ∷ 0 ∷ 0xc085a00000000000 ∷ 0xc089b00000000000 ∷ 0x406da00000000000 ∷ []) ∷ (0 ∷ 0x4063600000000000 ∷ []) ∷ [])
    -- "For each row": none, and two of three
    ∷ case (drawn_load (rows_up_to 11 3 2 0)) ((11 ∷ []) ∷ (0 ∷ []) ∷ [] ∷ [] ∷ [] ∷ [])
    ∷ case (drawn_load (rows_up_to 11 3 2 2))
    ((2415085452 ∷ []) ∷ (0 ∷ 1 ∷ 3 ∷ []) ∷ (1 ∷ 1 ∷ 2 ∷ []) ∷ (0xc08f200000000000 ∷ 0xc086600000000000 ∷ 0xc08b680000000000 ∷ []) ∷ (0xc08c200000000000 ∷ 0x4070f00000000000 ∷ []) ∷ [])
    ∷ case (drawn_load (load_of 12345 4 3))
    ((922492888 ∷ []) ∷ (0 ∷ 1 ∷ 3 ∷ 4 ∷ 7 ∷ []) ∷ (1 ∷ 2 ∷ 4 ∷ 3 ∷ 1 ∷ 2 ∷ 4 ∷ []) ∷ (0x408f380000000000 ∷ 0xc08ed00000000000 ∷ 0x4073200000000000 ∷ 0xc083780000000000 ∷ 0x408df80000000000 ∷ 0xc06d200000000000 ∷ 0xc077300000000000 ∷ []) ∷ (0x4060c00000000000 ∷ 0xc08b580000000000 ∷ 0x4080400000000000 ∷ 0xc077100000000000 ∷ []) ∷ [])
    ∷ case (drawn_load (load_of 1984 8 2))
    ((3063296871 ∷ []) ∷ (0 ∷ 3 ∷ 6 ∷ 12 ∷ 17 ∷ 19 ∷ 25 ∷ 28 ∷ 31 ∷ []) ∷ (1 ∷ 3 ∷ 6 ∷ 1 ∷ 2 ∷ 7 ∷ 1 ∷ 3 ∷ 5 ∷ 6 ∷ 7 ∷ 8 ∷ 1 ∷ 2 ∷ 4 ∷ 6 ∷ 7 ∷ 5 ∷ 8 ∷ 1 ∷ 4 ∷ 5 ∷ 6 ∷ 7 ∷ 8 ∷ 4 ∷ 6 ∷ 7 ∷ 4 ∷ 6 ∷ 8 ∷ []) ∷ (0x4052800000000000 ∷ 0x402e000000000000 ∷ 0x408e100000000000 ∷ 0xc067e00000000000 ∷ 0x4086f00000000000 ∷ 0x4072a00000000000 ∷ 0x4083900000000000 ∷ 0xc08d980000000000 ∷ 0xc074b00000000000 ∷ 0xc086c80000000000 ∷ 0x408ab80000000000 ∷ 0x406ee00000000000 ∷ 0x408c800000000000 ∷ 0xc07da00000000000 ∷ 0x4083900000000000 ∷ 0xc088200000000000 ∷ 0x4077b00000000000 ∷ 0x408ce00000000000 ∷ 0xc086480000000000 ∷ 0xc06a800000000000 ∷ 0xc083c00000000000 ∷ 0xc079900000000000 ∷ 0xc083380000000000 ∷ 0x4085700000000000 ∷ 0x4076800000000000 ∷ 0x4081d80000000000 ∷ 0x407c200000000000 ∷ 0xc083100000000000 ∷ 0xc055400000000000 ∷ 0x4086c80000000000 ∷ 0xc058400000000000 ∷ []) ∷ (0xc072800000000000 ∷ 0xc077700000000000 ∷ 0x4069a00000000000 ∷ 0xc074f00000000000 ∷ 0xc086f80000000000 ∷ 0xc074900000000000 ∷ 0xc076000000000000 ∷ 0xc071500000000000 ∷ []) ∷ [])
    ∷ []

unfoldable pub load_cases : List Case
load_cases =
    -- loads of three seeds; d = 1: every place; a d above every draw: the diagonal alone, and what a draw of 0 adds to it
    case (loads 0 3 2)
    (grant ((0 ∷ 2 ∷ 5 ∷ 6 ∷ []) ∷ (1 ∷ 2 ∷ 1 ∷ 2 ∷ 3 ∷ 3 ∷ []) ∷ (0xc089400000000000 ∷ 0xc067200000000000 ∷ 0xc071000000000000 ∷ 0x4088880000000000 ∷ 0x4083380000000000 ∷ 0xc080b00000000000 ∷ []) ∷ (0xc085d00000000000 ∷ 0xc060600000000000 ∷ 0xc05e000000000000 ∷ []) ∷ []))
    ∷ case (loads 1 3 1)
    (grant ((0 ∷ 3 ∷ 6 ∷ 9 ∷ []) ∷ (1 ∷ 2 ∷ 3 ∷ 1 ∷ 2 ∷ 3 ∷ 1 ∷ 2 ∷ 3 ∷ []) ∷ (0xc07a900000000000 ∷ 0xc081c00000000000 ∷ 0xc073b00000000000 ∷ 0x408c800000000000 ∷ 0xc07e300000000000 ∷ 0x406f000000000000 ∷ 0xc084a80000000000 ∷ 0xc07c800000000000 ∷ 0x4075500000000000 ∷ []) ∷ (0xc08f300000000000 ∷ 0x4087f00000000000 ∷ 0x408e500000000000 ∷ []) ∷ []))
    ∷ case (loads 4294967295 3 3)
    (grant ((0 ∷ 1 ∷ 2 ∷ 4 ∷ []) ∷ (1 ∷ 2 ∷ 1 ∷ 3 ∷ []) ∷ (0xc085380000000000 ∷ 0x4087480000000000 ∷ 0x4087500000000000 ∷ 0x407fc00000000000 ∷ []) ∷ (0x4082c80000000000 ∷ 0x4069200000000000 ∷ 0xc05bc00000000000 ∷ []) ∷ []))
    ∷ case (loads 7 1 5)
    (grant ((0 ∷ 1 ∷ []) ∷ (1 ∷ []) ∷ (0x407f100000000000 ∷ []) ∷ (0xc065000000000000 ∷ []) ∷ []))
    ∷ case (loads 12345 4 4294967296)
    (grant ((0 ∷ 1 ∷ 2 ∷ 3 ∷ 4 ∷ []) ∷ (1 ∷ 2 ∷ 3 ∷ 4 ∷ []) ∷ (0x408f380000000000 ∷ 0xc08ed00000000000 ∷ 0x4082480000000000 ∷ 0x4071f00000000000 ∷ []) ∷ (0x4060c00000000000 ∷ 0x4073200000000000 ∷ 0xc05d000000000000 ∷ 0xc06d200000000000 ∷ []) ∷ []))
    ∷ case (loads 3281063054 2 18446744073709551615)
    (grant ((0 ∷ 2 ∷ 3 ∷ []) ∷ (1 ∷ 2 ∷ 2 ∷ []) ∷ (0xc082c00000000000 ∷ 0xc089400000000000 ∷ 0xc046000000000000 ∷ []) ∷ (0x4079e00000000000 ∷ 0xc085d00000000000 ∷ []) ∷ []))
    -- a value 0 and a right side 0 are +0; the ends -1,000 and 1,000
    ∷ case (loads 208 2 2)
    (grant ((0 ∷ 1 ∷ 3 ∷ []) ∷ (1 ∷ 1 ∷ 2 ∷ []) ∷ (0x4081d00000000000 ∷ 0xc08c380000000000 ∷ 0x0000000000000000 ∷ []) ∷ (0xc07c900000000000 ∷ 0xc08ed00000000000 ∷ []) ∷ []))
    ∷ case (loads 951 2 1)
    (grant ((0 ∷ 2 ∷ 4 ∷ []) ∷ (1 ∷ 2 ∷ 1 ∷ 2 ∷ []) ∷ (0x4088000000000000 ∷ 0xc086680000000000 ∷ 0xc056400000000000 ∷ 0xc07b000000000000 ∷ []) ∷ (0x0000000000000000 ∷ 0xc065400000000000 ∷ []) ∷ []))
    ∷ case (loads 11487 3 1)
    (grant ((0 ∷ 3 ∷ 6 ∷ 9 ∷ []) ∷ (1 ∷ 2 ∷ 3 ∷ 1 ∷ 2 ∷ 3 ∷ 1 ∷ 2 ∷ 3 ∷ []) ∷ (0x4081580000000000 ∷ 0xc06f200000000000 ∷ 0x4075800000000000 ∷ 0x408f300000000000 ∷ 0xc07e300000000000 ∷ 0x405d000000000000 ∷ 0x408f400000000000 ∷ 0x4076900000000000 ∷ 0x4076f00000000000 ∷ []) ∷ (0xc08f400000000000 ∷ 0x407cf00000000000 ∷ 0xc061800000000000 ∷ []) ∷ []))
    -- "16,384 places each, row starts with n+1, right side with n": each one short and one long
    ∷ row (flags (map (load_sizes_fit 3) (load_sizes 4 16384 16384 3 ∷ load_sizes 3 16384 16384 3 ∷ load_sizes 5 16384 16384 3 ∷ load_sizes 4 16383 16384 3 ∷ load_sizes 4 16385 16384 3 ∷ load_sizes 4 16384 16383 3 ∷ load_sizes 4 16384 16385 3 ∷ load_sizes 4 16384 16384 2 ∷ load_sizes 4 16384 16384 4 ∷ load_sizes 3 16384 16384 4 ∷ load_sizes 16384 4 3 16384 ∷ load_sizes 4 16383 16383 3 ∷ [])))
    (1 ∷ 0 ∷ 0 ∷ 0 ∷ 0 ∷ 0 ∷ 0 ∷ 0 ∷ 0 ∷ 0 ∷ 0 ∷ 0 ∷ [])
    -- "An n of 0 or above 1,024 is 1", before 23 and 6; the bounds
    ∷ case (judges 0 0 (load_sizes 0 0 0 0) ++ judges 0 1 (asks 0) ++ judges 0 1 (load_sizes 0 0 0 0)) (refusal 1 0 ++ refusal 1 0 ++ refusal 1 0)
    ∷ case (judges 1025 0 (asks 1025) ++ judges 1025 1 (asks 1025) ++ judges 1025 1 (load_sizes 0 0 0 0)) (refusal 1 0 ++ refusal 1 0 ++ refusal 1 0)
    ∷ case (judges 18446744073709551615 2 (load_sizes 0 16384 16384 0)) (refusal 1 0)
    ∷ case (judges 1 1 (asks 1) ++ judges 1024 1 (asks 1024) ++ judges 2 18446744073709551615 (asks 2)) (grant ((0 ∷ []) ∷ []) ++ grant ((0 ∷ []) ∷ []) ++ grant ((0 ∷ []) ∷ []))
    -- "d of 0 is 23, checked next, before 6"
    ∷ case (judges 1 0 (asks 1) ++ judges 1024 0 (load_sizes 0 0 0 0) ++ judges 3 0 (load_sizes 4 16384 16384 2)) (refusal 23 0 ++ refusal 23 0 ++ refusal 23 0)
    -- "else 6, before any draw": of 1,024 rows with d = 1, which would pass the entries too
    ∷ case (judges 3 2 (load_sizes 3 16384 16384 3) ++ judges 1024 1 (load_sizes 1024 16384 16384 1024)) (refusal 6 0 ++ refusal 6 0)
    ∷ case (judges 3 2 (load_sizes 4 16383 16384 3) ++ judges 3 2 (load_sizes 4 16384 16385 3) ++ judges 3 2 (load_sizes 4 16384 16384 4)) (refusal 6 0 ++ refusal 6 0 ++ refusal 6 0)
    -- "A load that would pass 16,384 entries is 1."
    ∷ case (limits 0 ++ limits 16384 ++ limits 16385 ++ limits 16386) (grant ((0 ∷ []) ∷ []) ++ grant ((16384 ∷ []) ∷ []) ++ refusal 1 0 ++ refusal 1 0)
    -- calls: the number of entries, the load and zeros beyond it
    ∷ case (leaves 6 0 3 2 (asks 3))
    (grant ((6 ∷ []) ∷ []) ++ (0 ∷ 2 ∷ 5 ∷ 6 ∷ []) ∷ (0xc085d00000000000 ∷ 0xc060600000000000 ∷ 0xc05e000000000000 ∷ []) ∷ (1 ∷ 2 ∷ 1 ∷ 2 ∷ 3 ∷ 3 ∷ []) ∷ (16384 ∷ 0 ∷ []) ∷ (0xc089400000000000 ∷ 0xc067200000000000 ∷ 0xc071000000000000 ∷ 0x4088880000000000 ∷ 0x4083380000000000 ∷ 0xc080b00000000000 ∷ []) ∷ (16384 ∷ 0 ∷ []) ∷ [])
    -- refusals leave zeros, whatever the lengths
    ∷ case (leaves 2 0 3 2 (load_sizes 2 3 4 5)) (refusal 6 0 ++ (0 ∷ 0 ∷ []) ∷ (0 ∷ 0 ∷ 0 ∷ 0 ∷ 0 ∷ []) ∷ (0 ∷ 0 ∷ []) ∷ (3 ∷ 0 ∷ []) ∷ (0 ∷ 0 ∷ []) ∷ (4 ∷ 0 ∷ []) ∷ [])
    ∷ case (leaves 2 0 3 0 (load_sizes 1 2 0 4)) (refusal 23 0 ++ (0 ∷ []) ∷ (0 ∷ 0 ∷ 0 ∷ 0 ∷ []) ∷ (0 ∷ 0 ∷ []) ∷ (2 ∷ 0 ∷ []) ∷ [] ∷ (0 ∷ 0 ∷ []) ∷ [])
    ∷ case (leaves 1 0 0 3 (load_sizes 1 1 1 0)) (refusal 1 0 ++ (0 ∷ []) ∷ [] ∷ (0 ∷ []) ∷ (1 ∷ 0 ∷ []) ∷ (0 ∷ []) ∷ (1 ∷ 0 ∷ []) ∷ [])
    ∷ []
