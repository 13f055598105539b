-- Offsets in degrees, minutes and seconds: document 02, Ticket 11. Floats are given by bit pattern, texts as they are written.
use Rattle.std.specs.Prelude.{List, [], ◌∷◌, ◌++◌, ℕ, ℤ, pos, negsuc, nat_abs, Float, replicate}
use Prim.Native.String.{String}
use Rattle.foundation.specs.Table.{Case, case, told, refusal, grant}
use Rattle.foundation.specs.Text.{ascii}
use Rattle.foundation.specs.Offset.{negative, text_of}
use Rattle.foundation.specs.OffsetCall.{read_offset, read_into, read_leaves, write_offset, write_leaves}
use Rattle.foundation.specs.Cases.Show.{flag, float, pattern, patterns, row}

-- a whole number: 1 where it is below zero, and its size
abbrev pub shown : ℤ → List ℕ
shown w = flag (negative w) ∷ nat_abs w ∷ []

abbrev pub whole : ℕ → ℕ → List (List ℕ)
whole minus size = grant ((minus ∷ size ∷ []) ∷ [])

-- what writing the float of a bit pattern answers, of a store of 14 places
abbrev pub rounds : ℕ → List (List ℕ)
rounds bits = told (λ w. shown w ∷ []) (write_offset 14 (float bits))

-- what a text reads as: the whole number, and the bits of its f64
abbrev pub shown_read : (ℤ × Float) → List (List ℕ)
shown_read (w, x) = shown w ∷ (pattern x ∷ []) ∷ []

abbrev pub reads : String → List (List ℕ)
reads text = told shown_read (read_offset (ascii text))

abbrev pub offset : ℕ → ℕ → ℕ → List (List ℕ)
offset minus size bits = grant ((minus ∷ size ∷ []) ∷ (bits ∷ []) ∷ [])

-- the answer, and the bits in the store, after reading with a store of so many places for the f64
abbrev pub reads_into : ℕ → String → List (List ℕ)
reads_into room text = told shown_read (read_into room (ascii text)) ++ (patterns (read_leaves room (ascii text)) ∷ [])

-- the answer, and the store, after writing into a store of so many places
abbrev pub writes : ℕ → ℕ → List (List ℕ)
writes room bits = told (λ w. shown w ∷ []) (write_offset room (float bits)) ++ (write_leaves room (float bits) ∷ [])

abbrev pub written : ℕ → ℕ → String → List (List ℕ)
written minus size text = whole minus size ++ (ascii text ∷ [])

unfoldable pub rounding_cases : List Case
rounding_cases =
    -- zeros: "writes zero with plus"
    case (rounds 0x0000000000000000) (whole 0 0)
    ∷ case (rounds 0x8000000000000000) (whole 0 0)
    ∷ case (rounds 0x0000000000000001) (whole 0 0)
    ∷ case (rounds 0x8000000000000001) (whole 0 0)
    ∷ case (rounds 0x3FD0000000000000) (whole 0 0)
    ∷ case (rounds 0xBFD0000000000000) (whole 0 0)
    ∷ case (rounds 0xBFD999999999999A) (whole 0 0)
    -- "the even one at a half"
    ∷ case (rounds 0x3FE0000000000000) (whole 0 0)
    ∷ case (rounds 0xBFE0000000000000) (whole 0 0)
    ∷ case (rounds 0x3FF8000000000000) (whole 0 2)
    ∷ case (rounds 0xBFF8000000000000) (whole 1 2)
    ∷ case (rounds 0x4004000000000000) (whole 0 2)
    ∷ case (rounds 0xC004000000000000) (whole 1 2)
    ∷ case (rounds 0x400C000000000000) (whole 0 4)
    ∷ case (rounds 0x4012000000000000) (whole 0 4)
    ∷ case (rounds 0x419D6F3456000000) (whole 0 123456790)
    ∷ case (rounds 0x419D6F345A000000) (whole 0 123456790)
    -- just below and just above a half
    ∷ case (rounds 0x3FDFFFFFFFFFFFFF) (whole 0 0)
    ∷ case (rounds 0x3FE0000000000001) (whole 0 1)
    ∷ case (rounds 0xBFDFFFFFFFFFFFFF) (whole 0 0)
    ∷ case (rounds 0xBFE0000000000001) (whole 1 1)
    ∷ case (rounds 0x3FF7FFFFFFFFFFFF) (whole 0 1)
    ∷ case (rounds 0x3FF8000000000001) (whole 0 2)
    ∷ case (rounds 0x4003FFFFFFFFFFFF) (whole 0 2)
    ∷ case (rounds 0x4004000000000001) (whole 0 3)
    ∷ case (rounds 0xC003FFFFFFFFFFFF) (whole 1 2)
    ∷ case (rounds 0xC004000000000001) (whole 1 3)
    -- whole numbers
    ∷ case (rounds 0x3FF0000000000000) (whole 0 1)
    ∷ case (rounds 0xBFF0000000000000) (whole 1 1)
    ∷ case (rounds 0x4000000000000000) (whole 0 2)
    ∷ case (rounds 0x41859964A8000000) (whole 0 45296789)
    ∷ case (rounds 0xC1859964A8000000) (whole 1 45296789)
    ∷ case (rounds 0x41D34FD8FF800000) (whole 0 1295999998)
    -- "at most 1,295,999,999": a half above it goes to the even number behind it, which is beyond
    ∷ case (rounds 0x41D34FD8FFA00000) (whole 0 1295999998)
    ∷ case (rounds 0xC1D34FD8FFA00000) (whole 1 1295999998)
    ∷ case (rounds 0x41D34FD8FFC00000) (whole 0 1295999999)
    ∷ case (rounds 0xC1D34FD8FFC00000) (whole 1 1295999999)
    ∷ case (rounds 0x41D34FD8FFDFFFFF) (whole 0 1295999999)
    ∷ case (rounds 0x41D34FD8FFE00000) (refusal 29 0)
    ∷ case (rounds 0x41D34FD8FFE00001) (refusal 29 0)
    ∷ case (rounds 0xC1D34FD8FFDFFFFF) (whole 1 1295999999)
    ∷ case (rounds 0xC1D34FD8FFE00000) (refusal 29 0)
    ∷ case (rounds 0x41D34FD900000000) (refusal 29 0)
    ∷ case (rounds 0xC1D34FD900000000) (refusal 29 0)
    -- subnormal numbers, the least normal one, numbers without a fraction, the largest number
    ∷ case (rounds 0x000FFFFFFFFFFFFF) (whole 0 0)
    ∷ case (rounds 0x800FFFFFFFFFFFFF) (whole 0 0)
    ∷ case (rounds 0x0010000000000000) (whole 0 0)
    ∷ case (rounds 0x4330000000000000) (refusal 29 0)
    ∷ case (rounds 0x4340000000000000) (refusal 29 0)
    ∷ case (rounds 0x43F0000000000000) (refusal 29 0)
    ∷ case (rounds 0x7FEFFFFFFFFFFFFF) (refusal 29 0)
    ∷ case (rounds 0xFFEFFFFFFFFFFFFF) (refusal 29 0)
    -- "a float that is not finite"
    ∷ case (rounds 0x7FF0000000000000) (refusal 29 0)
    ∷ case (rounds 0xFFF0000000000000) (refusal 29 0)
    ∷ case (rounds 0x7FF8000000000000) (refusal 29 0)
    ∷ case (rounds 0xFFF8000000000001) (refusal 29 0)
    ∷ case (rounds 0x7FF0000000000001) (refusal 29 0)
    ∷ []

unfoldable pub reading_cases : List Case
reading_cases =
    -- whole milliarcseconds, and the f64 equal to them
    case (reads "+012 34 56.789") (offset 0 45296789 0x41859964A8000000)
    ∷ case (reads "-012 34 56.789") (offset 1 45296789 0xC1859964A8000000)
    ∷ case (reads "+000 00 00.000") (offset 0 0 0x0000000000000000)
    ∷ case (reads "+000 00 00.001") (offset 0 1 0x3FF0000000000000)
    ∷ case (reads "-000 00 00.001") (offset 1 1 0xBFF0000000000000)
    ∷ case (reads "+000 00 01.000") (offset 0 1000 0x408F400000000000)
    ∷ case (reads "-000 00 01.000") (offset 1 1000 0xC08F400000000000)
    ∷ case (reads "+000 01 00.000") (offset 0 60000 0x40ED4C0000000000)
    ∷ case (reads "+001 00 00.000") (offset 0 3600000 0x414B774000000000)
    ∷ case (reads "+010 00 00.000") (offset 0 36000000 0x41812A8800000000)
    ∷ case (reads "+100 00 00.000") (offset 0 360000000 0x41B5752A00000000)
    ∷ case (reads "+000 59 59.999") (offset 0 3599999 0x414B773F80000000)
    ∷ case (reads "+359 59 59.999") (offset 0 1295999999 0x41D34FD8FFC00000)
    ∷ case (reads "-359 59 59.999") (offset 1 1295999999 0xC1D34FD8FFC00000)
    ∷ case (reads "+099 09 09.099") (offset 0 356949099 0x41B5469C6B000000)
    ∷ case (reads "-300 50 40.900") (offset 1 1083040900 0xC1D0237921000000)
    -- "minus zero included"
    ∷ case (reads "-000 00 00.000") (refusal 28 0)
    -- "degrees (000 to 359)", "both 00 to 59"
    ∷ case (reads "+360 00 00.000") (refusal 28 0)
    ∷ case (reads "-360 00 00.000") (refusal 28 0)
    ∷ case (reads "+400 00 00.000") (refusal 28 0)
    ∷ case (reads "+012 60 00.000") (refusal 28 0)
    ∷ case (reads "+012 34 60.000") (refusal 28 0)
    ∷ case (reads "+999 99 99.999") (refusal 28 0)
    ∷ case (reads "+987 65 43.210") (refusal 28 0)
    ∷ case (reads "+000 60 60.000") (refusal 28 0)
    ∷ case (reads "+012 61 00.000") (refusal 28 0)
    ∷ case (reads "+012 99 59.999") (refusal 28 0)
    ∷ case (reads "+012 34 61.000") (refusal 28 0)
    ∷ case (reads "+012 59 99.999") (refusal 28 0)
    -- "14 bytes"
    ∷ case (reads "") (refusal 28 0)
    ∷ case (reads "+") (refusal 28 0)
    ∷ case (reads "+012 34 56.78") (refusal 28 0)
    ∷ case (reads "+012 34 56.7890") (refusal 28 0)
    ∷ case (reads "+12 34 56.789") (refusal 28 0)
    ∷ case (reads "+0012 34 56.789") (refusal 28 0)
    ∷ case (reads " +012 34 56.789") (refusal 28 0)
    ∷ case (reads "+012 34 56.789 ") (refusal 28 0)
    -- sign, spaces and point
    ∷ case (reads " 012 34 56.789") (refusal 28 0)
    ∷ case (reads "0012 34 56.789") (refusal 28 0)
    ∷ case (reads "*012 34 56.789") (refusal 28 0)
    ∷ case (reads ",012 34 56.789") (refusal 28 0)
    ∷ case (reads ".012 34 56.789") (refusal 28 0)
    ∷ case (reads "+012\t34 56.789") (refusal 28 0)
    ∷ case (reads "+012034 56.789") (refusal 28 0)
    ∷ case (reads "+012 34056.789") (refusal 28 0)
    ∷ case (reads "+012:34:56.789") (refusal 28 0)
    ∷ case (reads "+012 34 56,789") (refusal 28 0)
    ∷ case (reads "+012 34 56 789") (refusal 28 0)
    ∷ case (reads "+012 34 560789") (refusal 28 0)
    ∷ case (reads "+012.34 56.789") (refusal 28 0)
    -- digits: the bytes before "0" and behind "9", letters, a sign, a space, one to three of them at each place
    ∷ case (reads "+0a2 34 56.789") (refusal 28 0)
    ∷ case (reads "+/12 34 56.789") (refusal 28 0)
    ∷ case (reads "+0:2 34 56.789") (refusal 28 0)
    ∷ case (reads "+01/ 34 56.789") (refusal 28 0)
    ∷ case (reads "+012 :4 56.789") (refusal 28 0)
    ∷ case (reads "+012 3/ 56.789") (refusal 28 0)
    ∷ case (reads "+012 34 5:.789") (refusal 28 0)
    ∷ case (reads "+012 34 /6.789") (refusal 28 0)
    ∷ case (reads "+012 34 56./89") (refusal 28 0)
    ∷ case (reads "+012 34 56.7:9") (refusal 28 0)
    ∷ case (reads "+012 34 56.78/") (refusal 28 0)
    ∷ case (reads "++12 34 56.789") (refusal 28 0)
    ∷ case (reads "+012 34  6.789") (refusal 28 0)
    ∷ case (reads "+012 -4 56.789") (refusal 28 0)
    ∷ case (reads "+O12 34 56.789") (refusal 28 0)
    ∷ case (reads "+012 34 56.78E") (refusal 28 0)
    -- letters between the fields; two texts are no text
    ∷ case (reads "+012d34m56.789") (refusal 28 0)
    ∷ case (reads "+012 34 56.789+012 34 56.789") (refusal 28 0)
    ∷ []

unfoldable pub text_cases : List Case
text_cases =
    row (text_of (pos 45296789)) (ascii "+012 34 56.789")
    ∷ row (text_of (negsuc 45296788)) (ascii "-012 34 56.789")
    ∷ row (text_of (pos 0)) (ascii "+000 00 00.000")
    ∷ row (text_of (pos 1)) (ascii "+000 00 00.001")
    ∷ row (text_of (negsuc 0)) (ascii "-000 00 00.001")
    ∷ row (text_of (pos 1295999999)) (ascii "+359 59 59.999")
    ∷ row (text_of (negsuc 1295999998)) (ascii "-359 59 59.999")
    ∷ row (text_of (pos 3599999)) (ascii "+000 59 59.999")
    ∷ row (text_of (pos 3600000)) (ascii "+001 00 00.000")
    ∷ row (text_of (pos 59999)) (ascii "+000 00 59.999")
    ∷ row (text_of (pos 60000)) (ascii "+000 01 00.000")
    ∷ row (text_of (pos 999)) (ascii "+000 00 00.999")
    ∷ row (text_of (pos 1000)) (ascii "+000 00 01.000")
    ∷ row (text_of (negsuc 999)) (ascii "-000 00 01.000")
    ∷ row (text_of (pos 359999999)) (ascii "+099 59 59.999")
    ∷ row (text_of (pos 36000000)) (ascii "+010 00 00.000")
    ∷ row (text_of (pos 360000000)) (ascii "+100 00 00.000")
    ∷ row (text_of (pos 123456789)) (ascii "+034 17 36.789")
    ∷ row (text_of (pos 445507089)) (ascii "+123 45 07.089")
    ∷ row (text_of (negsuc 445507088)) (ascii "-123 45 07.089")
    ∷ []

unfoldable pub store_cases : List Case
store_cases =
    case (writes 14 0x41859964AB333333) (written 0 45296789 "+012 34 56.789")
    ∷ case (writes 14 0xC1859964AB333333) (written 1 45296789 "-012 34 56.789")
    ∷ case (writes 14 0x8000000000000000) (written 0 0 "+000 00 00.000")
    ∷ case (writes 14 0xBFE0000000000000) (written 0 0 "+000 00 00.000")
    ∷ case (writes 14 0x3FF8000000000000) (written 0 2 "+000 00 00.002")
    ∷ case (writes 14 0xBFF8000000000000) (written 1 2 "-000 00 00.002")
    ∷ case (writes 14 0xC1D34FD8FFD00000) (written 1 1295999999 "-359 59 59.999")
    ∷ case (writes 14 0x41D34FD8FFE00000) (refusal 29 0 ++ (replicate 14 0 ∷ []))
    ∷ case (writes 14 0x7FF8000000000000) (refusal 29 0 ++ (replicate 14 0 ∷ []))
    ∷ case (writes 14 0xFFF0000000000000) (refusal 29 0 ++ (replicate 14 0 ∷ []))
    ∷ case (writes 0 0x3FF0000000000000) (refusal 6 0 ++ (replicate 0 0 ∷ []))
    ∷ case (writes 1 0x3FF0000000000000) (refusal 6 0 ++ (replicate 1 0 ∷ []))
    ∷ case (writes 13 0x3FF0000000000000) (refusal 6 0 ++ (replicate 13 0 ∷ []))
    ∷ case (writes 15 0x3FF0000000000000) (refusal 6 0 ++ (replicate 15 0 ∷ []))
    ∷ case (writes 28 0x3FF0000000000000) (refusal 6 0 ++ (replicate 28 0 ∷ []))
    ∷ case (writes 15 0x7FF8000000000000) (refusal 6 0 ++ (replicate 15 0 ∷ []))
    ∷ case (writes 13 0x7E37E43C8800759C) (refusal 6 0 ++ (replicate 13 0 ∷ []))
    ∷ []

unfoldable pub value_cases : List Case
value_cases =
    case (reads_into 1 "+012 34 56.789") (offset 0 45296789 0x41859964A8000000 ++ ((0x41859964A8000000 ∷ []) ∷ []))
    ∷ case (reads_into 1 "-012 34 56.789") (offset 1 45296789 0xC1859964A8000000 ++ ((0xC1859964A8000000 ∷ []) ∷ []))
    ∷ case (reads_into 1 "+000 00 00.000") (offset 0 0 0x0000000000000000 ++ ((0x0000000000000000 ∷ []) ∷ []))
    ∷ case (reads_into 1 "-000 00 00.000") (refusal 28 0 ++ (replicate 1 0 ∷ []))
    ∷ case (reads_into 1 "") (refusal 28 0 ++ (replicate 1 0 ∷ []))
    ∷ case (reads_into 0 "+012 34 56.789") (refusal 6 0 ++ (replicate 0 0 ∷ []))
    ∷ case (reads_into 2 "+012 34 56.789") (refusal 6 0 ++ (replicate 2 0 ∷ []))
    ∷ case (reads_into 2 "-000 00 00.000") (refusal 6 0 ++ (replicate 2 0 ∷ []))
    ∷ case (reads_into 0 "") (refusal 6 0 ++ (replicate 0 0 ∷ []))
    ∷ []
