-- The claims about test loads (document 02, Ticket 6), of every call: each one proposition that can be read alone. What a caller has of a load is its number of entries and what the
-- call leaves in the four stores, so most are said of these.
use Rattle.std.specs.Prelude.{true, cond, ◌↔◌, ◌⊎◌, ◌≡◌, ℕ, ◌+◌, ◌-◌, ◌*◌, ◌%◌, ◌^◌, ◌≤◌, ◌<◌, eqb, ltb, ℤ, nat_abs, length, get_or, take, drop, replicate}
use Rattle.lists.specs.Functions.{keep}
use Rattle.lists.specs.Sets.{member}
use Rattle.foundation.specs.Answer.{refused, granted}
use Rattle.foundation.specs.Pattern.{Lent, lent_square, row_of, pattern_fault}
use Rattle.foundation.specs.Numbers.{plus_zero, float_of}
use Rattle.foundation.specs.RunCall.{Lending, all_finite}
use Rattle.foundation.specs.Draw.{mixed, drawn_value}
use Rattle.foundation.specs.Load.{load_of}
use Rattle.foundation.specs.LoadCall.{LoadSizes, load_sizes, load_answer, zero_stores, load_leaves}

-- ---- what is answered

-- "An n of 0 or above 1,024 is 1 as well", and "A load that would pass 16,384 entries is 1": 1 just where n is outside 1 to 1,024, whatever else is asked, or where nothing else is to be
-- refused and the load has more than 16,384 entries.
unfoldable pub LoadLimits : Type 0
LoadLimits =
    (seed n d : ℕ) (w : LoadSizes)
    → (load_answer seed n d w ≡ refused 1 0)
    ↔ (((1 ≤ n) × (n ≤ 1024) → ⊥) ⊎ ((0 < d) × (w ≡ load_sizes (n + 1) 16384 16384 n) × (16384 < length (load_of seed n d).columns)))

-- "d of 0 is 23, checked next, before 6": 23 just where n is inside and d is 0, whatever the stores.
unfoldable pub NoDivisors : Type 0
NoDivisors = (seed n d : ℕ) (w : LoadSizes) → (load_answer seed n d w ≡ refused 23 0) ↔ ((1 ≤ n) × (n ≤ 1024) × (d ≡ 0))

-- "Column and value stores are lent with 16,384 places each, row starts with n+1, right side with n, else 6, before any draw": 6 just where n is inside, d is not 0 and a store has
-- another length, whatever the load would be.
unfoldable pub OtherSizes : Type 0
OtherSizes =
    (seed n d : ℕ) (w : LoadSizes)
    → (load_answer seed n d w ≡ refused 6 0) ↔ ((1 ≤ n) × (n ≤ 1024) × (0 < d) × (w ≡ load_sizes (n + 1) 16384 16384 n → ⊥))

-- Else the answer is the number of entries.
unfoldable pub EntriesAnswered : Type 0
EntriesAnswered =
    (seed n d : ℕ) (w : LoadSizes) (count : ℕ)
    → (load_answer seed n d w ≡ granted count)
    ↔ ((1 ≤ n) × (n ≤ 1024) × (0 < d) × (w ≡ load_sizes (n + 1) 16384 16384 n)
    × (length (load_of seed n d).columns ≤ 16384) × (count ≡ length (load_of seed n d).columns))

-- ---- what is left in the stores

-- Document 01: after a refusal "Result stores are then zero throughout", whatever their lengths.
unfoldable pub RefusedLoads : Type 0
RefusedLoads =
    (seed n d : ℕ) (w : LoadSizes) (number step : ℕ)
    → load_answer seed n d w ≡ refused number step
    → load_leaves seed n d w ≡ zero_stores w

-- Else the first `count` columns and values are the load's entries, "result stores longer than needed are zero beyond", and row starts and right side are full.
unfoldable pub LoadsStand : Type 0
LoadsStand =
    (seed n d : ℕ) (w : LoadSizes) (count : ℕ)
    → load_answer seed n d w ≡ granted count
    → ((load_leaves seed n d w).starts ≡ (load_of seed n d).starts)
    × ((load_leaves seed n d w).right ≡ (load_of seed n d).right)
    × (take count (load_leaves seed n d w).columns ≡ (load_of seed n d).columns)
    × (take count (load_leaves seed n d w).values ≡ (load_of seed n d).values)
    × (drop count (load_leaves seed n d w).columns ≡ replicate (16384 - count) 0)
    × (drop count (load_leaves seed n d w).values ≡ replicate (16384 - count) plus_zero)

-- the pattern that a caller has of a load: its n, the row starts, and the first `count` columns
unfoldable pub pattern_left : ℕ → ℕ → ℕ → LoadSizes → ℕ → Lent
pattern_left seed n d w count = lent_square n (load_leaves seed n d w).starts (take count (load_leaves seed n d w).columns)

-- Every load that is granted is a pattern that can be planned: its row starts and its entries pass 1 to 5, whatever the largest n of a caller that takes this n.
unfoldable pub LoadsPass : Type 0
LoadsPass =
    (seed n d : ℕ) (w : LoadSizes) (count most : ℕ)
    → load_answer seed n d w ≡ granted count
    → n ≤ most
    → pattern_fault most (pattern_left seed n d w count) ≡ 0

-- And they pass 10 and 11: there are as many values as entries and n right sides, and whoever lends them to a run lends finite ones.
unfoldable pub LoadsFinite : Type 0
LoadsFinite =
    (seed n d : ℕ) (w : LoadSizes) (count : ℕ)
    → load_answer seed n d w ≡ granted count
    → (length (take count (load_leaves seed n d w).columns) ≡ count)
    × (length (take count (load_leaves seed n d w).values) ≡ count)
    × (length (load_leaves seed n d w).right ≡ n)
    × ((lending : Lending)
    → lending.values ≡ take count (load_leaves seed n d w).values
    → lending.right ≡ (load_leaves seed n d w).right
    → all_finite lending ≡ true)

-- "(draw mod 2,001) - 1,000": each value and each right side is the f64 equal to a whole number from -1,000 to 1,000 (zero is +0: see `FloatEqual` in Claims/Offsets).
unfoldable pub SmallWholes : Type 0
SmallWholes =
    (seed n d : ℕ) (w : LoadSizes) (count : ℕ)
    → load_answer seed n d w ≡ granted count
    → ((k : ℕ) → k < count → (z : ℤ) × (nat_abs z ≤ 1000) × (get_or (load_leaves seed n d w).values k plus_zero ≡ float_of z))
    × ((k : ℕ) → k < n → (z : ℤ) × (nat_abs z ≤ 1000) × (get_or (load_leaves seed n d w).right k plus_zero ≡ float_of z))

-- ---- the draws

-- the t-th draw of a seed, counted from 1: "each draw adds 2654435769, dropping what passes 32 bits, then .."
unfoldable pub draw_number : ℕ → ℕ → ℕ
draw_number seed t = mixed ((seed + t * 2654435769) % 2 ^ 32)

-- how many entries a pattern has before place (i, j): those of the rows before row i, and those of row i before column j
unfoldable pub entries_before : Lent → ℕ → ℕ → ℕ
entries_before p i j = get_or p.starts (i - 1) 0 + length (keep (λ c. ltb c j) (row_of p i))

-- How many draws are made before place (i, j): n for the places and the right side of each row before, one for each place of row i before column j, but for the diagonal, and one for
-- each entry before it.
unfoldable pub draws_before : Lent → ℕ → ℕ → ℕ
draws_before p i j = (i - 1) * p.n + (j - 1) + entries_before p i j - cond (ltb i j) 1 0

-- "off the diagonal, one draw, and the place is present if the draw divides by d without rest": the next draw, and just then. (The diagonal is present: `LoadsPass`.)
unfoldable pub PlacesDrawn : Type 0
PlacesDrawn =
    (seed n d : ℕ) (w : LoadSizes) (count i j : ℕ)
    → load_answer seed n d w ≡ granted count
    → seed < 2 ^ 32 → (1 ≤ i) × (i ≤ n) × (1 ≤ j) × (j ≤ n) → (i ≡ j → ⊥)
    → member j (row_of (pattern_left seed n d w count) i) ≡ eqb (draw_number seed (draws_before (pattern_left seed n d w count) i j + 1) % d) 0

-- "if present, or on the diagonal, one draw gives the value": the draw behind that, on the diagonal the next one. The value stands behind the entries before the place.
unfoldable pub ValuesDrawn : Type 0
ValuesDrawn =
    (seed n d : ℕ) (w : LoadSizes) (count i j : ℕ)
    → load_answer seed n d w ≡ granted count
    → seed < 2 ^ 32 → (1 ≤ i) × (i ≤ n) × (1 ≤ j) × (j ≤ n) → member j (row_of (pattern_left seed n d w count) i) ≡ true
    → get_or (load_leaves seed n d w).values (entries_before (pattern_left seed n d w count) i j) plus_zero
    ≡ drawn_value (draw_number seed (draws_before (pattern_left seed n d w count) i j + cond (eqb i j) 1 2))

-- "After each row one draw gives the right side likewise.": row i's is the last of n draws for each row up to it and one for each entry.
unfoldable pub RightSidesDrawn : Type 0
RightSidesDrawn =
    (seed n d : ℕ) (w : LoadSizes) (count i : ℕ)
    → load_answer seed n d w ≡ granted count
    → (1 ≤ i) × (i ≤ n) → seed < 2 ^ 32
    → get_or (load_leaves seed n d w).right (i - 1) plus_zero ≡ drawn_value (draw_number seed (i * n + get_or (load_leaves seed n d w).starts i 0))

-- A d of 1 divides every draw: every place is present, up to the 128 rows whose square has 16,384 places.
unfoldable pub WholeSquares : Type 0
WholeSquares =
    (seed n : ℕ) → 1 ≤ n
    → (n ≤ 128 → load_answer seed n 1 (load_sizes (n + 1) 16384 16384 n) ≡ granted (n * n))
    × (128 < n → load_answer seed n 1 (load_sizes (n + 1) 16384 16384 n) ≡ refused 1 0)
