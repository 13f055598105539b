-- What loading answers, and what it leaves in its stores (document 02, Ticket 6).
use Rattle.std.specs.Prelude.{Bool, not, ◌&&◌, ◌||◌, List, ℕ, ◌+◌, eqb, ltb, Float, length, replicate}
use Rattle.foundation.specs.Answer.{Answer, granted, refuse_if, and_then, result_store}
use Rattle.foundation.specs.Pattern.{max_n, max_entries}
use Rattle.foundation.specs.Numbers.{plus_zero}
use Rattle.foundation.specs.Load.{Load, load_of}

-- the places of the four stores that are lent: row starts, columns, values, right side
pub record LoadSizes : Type 0 where
  pub starts : ℕ
  pub columns : ℕ
  pub values : ℕ
  pub right : ℕ

abbrev pub load_sizes : ℕ → ℕ → ℕ → ℕ → LoadSizes
load_sizes starts columns values right = record { starts = starts; columns = columns; values = values; right = right }

-- "Column and value stores are lent with 16,384 places each, row starts with n+1, right side with n"
unfoldable pub load_sizes_fit : ℕ → LoadSizes → Bool
unfolding max_entries
load_sizes_fit n w =
    eqb w.columns max_entries && (eqb w.values max_entries && (eqb w.starts (n + 1) && eqb w.right n))

-- "An n of 0 or above 1,024 is 1 as well, and d of 0 is 23, checked next, before 6", and 6 "before any draw": the refusal, or that there is no entry yet
unfoldable pub judged_load : ℕ → ℕ → LoadSizes → Answer ℕ
unfolding max_n
judged_load n d w = refuse_if (eqb n 0 || ltb max_n n) 1 (refuse_if (eqb d 0) 23 (refuse_if (not (load_sizes_fit n w)) 6 (granted 0)))

-- "A load that would pass 16,384 entries is 1."
unfoldable pub within_entries : Load → Answer Load
unfolding max_entries
within_entries l = refuse_if (ltb max_entries (length l.columns)) 1 (granted l)

-- the load that a call lays into the stores, or the refusal
unfoldable pub loaded : ℕ → ℕ → ℕ → LoadSizes → Answer Load
loaded seed n d w = and_then (judged_load n d w) (λ none. within_entries (load_of seed n d))

-- the answer: the number of entries, or the refusal
unfoldable pub load_answer : ℕ → ℕ → ℕ → LoadSizes → Answer ℕ
load_answer seed n d w = and_then (loaded seed n d w) (λ l. granted (length l.columns))

-- the four stores
pub record LoadStores : Type 0 where
  pub starts : List ℕ
  pub columns : List ℕ
  pub values : List Float
  pub right : List Float

abbrev pub load_stores : List ℕ → List ℕ → List Float → List Float → LoadStores
load_stores starts columns values right = record { starts = starts; columns = columns; values = values; right = right }

-- the places that they have
abbrev pub load_sizes_of : LoadStores → LoadSizes
load_sizes_of s = load_sizes (length s.starts) (length s.columns) (length s.values) (length s.right)

-- zeros throughout
abbrev pub zero_stores : LoadSizes → LoadStores
zero_stores w =
    load_stores (replicate w.starts 0) (replicate w.columns 0) (replicate w.values plus_zero) (replicate w.right plus_zero)

-- what the stores hold afterwards: the load and zeros beyond it; after a refusal zeros (document 01: "Result stores are then zero throughout")
unfoldable pub load_leaves : ℕ → ℕ → ℕ → LoadSizes → LoadStores
load_leaves seed n d w =
    load_stores
    (result_store 0 w.starts (λ l. l.starts) (loaded seed n d w))
    (result_store 0 w.columns (λ l. l.columns) (loaded seed n d w))
    (result_store plus_zero w.values (λ l. l.values) (loaded seed n d w))
    (result_store plus_zero w.right (λ l. l.right) (loaded seed n d w))
