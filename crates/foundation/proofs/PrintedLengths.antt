-- How many bytes each line takes, and a report, if every number printed is below 2 to the power of 64: a number then has at most 20 digits.
use mathlib.Core.Bool.{true}
use mathlib.Core.List.{List}
use mathlib.Core.Path.{◌≡◌}
use Prim.Native.Nat.{ℕ, ◌*◌, ◌≤◌, ◌<◌}
use native.Mathlib.Omega.{arith}
use lib.ListN.{length, length-append}
use Rattle.lists.specs.Functions.{chain}
use Rattle.lists.specs.Sets.{member, upto}
use Rattle.lists.proofs.Counting.{total-le, total_constant}
use Rattle.lists.proofs.Members.{upto-high}
use Rattle.lists.proofs.Places.{length-chain, length-upto}
use Rattle.foundation.specs.Numbers.{bits_of}
use Rattle.foundation.specs.Pattern.{Lent}
use Rattle.foundation.specs.Plan.{Side, lower, upper}
use Rattle.foundation.specs.PlanCall.{counts_of, subscripts}
use Rattle.foundation.specs.Printing.{spaced, hex_bits, line_numbers, plan_line, rows_line, solution_line, updates_line, refused_line, report}
use Rattle.foundation.specs.Reference.{Going, step}
use Rattle.foundation.specs.RunCall.{Ran}
use Rattle.foundation.specs.Slots.{slots_of}
use Rattle.foundation.specs.Text.{ascii}
use Rattle.foundation.proofs.Digits.{decimal-short, hex_length}

-- ---- the length of each line

-- 2 to the power of 64
abbrev pub word : ℕ
word = 18446744073709551616

spaced-few : (n : ℕ) → n < word → length (spaced n) ≤ 21
unfolding spaced ascii
spaced-few n h = simp length-append (omega (arith, decimal-short n h))

-- parts of at most `most` bytes each
chain-few : (f : ℕ → List ℕ) (most : ℕ) (xs : List ℕ) → ((x : ℕ) → member x xs ≡ true → length (f x) ≤ most) → length (chain f xs) ≤ length xs * most
chain-few f most xs h = rw (length-chain f xs, ← total_constant most xs) (total-le (λ x. length (f x)) (λ x. most) xs h)

pub refused-few : (number step : ℕ) → number < word → step < word → length (refused_line number step) ≤ 8192
unfolding refused_line ascii
refused-few number step h k = simp length-append (omega (arith, spaced-few number h, spaced-few step k))

solution-few : (g : Going) (i : ℕ) → i < word → length (solution_line g i) ≤ 40
unfolding solution_line hex_bits ascii
solution-few g i h = simp length-append (omega (arith, spaced-few i h, hex_length 16 (bits_of (g.right i))))

-- ---- a report

-- what a report prints is small
pub record Small (p : Lent) (r : Ran) : Type 0 where
  pub fields : p.n ≤ 128
  pub entries : length p.columns < word
  pub subs : (side : Side) → length (subscripts r.plan side p.n) < word
  pub slots : (side : Side) → slots_of r.plan side p.n < word
  pub reads : r.plan.reads < word
  pub pivots : length r.end.pivots ≤ 128
  pub rows : (x : ℕ) → member x r.end.pivots ≡ true → x < word
  pub updates : r.end.updates < word

plan-few : (p : Lent) (r : Ran) → Small p r → length (plan_line (counts_of p r.plan)) ≤ 152
unfolding plan_line line_numbers counts_of chain ascii
plan-few p r s =
    simp length-append
    (omega (
      arith,
      spaced-few p.n (omega (arith, s.fields)),
      spaced-few _ s.entries,
      spaced-few _ (s.subs lower),
      spaced-few _ (s.subs upper),
      spaced-few _ (s.slots lower),
      spaced-few _ (s.slots upper),
      spaced-few _ s.reads,
    ))

rows_few : (pivots : List ℕ) → length pivots ≤ 128 → ((x : ℕ) → member x pivots ≡ true → x < word) → length (rows_line pivots) ≤ 2693
unfolding rows_line ascii
rows_few pivots few small = simp length-append (omega (arith, chain-few spaced 21 pivots (λ x m. spaced-few x (small x m))))

updates-few : (updates : ℕ) → updates < word → length (updates_line updates) ≤ 29
unfolding updates_line ascii
updates-few updates h = simp length-append (omega (arith, spaced-few updates h))

pub report-few : (p : Lent) (r : Ran) → Small p r → length (report p r) ≤ 8192
unfolding report
report-few p r s =
    let lines : length (chain (solution_line r.end) (upto p.n)) ≤ length (upto p.n) * 40 =
    chain-few (solution_line r.end) 40 (upto p.n) (λ x m. solution-few r.end x (omega (arith, upto-high x p.n m, s.fields))) in
    simp length-append
    (omega (
      arith,
      plan-few p r s,
      rows_few r.end.pivots s.pivots s.rows,
      rw length-upto at lines,
      s.fields,
      updates-few r.end.updates s.updates,
    ))
