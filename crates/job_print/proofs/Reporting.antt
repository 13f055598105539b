-- The lines of the code are those of the definitions.
use mathlib.Core.Path.{◌≡◌, refl}
use mathlib.Core.List.{List, [], ◌∷◌, map, append-nil, append_assoc}
use Prim.Native.Nat.{ℕ, zero, suc}
use lib.Ieee.{Float}
use Rattle.lists.specs.Functions.{chain}
use Rattle.lists.specs.Sets.{run, upto}
use Rattle.foundation.specs.Pattern.{Lent}
use Rattle.foundation.specs.PlanCall.{counts_of}
use Rattle.foundation.specs.Reference.{Going}
use Rattle.foundation.specs.RunCall.{Ran}
use Rattle.foundation.specs.Printing.{spaced, line_numbers, plan_line, rows_line, solution_line, updates_line, refused_line, report}
use Rattle.foundation.specs.Text.{ascii}
use Rattle.job_print.specs.Page.{Wrote}
use Rattle.job_print.specs.Lines.{numbers_line, value_line, value_lines, Finished}
use Rattle.job_print.specs.declared.page.Page.{Page}
use Rattle.job_print.proofs.Appending.{wrote_then}

refused-as-line : (number step : ℕ) → numbers_line (ascii "refused") (number ∷ step ∷ []) ≡ refused_line number step
unfolding numbers_line refused_line chain
refused-as-line number step = rw (append-nil (spaced step), ← append_assoc (ascii "refused") (spaced number) (spaced step))

updates-as-line : (updates : ℕ) → numbers_line (ascii "updates") (updates ∷ []) ≡ updates_line updates
unfolding numbers_line updates_line chain
updates-as-line updates = rw (append-nil (spaced updates))

-- the word `refused` and two numbers
pub refused_put : {p q : Page} (number step : ℕ) → Wrote p q (numbers_line (114 ∷ 101 ∷ 102 ∷ 117 ∷ 115 ∷ 101 ∷ 100 ∷ []) (number ∷ step ∷ []))
    → Wrote p q (refused_line number step)
unfolding ascii
refused_put number step a = rw (refused-as-line number step) at a

solution_lines : (g : Going) (row count : ℕ) → value_lines row (map g.right (run row count)) ≡ chain (solution_line g) (run row count)
unfolding value_lines run chain solution_line value_line
solution_lines g row zero = refl
solution_lines g row (suc count) = rw (solution_lines g (suc row) count)

-- the word `plan` and its counts
plan_put : {w₀ w₁ : Page} (p : Lent) (ran : Ran) (counts : List ℕ) → counts ≡ line_numbers (counts_of p ran.plan)
    → Wrote w₀ w₁ (numbers_line (112 ∷ 108 ∷ 97 ∷ 110 ∷ []) counts) → Wrote w₀ w₁ (plan_line (counts_of p ran.plan))
unfolding numbers_line plan_line ascii
plan_put p ran counts e a = rw e at a

-- the word `rows` and the pivot rows
rows_put : {p q : Page} (pivots rows : List ℕ) → pivots ≡ rows → Wrote p q (numbers_line (114 ∷ 111 ∷ 119 ∷ 115 ∷ []) pivots) → Wrote p q (rows_line rows)
unfolding numbers_line rows_line ascii
rows_put pivots rows e a = rw e at a

-- the word `updates` and the count
updates_put : {p q : Page} (updates count : ℕ) → updates ≡ count → Wrote p q (numbers_line (117 ∷ 112 ∷ 100 ∷ 97 ∷ 116 ∷ 101 ∷ 115 ∷ []) (updates ∷ []))
    → Wrote p q (updates_line count)
unfolding ascii
updates_put updates count e a = rw (e, updates-as-line count) at a

-- the four parts of a report
pub report_put : {w₀ w₁ w₂ w₃ w₄ : Page} (p : Lent) (ran : Ran) (counts pivots : List ℕ) (solution : List Float) (updates : ℕ)
    → Finished p ran counts pivots solution updates → Wrote w₀ w₁ (numbers_line (112 ∷ 108 ∷ 97 ∷ 110 ∷ []) counts)
    → Wrote w₁ w₂ (numbers_line (114 ∷ 111 ∷ 119 ∷ 115 ∷ []) pivots) → Wrote w₂ w₃ (value_lines 1 solution)
    → Wrote w₃ w₄ (numbers_line (117 ∷ 112 ∷ 100 ∷ 97 ∷ 116 ∷ 101 ∷ 115 ∷ []) (updates ∷ [])) → Wrote w₀ w₄ (report p ran)
unfolding report upto
report_put p ran counts pivots solution updates f a b c d =
    wrote_then
    (wrote_then (wrote_then (plan_put p ran counts f.counted a) (rows_put pivots ran.end.pivots f.chosen b))
    (rw (f.solved, solution_lines ran.end 1 p.n) at c))
    (updates_put updates ran.end.updates f.summed d)
