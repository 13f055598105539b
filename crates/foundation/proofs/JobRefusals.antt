-- The numbers of what is refused while a job is read.
use mathlib.Core.Bool.{Bool, true, false, cond, not, ◌||◌, ◌&&◌}
use mathlib.Core.List.{List, [], ◌∷◌}
use Prim.Native.Nat.{ℕ, zero, suc, ◌≤◌}
use native.Mathlib.Omega.{arith}
use lib.Dec.{eqb, ltb, leb}
use lib.ListN.{length}
use Rattle.foundation.specs.Answer.{Answer, refused, granted}
use Rattle.foundation.specs.Job.{Job, Reading, Next, more, over, read_n, read_r, read_e, read_b, read_p, read_z, command, next, operand, cut_short, misplaced, reading, max_job_n}
use Rattle.foundation.specs.Reference.{step}

-- ---- reading

-- what is refused while a job is read is one of 1 and 15 to 17, outside any step
abbrev pub Named : Answer Job → Type 0
Named (refused number step) = (number ≤ 18) × (step ≤ 0)
Named (granted job) = Unit

abbrev NamedBy : Next → Type 0
NamedBy (more r rest) = Unit
NamedBy (over answer) = Named answer

record NamedNext (n : Next) : Type 0 where
  named : NamedBy n

either : (test : Bool) (a b : Next) → NamedNext a → NamedNext b → NamedNext (cond test a b)
either true a b h k = h
either false a b h k = k

goes_on : (r : Reading) (rest : List ℕ) → NamedNext (more r rest)
goes_on r rest = record { named = tt }

stops : (number : ℕ) → number ≤ 18 → NamedNext (over (refused number 0))
stops number h = record { named = (h, omega arith) }

cut-named : NamedNext cut_short
unfolding cut_short
cut-named = stops 16 (omega arith)

misplaced-named : NamedNext misplaced
unfolding misplaced
misplaced-named = stops 15 (omega arith)

operand-named : (size : ℕ) (bytes : List ℕ) (then : ℕ → List ℕ → Next) → ((v : ℕ) (rest : List ℕ) → NamedNext (then v rest)) → NamedNext (operand size bytes then)
unfolding operand
operand-named size bytes then h = either (leb size (length bytes)) _ _ (h _ _) cut-named

end_named : (r : Reading) (bytes : List ℕ) → NamedNext (read_z r bytes)
unfolding read_z
end_named r [] = record { named = tt }
end_named r (b ∷ bytes) = stops 17 (omega arith)

size_named : (r : Reading) (bytes : List ℕ) → NamedNext (read_n r bytes)
unfolding read_n
size_named r bytes = operand-named 2 bytes _ (λ n rest. either (eqb n 0 || ltb max_job_n n) _ _ (stops 1 (omega arith)) (goes_on _ rest))

row_named : (r : Reading) (bytes : List ℕ) → NamedNext (read_r r bytes)
unfolding read_r
row_named r bytes = operand-named 2 bytes _ (λ row rest. either (eqb row (suc (length r.right))) _ _ (goes_on _ rest) misplaced-named)

entry_named : (r : Reading) (bytes : List ℕ) → NamedNext (read_e r bytes)
unfolding read_e
entry_named r bytes = operand-named 2 bytes _ (λ column rest. operand-named 8 rest _ (λ bits rest. goes_on _ rest))

right_named : (r : Reading) (bytes : List ℕ) → NamedNext (read_b r bytes)
unfolding read_b
right_named r bytes = operand-named 8 bytes _ (λ bits rest. goes_on _ rest)

pivot_named : (r : Reading) (bytes : List ℕ) → NamedNext (read_p r bytes)
unfolding read_p
pivot_named r bytes = operand-named 2 bytes _ (λ row rest. goes_on _ rest)

command-named : (r : Reading) (byte : ℕ) (bytes : List ℕ) → NamedNext (command r byte bytes)
unfolding command
command-named r byte bytes =
    let begun = ltb 0 r.n in
    let between-rows = begun && not r.open_row in
    let all_rows_lem = between-rows && eqb (length r.right) r.n in
    either (eqb byte 0x4E && not begun) _ _ (size_named r bytes)
    (either (eqb byte 0x52 && (between-rows && not all_rows_lem)) _ _ (row_named r bytes)
    (either (eqb byte 0x45 && r.open_row) _ _ (entry_named r bytes)
    (either (eqb byte 0x42 && r.open_row) _ _ (right_named r bytes)
    (either (eqb byte 0x50 && (all_rows_lem && ltb (length r.rows) r.n)) _ _ (pivot_named r bytes)
    (either (eqb byte 0x5A && (all_rows_lem && (eqb (length r.rows) 0 || eqb (length r.rows) r.n))) _ _ (end_named r bytes) misplaced-named)))))

next_named : (r : Reading) (bytes : List ℕ) → NamedNext (next r bytes)
unfolding next
next_named r [] = cut-named
next_named r (byte ∷ bytes) = command-named r byte bytes

then_named : (turns : ℕ) → ((r : Reading) (bytes : List ℕ) → Named (reading turns r bytes)) → (n : Next) → NamedNext n
    → Named (elim n [ more r rest ↦ reading turns r rest | over answer ↦ answer ])
then_named turns later (more r rest) h = later r rest
then_named turns later (over answer) h = h.named

pub reading-named : (turns : ℕ) (r : Reading) (bytes : List ℕ) → Named (reading turns r bytes)
unfolding reading
reading-named zero r bytes = (omega arith, omega arith)
reading-named (suc turns) r bytes = then_named turns (reading-named turns) (next r bytes) (next_named r bytes)
