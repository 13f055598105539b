-- `refusal_of` meets its contract: each arm knows the number that it stands for. Assumes nothing.
use mathlib.Core.Path.{sym, ap}
use Prim.Native.Nat.{ℕ}
use Rattle.foundation.specs.Answer.{refused}
use Rattle.answers.specs.Answers.{refusal_of}
use Rattle.plan_pattern.proofs.Faults.{last_fault}
use Rattle.plan_pattern.proofs.judge.refusal_of.Goals as goal

pub returns-in-1 : goal.returns-in-1
unfolding refusal_of
returns-in-1 c = ap (λ (x : ℕ). refused x 0) (sym c.in-1.is)

pub returns-in-2 : goal.returns-in-2
unfolding refusal_of
returns-in-2 c = ap (λ (x : ℕ). refused x 0) (sym c.in-2.is)

pub returns-in-3 : goal.returns-in-3
unfolding refusal_of
returns-in-3 c = ap (λ (x : ℕ). refused x 0) (sym c.in-3.is)

pub returns-in-4 : goal.returns-in-4
unfolding refusal_of
returns-in-4 c = ap (λ (x : ℕ). refused x 0) (sym c.in-4.is)

pub returns-in-5 : goal.returns-in-5
unfolding refusal_of
returns-in-5 c = ap (λ (x : ℕ). refused x 0) (sym c.in-5.is)

pub returns-in_default : goal.returns-in_default
unfolding refusal_of
returns-in_default c =
    let none = c.in_default.in_default-own.rest in
    ap (λ (x : ℕ). refused x 0) (last_fault _ c.requires none.0.0.0.0.1 none.0.0.0.1 none.0.0.1 none.0.1 none.1)
