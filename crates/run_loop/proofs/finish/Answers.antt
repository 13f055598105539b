-- `run_loop::finish` meets its contract: each arm is a case of the law. Assumes nothing.
use mathlib.Core.Path.{sym, ◌∙◌}
use Rattle.run_loop.proofs.Ending.{stays_halted, may-solve, cut-ends, solved-ends, unsolved_ends}
use Rattle.run_loop.proofs.finish.Goals as goal

pub returns-then-not-solves : goal.returns-then-not-solves
returns-then-not-solves c = cut-ends _ _ _ _ _ _ _ c.in-Finished.is (sym c.solves.ensures ∙ c.if-not-solves.true)

pub solve-solved-requires : goal.solve-solved-requires
solve-solved-requires c =
    may-solve _ c.args.extent _ _ _ _ _ c.in-Finished.is (sym c.solves.ensures ∙
    c.if-not-solves.false) c.requires

pub returns-in-Stopped : goal.returns-in-Stopped
returns-in-Stopped c = stays_halted _ _ _ _ _ _ _ c.in-Stopped.is

pub returns-in-Solved : goal.returns-in-Solved
returns-in-Solved c =
    solved-ends _ _ _ _ _ _ _ c.in-Finished.is (sym c.solves.ensures ∙
    c.if-not-solves.false) c.in-Solved.ensures

pub returns-in-NotFiniteAt : goal.returns-in-NotFiniteAt
returns-in-NotFiniteAt c =
    unsolved_ends _ _ _ _ _ _ _ c.in-Finished.is (sym c.solves.ensures ∙
    c.if-not-solves.false) _ c.in-NotFiniteAt.ensures
