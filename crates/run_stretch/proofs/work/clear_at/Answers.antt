-- `clear_at` meets its contract: the loop's invariant is `Clearing`.
use mathlib.Core.Path.{refl}
use native.Mathlib.Omega.{arith}
use borrow.Author.Rules.{rules}
use lib.ListN.{length-set}
use Rattle.run_stretch.proofs.Reducing.{below_at}
use Rattle.run_stretch.proofs.Laying.{clear_at_start, clear_at_turn, clear_at_end}
use Rattle.run_stretch.proofs.work.clear_at.Goals as goal

pub loop-i-init : goal.loop-i-init
loop-i-init c = (search rules, refl, clear_at_start _ _ c.requires.1)

pub offset_bounds-dense-x : goal.offset_bounds-dense-x
offset_bounds-dense-x c = let h = below_at _ _ c.requires.0 c.loop-i.i (search rules) in search rules

pub bounds-dense-x : goal.bounds-dense-x
bounds-dense-x c = let h = below_at _ _ c.requires.0 c.loop-i.i (search rules) in search rules

pub loop-i-preserved : goal.loop-i-preserved
loop-i-preserved c =
    let h = below_at _ _ c.requires.0 c.loop-i.i (search rules) in (
      search rules,
      simp length-set c.loop-i.invariant.1,
      clear_at_turn c.args.subs.now c.loop-i.dense c.loop-i.i (search rules) (omega (arith, c.loop-i.invariant.1)) c.loop-i.invariant.2,
    )

pub returns : goal.returns
returns c = clear_at_end c.args.subs.now _ c.loop-i.i (search rules) c.loop-i.invariant.2
