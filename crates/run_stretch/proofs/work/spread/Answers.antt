-- `spread` meets its contract: the loop's invariant is `Spreading`.
use mathlib.Core.Path.{refl}
use native.Mathlib.Omega.{arith}
use borrow.Author.Rules.{rules}
use lib.ListN.{length-set}
use Rattle.run_stretch.proofs.Reducing.{below_at}
use Rattle.run_stretch.proofs.Laying.{spread_start, spread_turn, spread_end}
use Rattle.run_stretch.proofs.work.spread.Goals as goal

pub loop-i-init : goal.loop-i-init
loop-i-init c = (search rules, refl, spread_start _ _ _ c.requires.2)

pub offset_bounds-dense-x : goal.offset_bounds-dense-x
offset_bounds-dense-x c = let h = below_at _ _ c.requires.1 c.loop-i.i (search rules) in search rules

pub bounds-dense-x : goal.bounds-dense-x
bounds-dense-x c = let h = below_at _ _ c.requires.1 c.loop-i.i (search rules) in search rules

pub loop-i-preserved : goal.loop-i-preserved
loop-i-preserved c =
    let h = below_at _ _ c.requires.1 c.loop-i.i (search rules) in (
      search rules,
      simp length-set c.loop-i.invariant.1,
      spread_turn c.args.subs.now _ c.loop-i.dense c.loop-i.i (search rules) (omega (arith, c.loop-i.invariant.1)) c.loop-i.invariant.2,
    )

pub returns : goal.returns
returns c = spread_end _ _ _ _ (search rules) c.loop-i.invariant.2
