-- `reduce_list` meets its contract: `member_place` finds the first common member.
use Rattle.lists.proofs.Places.{member_at}
use Rattle.run_sides.proofs.crossing.reduce_list.Goals as goal

-- src/crossing.rt:46:9
pub member_place-o-requires : goal.member_place-o-requires
member_place-o-requires c = (c.requires.2.ascends, c.requires.2.within _ (member_at 0 c.args.over.now c.requires.3), c.requires.5)
