-- `member_place` meets its contract: the cell lies inside the list, or the place is searched for.
use Rattle.store_search.proofs.Places.{found-member}
use Rattle.run_stretch.proofs.Crossings.{cell_inside}
use Rattle.run_sides.proofs.crossing.member_place.Goals as goal

pub returns-then-o-own : goal.returns-then-o-own
returns-then-o-own c = cell_inside _ c.args.start.0 c.args.cell.0 _ c.requires.2 c.if-from-at.true c.if-o-own.true

pub returns : goal.returns
returns c = found-member 0 _ _ _ c.requires.0 (c.place_of.ensures.1 c.requires.0) c.requires.1
