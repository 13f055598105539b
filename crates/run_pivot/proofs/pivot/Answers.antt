-- `pivot` meets its contract: a choice that names no row is by the largest entry, one that names a row is a list.
use Rattle.run_pivot.proofs.Chosen.{slots_size, slots-sound, own-sound, subs_ascend, largest_is, listed_is}
use Rattle.run_pivot.proofs.pivot.Goals as goal

pub largest_row-requires : goal.largest_row-requires
largest_row-requires c =
    let w = c.requires in
    (slots_size _ _ _ _ _ w, w.low, w.ascends, own-sound _ _ _ _ _ w, slots-sound _ _ _ _ _ w)

pub returns-then-listed-eq0 : goal.returns-then-listed-eq0
returns-then-listed-eq0 c = λ w. largest_is _ _ _ _ _ w c.if-listed-eq0.true _ _ c.largest_row.ensures

pub listed_row-requires : goal.listed_row-requires
listed_row-requires c = let w = c.requires in (slots_size _ _ _ _ _ w, subs_ascend _ _ _ _ _ w)

pub returns : goal.returns
returns c = λ w. listed_is _ _ _ _ _ w c.if-listed-eq0.false _ _ c.listed_row.ensures
