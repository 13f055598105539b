-- `search_behind` meets its contract: what is passed of the second list is among what is passed of the first.
use lib.ListN.{drop}
use Rattle.store_search.proofs.Passing.{Passed}
use Rattle.store_search.proofs.searching.search_behind.Given as goal

abbrev pub invariant-loop-at : goal.invariant-loop-at
invariant-loop-at l = Passed l.have l.more l.left (drop l.at l.more)
