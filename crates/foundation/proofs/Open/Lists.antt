-- The functions on lists, answers, and tables: `unfolding lists`, `unfolding answers`, `unfolding tables`.
use Rattle.lists.specs.Functions.{update, keep, all, some, empty, total, chain, padded, same}
use Rattle.lists.specs.Sets.{member, run, upto, between, merge_one, union, join_all, from, first, least_above, index_of, begins, overlap}
use Rattle.foundation.specs.Answer.{refuse_if, and_then, result_store, work_store}
use Rattle.foundation.specs.Table.{four_fields, told, refusal, grant, same_lists, case, matches, Holds}

unfoldable pub lists : Unit {0}
unfolding update keep all some empty total chain padded same member run upto between merge_one union join_all from first least_above index_of begins overlap
lists = tt

unfoldable pub answers : Unit {0}
unfolding lists refuse_if and_then result_store work_store
answers = tt

unfoldable pub tables : Unit {0}
unfolding answers four_fields told refusal grant same_lists case matches Holds
tables = tt
