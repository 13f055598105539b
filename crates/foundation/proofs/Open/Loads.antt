-- Draws, test loads and a call for one: `unfolding loads`.
use Rattle.lists.specs.Functions.{total}
use Rattle.foundation.specs.Pattern.{max_n, max_entries}
use Rattle.foundation.specs.Draw.{stepped, xor_right, xor_left, mixed, drawn, drawn_whole, drawn_value}
use Rattle.foundation.specs.Load.{entered, present_by, asked_state, asked, next_place, row_up_to, with_row, next_row, rows_up_to, load_of}
use Rattle.foundation.specs.LoadCall.{load_sizes_fit, judged_load, within_entries, loaded, load_answer, load_leaves}

unfoldable pub loads : Unit {0}
unfolding
    total max_n max_entries stepped xor_right xor_left mixed drawn drawn_whole drawn_value entered present_by asked_state asked next_place row_up_to with_row next_row rows_up_to load_of
    load_sizes_fit judged_load within_entries loaded load_answer load_leaves
loads = tt
