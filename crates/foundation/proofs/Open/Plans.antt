-- Pattern, plan, subscripts, slots, planning's call: `unfolding patterns`, `unfolding plans`.
use Rattle.foundation.specs.Pattern.{lent, column, present, row_of, pattern_of, max_n, max_entries, max_height, too_large, height_fits, not_falling, starts_fit, entries_fault, first_fault, row_fault, rows_fault, pattern_fault, judged}
use Rattle.foundation.specs.Plan.{list, before_steps, unmet_rows, brings, from_steps, hand_on, reads_of_rows, reads_of_steps, so_far, initialized, rows_obtained, influenced, steps_collected, sets_updated, collected_if_influenced, turn, after, after_initialization, after_rows, after_test, after_steps, plan}
use Rattle.foundation.specs.Subscripts.{kept, only, sole_step, shared_end, start_at, added_at, shared, opened, starts_store, short, room_fault}
use Rattle.foundation.specs.Slots.{slot_in, has_slot, slots_of, slot_starts, slot_at}
use Rattle.foundation.specs.PlanCall.{count_numbers, subscripts, counts_of, work_fits, starts_sized, sizes_fit, planned, plan_answer, subscripts_after, starts_after, slot_starts_after, side_after, plan_leaves, same_counts, same_side, agrees, held_if, held}
use Rattle.foundation.proofs.Open.Lists.{answers}

unfoldable pub patterns : Unit {0}
unfolding answers lent column present row_of pattern_of max_n max_entries max_height too_large height_fits not_falling starts_fit entries_fault first_fault row_fault rows_fault pattern_fault judged
patterns = tt

unfoldable pub plans : Unit {0}
unfolding patterns list before_steps unmet_rows brings from_steps hand_on reads_of_rows reads_of_steps so_far initialized rows_obtained influenced steps_collected sets_updated collected_if_influenced turn after after_initialization after_rows after_test after_steps plan kept only sole_step shared_end start_at added_at shared opened starts_store short room_fault slot_in has_slot slots_of slot_starts slot_at count_numbers subscripts counts_of work_fits starts_sized sizes_fit planned plan_answer subscripts_after starts_after slot_starts_after side_after plan_leaves same_counts same_side agrees held_if held
plans = tt
