-- The tally, a call on it and lists of calls: `unfolding tallies`.
use Rattle.lists.specs.Functions.{total}
use Rattle.foundation.specs.Tally.{is_member, counter_of, empty_tally, max_tally, counter_answer, tally_answer, kept_counters, tally_after}
use Rattle.foundation.specs.TallyCalls.{after_calls, answered, given_by, given_for}

unfoldable pub tallies : Unit {0}
unfolding total is_member counter_of empty_tally max_tally counter_answer tally_answer kept_counters tally_after after_calls answered given_by given_for
tallies = tt
