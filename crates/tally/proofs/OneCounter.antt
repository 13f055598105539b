-- What one counter answers and holds afterwards is what the record does: a counter that refuses is stored as it was.
use mathlib.Core.Bool.{true}
use mathlib.Core.List.{List}
use mathlib.Core.Path.{◌≡◌, refl, sym, ap, ◌∙◌}
use Prim.Native.Nat.{ℕ, ◌-◌}
use lib.ListN.{length, get_or, set}
use lib.Seq.{set-get_or}
use Rattle.foundation.specs.Answer.{Answer, refused, granted}
use Rattle.foundation.specs.Tally.{is_member, counter_of, counter_answer, tally_answer, kept_counters, tally_after}
use Rattle.foundation.proofs.TallyAnswers.{of_counter}
use Rattle.tally.specs.Calls.{kept_sum}

stored : (counters : List ℕ) (m : ℕ) (answer : Answer ℕ) → set counters (m - 1) (kept_sum (get_or counters (m - 1) 0) answer) ≡ kept_counters counters m answer
unfolding kept_sum kept_counters
stored counters m (refused number step) = set-get_or counters (m - 1) 0
stored counters m (granted sum) = refl

pub member-counted : (counters : List ℕ) (m updates sum : ℕ) (answer : Answer ℕ) → length counters ≡ 16 → is_member m ≡ true
    → (sum ≡ kept_sum (get_or counters (m - 1) 0) (counter_answer (get_or counters (m - 1) 0) updates)) × (answer ≡ counter_answer (get_or counters (m - 1) 0) updates)
    → (set counters (m - 1) sum ≡ tally_after counters m updates) × (answer ≡ tally_answer counters m updates)
unfolding tally_after counter_of
member-counted counters m updates sum answer sixteen is (holds, answers) =
    let e = of_counter counters m updates sixteen is in
    (ap (set counters (m - 1)) holds ∙ stored counters m _ ∙ ap (kept_counters counters m) (sym e), answers ∙ sym e)
