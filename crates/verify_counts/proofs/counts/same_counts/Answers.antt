-- `same_counts` meets its contract: the first count that differs, or the last, decides. Assumes nothing.
use Rattle.verify_counts.proofs.Counting.{unlike, last_count}
use Rattle.verify_counts.proofs.counts.same_counts.Goals as goal

pub returns-then-a-b : goal.returns-then-a-b
returns-then-a-b c = unlike _ _ (λ a. c.if-a-b.true a.same_n)

pub returns-then-a-b-2 : goal.returns-then-a-b-2
returns-then-a-b-2 c = unlike _ _ (λ a. c.if-a-b-2.true a.same_height)

pub returns-then-a-b-3 : goal.returns-then-a-b-3
returns-then-a-b-3 c = unlike _ _ (λ a. c.if-a-b-3.true a.same_entries)

pub returns-then-a-b-4 : goal.returns-then-a-b-4
returns-then-a-b-4 c = unlike _ _ (λ a. c.if-a-b-4.true a.same_lower_subscripts)

pub returns-then-a-b-5 : goal.returns-then-a-b-5
returns-then-a-b-5 c = unlike _ _ (λ a. c.if-a-b-5.true a.same_upper_subscripts)

pub returns-then-a-b-6 : goal.returns-then-a-b-6
returns-then-a-b-6 c = unlike _ _ (λ a. c.if-a-b-6.true a.same_lower_slots)

pub returns-then-a-b-7 : goal.returns-then-a-b-7
returns-then-a-b-7 c = unlike _ _ (λ a. c.if-a-b-7.true a.same_upper_slots)

pub returns : goal.returns
returns c =
    let at-else6 = c.before.before.before.before.before.before in
    let at-else5 = at-else6.before.before.before in
    let at-else4 = at-else5.before.before.before in
    let at-else-else-else = at-else4.before.before.before in
    let at-else-else = at-else-else-else.before.before.before in
    last_count _ _ at-else-else.if-a-b.false c.if-a-b-2.false c.if-a-b-3.false c.if-a-b-4.false
    c.if-a-b-5.false c.if-a-b-6.false c.if-a-b-7.false
