-- What the calls answer: their enums by document 01's numbers and values.
use Rattle.std.specs.Prelude.{ℕ}
use Rattle.foundation.specs.Answer.{Answer, refused, granted, and_then}
use Rattle.foundation.specs.Plan.{Planning}
use Rattle.foundation.specs.PlanCall.{Counts}
use Rattle.answers.specs.declared.PlanCounts.{PlanCounts}
use Rattle.answers.specs.declared.Refusal.{Refusal}
use Rattle.answers.specs.declared.Refusal.TheVariants.{Limits, Height, Starts, Column, Order, Diagonal, Stores, LowerRoom, UpperRoom, OtherPlan}
use Rattle.answers.specs.declared.PlanAnswer.{PlanAnswer}
use Rattle.answers.specs.declared.PlanAnswer.TheVariants.{Planned, Refused}
use Rattle.answers.specs.declared.VerifyAnswer.{VerifyAnswer}
use Rattle.answers.specs.declared.VerifyAnswer.TheVariants.{Agrees, Refused as NotVerified}

-- Document 01, "Where each refusal is checked": the number and step of each case; document 02, ticket 9: 25, "after 1".
unfoldable pub refusal_of {ℓ} : {A : Type ℓ} → Refusal → Answer A
refusal_of Limits = refused 1 0
refusal_of Height = refused 25 0
refusal_of Starts = refused 2 0
refusal_of Column = refused 3 0
refusal_of Order = refused 4 0
refusal_of Diagonal = refused 5 0
refusal_of Stores = refused 6 0
refusal_of (LowerRoom k) = refused 7 k
refusal_of (UpperRoom k) = refused 8 k
refusal_of OtherPlan = refused 9 0

-- the counts, one by one
abbrev pub counted : (n height entries lower_subscripts upper_subscripts lower_slots upper_slots reads : ℕ) → Counts
counted n height entries lower_subscripts upper_subscripts lower_slots upper_slots reads =
    record {
      n = n;
      height = height;
      entries = entries;
      lower_subscripts = lower_subscripts;
      upper_subscripts = upper_subscripts;
      lower_slots = lower_slots;
      upper_slots = upper_slots;
      reads = reads;
    }

-- the counts of a plan as the code's struct has them
abbrev pub counts_in : PlanCounts → Counts
counts_in c = counted c.n c.height c.entries c.l_subscripts c.u_subscripts c.l_slots c.u_slots c.reads

-- what a planning call's answer says
unfoldable pub answer_of : PlanAnswer → Answer Counts
answer_of (Planned c) = granted (counts_in c)
answer_of (Refused r) = refusal_of r

-- what the answer about a lent plan says: nothing but that it is this pattern's plan, or the refusal
unfoldable pub verify_answer_of : VerifyAnswer → Answer (Unit {0})
verify_answer_of Agrees = granted tt
verify_answer_of (NotVerified r) = refusal_of r

unfoldable pub verify_answer : Answer Planning → Answer (Unit {0})
verify_answer answer = and_then answer (λ s. granted tt)
