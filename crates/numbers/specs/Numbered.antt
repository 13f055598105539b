-- What an answer is in numbers, what a lent store holds of them, and what numbers are read as.
use Rattle.std.specs.Prelude.{cond, List, [], ◌∷◌, ℕ, eqb, ℤ, nat_abs, Float, length, get_or, take}
use Rattle.lists.specs.Functions.{padded}
use Rattle.foundation.specs.Answer.{Answer, refused, granted}
use Rattle.foundation.specs.PlanCall.{Counts, count_numbers}
use Rattle.foundation.specs.Reference.{Extent, whole, cut}
use Rattle.foundation.specs.Offset.{negative}
use Rattle.answers.specs.Answers.{counted}
use Rattle.numbers.specs.declared.refusals.NumberAndStep.{NumberAndStep}

-- a refusal of planning by its number and step
unfoldable pub refusal_by : NumberAndStep → Answer Counts
refusal_by t = refused t.number t.step

module _ {ℓ} {A : Type ℓ} where
  -- Document 01, "Where each refusal is checked": "A refusal carries its number and its step". 0 is no refusal's number.
  unfoldable pub refusal_number : Answer A → ℕ
  refusal_number (refused number step) = number
  refusal_number (granted v) = 0

  unfoldable pub refusal_step : Answer A → ℕ
  refusal_step (refused number step) = step
  refusal_step (granted v) = 0

  -- an answer in numbers: 0, 0 and the values, or the refusal's number and step
  unfoldable pub numbers_of : (A → List ℕ) → Answer A → List ℕ
  numbers_of values (refused number step) = number ∷ step ∷ []
  numbers_of values (granted v) = 0 ∷ 0 ∷ values v

-- the answers of planning and about a lent plan
unfoldable pub plan_numbers : Answer Counts → List ℕ
plan_numbers = numbers_of count_numbers

unfoldable pub verify_numbers : Answer (Unit {0}) → List ℕ
verify_numbers = numbers_of (λ v. [])

-- an answer that is one number: a run's updates, a member's new sum in the tally, or the entries of a test load
unfoldable pub one_number : Answer ℕ → List ℕ
one_number = numbers_of (λ number. number ∷ [])

-- the answer to a job: how many bytes are printed
unfoldable pub job_numbers : Answer (List ℕ) → List ℕ
job_numbers = numbers_of (λ text. length text ∷ [])

-- a whole number: 1 where it is below zero, else 0, and its size
unfoldable pub offset_numbers : ℤ → List ℕ
offset_numbers w = cond (negative w) 1 0 ∷ nat_abs w ∷ []

-- the answers to reading and to writing an offset: the whole number that was read or written
unfoldable pub read_numbers : Answer (ℤ × Float) → List ℕ
read_numbers = numbers_of (λ r. offset_numbers r.0)

unfoldable pub write_numbers : Answer ℤ → List ℕ
write_numbers = numbers_of offset_numbers

-- What a lent store of `room` places holds of a list: as much as there is room for, and 0 behind it.
unfoldable pub cut_or_padded : ℕ → List ℕ → List ℕ
cut_or_padded room xs = take room (padded 0 room xs)

-- the eight counts, in the order of `count_numbers`; missing ones are 0, further ones are not read
unfoldable pub counts_from : List ℕ → Counts
counts_from xs = counted (get_or xs 0 0) (get_or xs 1 0) (get_or xs 2 0) (get_or xs 3 0) (get_or xs 4 0) (get_or xs 5 0) (get_or xs 6 0) (get_or xs 7 0)

-- "A run may be cut to its first s steps": whole where `shorter` is 0
unfoldable pub extent_from : ℕ → ℕ → Extent
extent_from shorter steps = cond (eqb shorter 0) whole (cut steps)
