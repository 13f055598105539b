-- From what a call keeps, and what is told of its answer, to the contract of the exported function.
use mathlib.Core.Bool.{true, false}
use mathlib.Core.List.{List, [], ◌∷◌}
use mathlib.Core.Path.{◌≡◌, refl, sym, ap, subst, ◌∙◌}
use Prim.Native.Nat.{ℕ, ◌+◌, ◌-◌, ◌≤◌}
use native.Mathlib.Omega.{arith}
use lib.Dec.{eqb}
use lib.IntN.{ℤ}
use lib.Ieee.{Float, binary64, of_bits}
use lib.ListN.{length, take, replicate, length-append, length-replicate}
use borrow.Author.Tests.{eq-eqb, ne_eqb}
use Rattle.lists.specs.Functions.{padded}
use Rattle.lists.proofs.Places.{padded-take}
use Rattle.foundation.specs.Answer.{Answer, refused, granted, refuse_if, result_store}
use Rattle.foundation.specs.Numbers.{plus_zero}
use Rattle.foundation.specs.LoadCall.{load_answer, LoadStores, load_sizes_of, load_leaves}
use Rattle.foundation.specs.OffsetCall.{read_offset, read_into, read_leaves, write_offset, write_leaves}
use Rattle.foundation.specs.Pattern.{Lent}
use Rattle.foundation.specs.PlanCall.{PlanStores, Counts}
use Rattle.foundation.specs.Printing.{printed}
use Rattle.foundation.specs.Reference.{Extent}
use Rattle.foundation.specs.RunCall.{Lending, RunStores}
use Rattle.foundation.specs.Tally.{tally_answer, tally_after}
use Rattle.foundation.proofs.TallyAnswers.{other_length, after-refusal, tally_length}
use Rattle.answers.specs.Answers.{answer_of, verify_answer_of, counts_in}
use Rattle.answers.specs.Loads.{load_answer_of}
use Rattle.answers.specs.Offsets.{write_answer_of}
use Rattle.answers.specs.Runs.{chosen_by, run_answer_of, extent_of}
use Rattle.answers.specs.Stores.{WorkStores, lent_plan}
use Rattle.answers.specs.declared.Extent.{Extent as CallExtent}
use Rattle.answers.specs.declared.LoadAnswer.{LoadAnswer}
use Rattle.answers.specs.declared.PivotChoice.{PivotChoice}
use Rattle.answers.specs.declared.PlanAnswer.{PlanAnswer}
use Rattle.answers.specs.declared.PlanCounts.{PlanCounts}
use Rattle.answers.specs.declared.RunAnswer.{RunAnswer}
use Rattle.answers.specs.declared.VerifyAnswer.{VerifyAnswer}
use Rattle.answers.specs.declared.WriteAnswer.{WriteAnswer}
use Rattle.planning.specs.Calls.{PlanKept, VerifyKept}
use Rattle.elimination.specs.Calls.{RunWork, RunKept}
use Rattle.tally.specs.Calls.{tally_answer_of}
use Rattle.tally.specs.declared.TallyAnswer.{TallyAnswer}
use Rattle.numbers.specs.Numbered.{refusal_number, numbers_of, plan_numbers, verify_numbers, one_number, job_numbers, offset_numbers, read_numbers, write_numbers, cut_or_padded, counts_from}
use Rattle.numbers.proofs.CutOrPadded.{cut-or-padded-whole, cut-or-padded_same, cut-or-padded_none}
use Rattle.dalumiveth.specs.Calls.{lent_from, PlanTold, VerifyTold, RunTold, TallyTold, text_room, job_call, JobTold, ReadTold, WriteTold, LoadTold}

-- what a telling function ensures of an answer, given what the answer is
module _ {A : Type 0} (shown : Answer A → List ℕ) (r : ℕ) (answer answer' : List ℕ) (a b : Answer A) (same : a ≡ b)
    (told : (r ≡ refusal_number a) × (answer' ≡ cut_or_padded (length answer) (shown a))) where
  returned_is : r ≡ refusal_number b
  returned_is = told.0 ∙ ap refusal_number same

  told_is : answer' ≡ cut_or_padded (length answer) (shown b)
  told_is = told.1 ∙ ap (λ (x : Answer A). cut_or_padded (length answer) (shown x)) same

pub plan-told : (r most : ℕ) (p : Lent) (stores stores' : PlanStores) (scratch scratch' : WorkStores) (answer answer' : List ℕ) (a : PlanAnswer)
    → PlanKept a most p stores stores' scratch scratch'
    → (r ≡ refusal_number (answer_of a)) × (answer' ≡ cut_or_padded (length answer) (plan_numbers (answer_of a)))
    → PlanTold r most p stores stores' scratch scratch' answer answer'
plan-told r most p stores stores' scratch scratch' answer answer' a k t =
    record {
      returned = returned_is plan_numbers r answer answer' _ _ k.answer t;
      numbers = told_is plan_numbers r answer answer' _ _ k.answer t;
      results = k.results;
      work = k.work;
    }

pub verify_told : (r most : ℕ) (p : Lent) (counts : List ℕ) (c : PlanCounts) (stores : PlanStores) (scratch scratch' : WorkStores) (answer answer' : List ℕ) (a : VerifyAnswer)
    → counts_in c ≡ counts_from counts
    → VerifyKept a most p (lent_plan c stores) scratch scratch'
    → (r ≡ refusal_number (verify_answer_of a)) × (answer' ≡ cut_or_padded (length answer) (verify_numbers (verify_answer_of a)))
    → VerifyTold r most p (lent_from counts stores) scratch scratch' answer answer'
verify_told r most p counts c stores scratch scratch' answer answer' a e kept t =
    let k = subst (λ (n : Counts). VerifyKept a most p (record { counts = n; stores = stores }) scratch scratch') e kept in
    record {
      returned = returned_is verify_numbers r answer answer' _ _ k.answer t;
      numbers = told_is verify_numbers r answer answer' _ _ k.answer t;
      work = k.work;
    }

pub run_told : (r most : ℕ) (p : Lent) (counts : List ℕ) (c : PlanCounts) (stores : PlanStores) (rows : List ℕ) (by choice : PivotChoice) (extent : Extent)
    (x : CallExtent) (lending : Lending) (results' : RunStores) (scratch scratch' : RunWork) (answer answer' : List ℕ) (a : RunAnswer)
    → counts_in c ≡ counts_from counts → by ≡ choice → extent_of x ≡ extent
    → RunKept a most p (lent_plan c stores) (chosen_by by rows) (extent_of x) lending results' scratch scratch'
    → (r ≡ refusal_number (run_answer_of a)) × (answer' ≡ cut_or_padded (length answer) (one_number (run_answer_of a)))
    → RunTold r most p (lent_from counts stores) (chosen_by choice rows) extent lending results' scratch scratch' answer answer'
run_told r most p counts c stores rows by choice extent x lending results' scratch scratch' answer answer' a e g f kept t =
    let i = subst (λ (n : Counts). RunKept a most p (record { counts = n; stores = stores }) (chosen_by by rows) (extent_of x) lending results' scratch scratch') e kept in
    let j = subst (λ (y : PivotChoice). RunKept a most p (lent_from counts stores) (chosen_by y rows) (extent_of x) lending results' scratch scratch') g i in
    let k = subst (λ (y : Extent). RunKept a most p (lent_from counts stores) (chosen_by choice rows) y lending results' scratch scratch') f j in
    record {
      returned = returned_is one_number r answer answer' _ _ k.answer t;
      numbers = told_is one_number r answer answer' _ _ k.answer t;
      results = k.results;
      work = k.work;
    }

module _ (r member updates : ℕ) (counters counters' answer answer' : List ℕ) where
  -- a store of another length than sixteen is left as it was
  pub tally_without_counters : (length counters ≡ 16 → ⊥) → counters' ≡ counters
      → (r ≡ 6) × (answer' ≡ cut_or_padded (length answer) (6 ∷ 0 ∷ [])) → TallyTold r member updates counters counters' answer answer'
  unfolding refusal_number one_number numbers_of
  tally_without_counters other same t =
      let e = other_length counters member updates other in
      record { returned = rw e t.0; numbers = rw e t.1; kept = same ∙ sym (after-refusal counters member updates e) }

  -- what stood in the store went in, and what came out was laid there
  pub tally_told : (a : TallyAnswer) (held left : List ℕ) → length counters ≡ 16 → held ≡ cut_or_padded 16 counters
      → (left ≡ tally_after held member updates) × (tally_answer_of a ≡ tally_answer held member updates)
      → counters' ≡ cut_or_padded (length counters) left
      → (r ≡ refusal_number (tally_answer_of a)) × (answer' ≡ cut_or_padded (length answer) (one_number (tally_answer_of a)))
      → TallyTold r member updates counters counters' answer answer'
  tally_told a held left sixteen e (after, is) laid t =
      let same : held ≡ counters = e ∙ cut-or-padded_same 16 counters sixteen in
      let answers : tally_answer_of a ≡ tally_answer counters member updates = is ∙ ap (λ (cs : List ℕ). tally_answer cs member updates) same in
      let leaves : left ≡ tally_after counters member updates = after ∙ ap (λ (cs : List ℕ). tally_after cs member updates) same in
      record {
        returned = returned_is one_number r answer answer' _ _ answers t;
        numbers = told_is one_number r answer answer' _ _ answers t;
        kept = laid ∙ ap (cut_or_padded (length counters)) leaves ∙ cut-or-padded_same _ _ (tally_length counters member updates);
      }

-- a text that was padded to so many places has no more
within-room : (room : ℕ) (text bytes : List ℕ) → bytes ≡ padded 0 room text → length bytes ≡ room → length text ≤ room
unfolding padded
within-room room text bytes e l =
    let long : length text + (room - length text) ≡ room = rw (e, length-append, length-replicate) at l in
    omega arith

-- the printed bytes, in a store that has the room of every answer
pub job_told : (count : ℕ) (job out out' answer answer' bytes : List ℕ) → length out ≡ text_room → length bytes ≡ text_room
    → (count ≡ length (printed job)) × (bytes ≡ padded 0 text_room (printed job)) → out' ≡ cut_or_padded (length out) (take count bytes)
    → answer' ≡ cut_or_padded (length answer) (0 ∷ 0 ∷ count ∷ []) → JobTold 0 job out out' answer answer'
unfolding job_call refuse_if result_store refusal_number job_numbers numbers_of
job_told count job out out' answer answer' bytes sized long (e, b) o a =
    let fits : eqb (length out) text_room ≡ true = eq-eqb (length out) text_room sized in
    let front : take count bytes ≡ printed job = rw (b, e) (padded-take 0 text_room (printed job)) in
    let short : length (printed job) ≤ length out = rw sized (within-room text_room (printed job) bytes b long) in
    record {
      returned = rw fits;
      numbers = rw fits (rw e at a);
      text = rw fits (o ∙ ap (cut_or_padded (length out)) front ∙ cut-or-padded-whole (length out) (printed job) short);
    }

-- a store of any other length
pub job_refused : (r : ℕ) (job out out' answer answer' : List ℕ) → (length out ≡ text_room → ⊥) → out' ≡ cut_or_padded (length out) []
    → (r ≡ 6) × (answer' ≡ cut_or_padded (length answer) (6 ∷ 0 ∷ [])) → JobTold r job out out' answer answer'
unfolding job_call refuse_if result_store refusal_number job_numbers numbers_of
job_refused r job out out' answer answer' other o t =
    let fails : eqb (length out) text_room ≡ false = ne_eqb (length out) text_room other in
    record { returned = rw fails t.0; numbers = rw fails t.1; text = rw fails (o ∙ cut-or-padded_none (length out)) }

-- ---- offsets

pub write_told : (r : ℕ) (value : Float) (out out' answer answer' : List ℕ) (a : WriteAnswer)
    → (write_answer_of a ≡ write_offset (length out) value) × (out' ≡ write_leaves (length out) value)
    → (r ≡ refusal_number (write_answer_of a)) × (answer' ≡ cut_or_padded (length answer) (write_numbers (write_answer_of a)))
    → WriteTold r value out out' answer answer'
write_told r value out out' answer answer' a (is, left) t =
    record {
      returned = returned_is write_numbers r answer answer' _ _ is t;
      numbers = told_is write_numbers r answer answer' _ _ is t;
      text = left;
    }

-- the literal 0.0 of the code
nought_is : of_bits binary64 0x0000000000000000 ≡ plus_zero
unfolding of_bits plus_zero
nought_is = refl

module _ (r : ℕ) (text : List ℕ) (value value' : List Float) (answer answer' : List ℕ) where
  -- a store of another length than one
  pub read-without_place : (length value ≡ 1 → ⊥) → value' ≡ replicate (length value) (of_bits binary64 0x0000000000000000)
      → (r ≡ 6) × (answer' ≡ cut_or_padded (length answer) (6 ∷ 0 ∷ [])) → ReadTold r text value value' answer answer'
  unfolding read_into read_leaves refuse_if result_store refusal_number read_numbers numbers_of
  read-without_place other filled t =
      let fails : eqb (length value) 1 ≡ false = ne_eqb (length value) 1 other in
      record { returned = rw fails t.0; numbers = rw fails t.1; float = rw (fails, ← nought_is) filled }

  module _ (one : length value ≡ 1) where
    pub read-refused : refused 28 0 ≡ read_offset text → value' ≡ replicate (length value) (of_bits binary64 0x0000000000000000)
        → (r ≡ 28) × (answer' ≡ cut_or_padded (length answer) (28 ∷ 0 ∷ [])) → ReadTold r text value value' answer answer'
    unfolding read_into read_leaves refuse_if result_store refusal_number read_numbers numbers_of
    read-refused is filled t =
        let fits : eqb (length value) 1 ≡ true = eq-eqb (length value) 1 one in
        record { returned = rw (fits, ← is) t.0; numbers = rw (fits, ← is) t.1; float = rw (fits, ← is, ← nought_is) filled }

    pub read_told : (w : ℤ) (x : Float) → granted (w, x) ≡ read_offset text → value' ≡ replicate (length value) x
        → (r ≡ 0) × (answer' ≡ cut_or_padded (length answer) (0 ∷ 0 ∷ offset_numbers w)) → ReadTold r text value value' answer answer'
    unfolding read_into read_leaves refuse_if result_store refusal_number read_numbers numbers_of padded
    read_told w x is filled t =
        let fits : eqb (length value) 1 ≡ true = eq-eqb (length value) 1 one in
        record { returned = rw (fits, ← is) t.0; numbers = rw (fits, ← is) t.1; float = rw (fits, ← is) (filled ∙ rw one refl) }

-- ---- test loads

pub load_told : (r seed n d : ℕ) (stores stores' : LoadStores) (answer answer' : List ℕ) (a : LoadAnswer)
    → (load_answer_of a ≡ load_answer seed n d (load_sizes_of stores)) × (stores' ≡ load_leaves seed n d (load_sizes_of stores))
    → (r ≡ refusal_number (load_answer_of a)) × (answer' ≡ cut_or_padded (length answer) (one_number (load_answer_of a)))
    → LoadTold r seed n d stores stores' answer answer'
load_told r seed n d stores stores' answer answer' a (is, left) t =
    record {
      returned = returned_is one_number r answer answer' _ _ is t;
      numbers = told_is one_number r answer answer' _ _ is t;
      results = left;
    }
