-- What a call answers: a refusal with its number and step, or what was asked for.
use Rattle.std.specs.Prelude.{Bool, cond, List, ℕ, replicate}
use Rattle.lists.specs.Functions.{padded}

-- Document 01, "Where each refusal is checked": "A refusal carries its number and its step".
pub data Answer {ℓ} (A : Type ℓ) : Type ℓ where
  refused : (number step : ℕ) → Answer A
  granted : A → Answer A

module _ {ℓ} {A : Type ℓ} where
  -- a test of the table that fails is a refusal with step 0 ("0 outside steps 7, 8, 13 and 14"); else the later tests decide
  unfoldable pub refuse_if : Bool → ℕ → Answer A → Answer A
  refuse_if fails number later = cond fails (refused number 0) later

  -- the later part is asked only where the earlier one refuses nothing
  unfoldable pub and_then {κ} : {B : Type κ} → Answer A → (A → Answer B) → Answer B
  and_then (refused number step) later = refused number step
  and_then (granted a) later = later a

  -- What a result store of `room` places holds after a call. Document 01: after a refusal "Result stores are then zero throughout",
  -- and "result stores longer than needed are zero beyond".
  unfoldable pub result_store {κ} : {B : Type κ} → B → ℕ → (A → List B) → Answer A → List B
  result_store blank room contents (refused number step) = replicate room blank
  result_store blank room contents (granted a) = padded blank room (contents a)

-- What a work store of `room` places, of numbers of any kind, holds after every call. Document 01: "as are work stores after every call".
unfoldable pub work_store {ℓ} : {A : Type ℓ} → A → ℕ → List A
work_store blank room = replicate room blank
