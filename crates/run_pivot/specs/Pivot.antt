-- The pivot row of a step, found in the slots of its column: what the choice takes for granted, and what it leaves.
use Rattle.std.specs.Prelude.{true, false, cond, List, ◌∷◌, map, ◌⊎◌, ◌≡◌, ℕ, suc, ◌≤◌, ◌<◌, Float, pos, length, get_or}
use Rattle.std.specs.Float.{fin}
use Rattle.std.specs.Float.Ieee.{neg, lt}
use Rattle.lists.specs.Sets.{member, Ascending}
use Rattle.foundation.specs.Numbers.{plus_zero, finite, may_pivot}
use Rattle.foundation.specs.Pattern.{Pattern}
use Rattle.foundation.specs.Reference.{Choice, pivot_row, best}
use Rattle.foundation.specs.RunCall.{choice_fits}
use Rattle.run_slots.specs.Handing.{asked}

-- Column k by its rows: the diagonal has `own`, the slots have the entries of the rows `subs`, and every other row from k + 1 to the last holds +0.
-- `row` is the row that the choice asks for, 0 where the largest entry decides.
pub record PivotAsks (k row : ℕ) (own : Float) (slots : List Float) (subs : List ℕ) : Type 0 where
  pub p : Pattern
  pub n : ℕ
  pub choice : Choice
  pub entry : ℕ → Float
  pub width : p.n ≡ n
  pub tall : n ≤ p.height
  pub fits : choice_fits p choice ≡ true
  pub low : 1 ≤ k
  pub high : k ≤ n
  pub row_is : row ≡ asked choice k
  pub own_is : entry k ≡ own
  pub slots_are : slots ≡ map entry subs
  pub ascends : Ascending (suc k) subs
  pub bounded : (x : ℕ) → member x subs ≡ true → x ≤ p.height
  pub outside : (x : ℕ) → k < x → x ≤ p.height → member x subs ≡ false → entry x ≡ plus_zero
  pub sound : (x : ℕ) → finite (entry x) ≡ true

-- Where a row found stands: none is found, or it is row k, or the row at this place of the list.
abbrev pub FoundAt : (k : ℕ) (subs : List ℕ) (row place : ℕ) → Type 0
FoundAt k subs row place = (row ≡ 0) ⊎ ((row ≡ k) ⊎ ((place < length subs) × (row ≡ get_or subs place 0)))

-- The reference's pivot row, and where it stands.
pub record PivotLeaves (row place k asks : ℕ) (own : Float) (slots : List Float) (subs : List ℕ) (w : PivotAsks k asks own slots subs) : Type 0 where
  pub is : row ≡ pivot_row w.choice w.p.height k w.entry
  pub found_at : FoundAt k subs row place

-- the number without its sign as the code finds it: a zero keeps its sign
unfoldable pub absolute : Float → Float
absolute v = cond (lt v (fin false 0 (pos 0))) (neg v) v

-- Document 01, "Elimination": the row "with the largest magnitude in column k, the lowest row number if equal", among k and the rows of a list.
pub record LargestFound (k : ℕ) (own : Float) (slots : List Float) (subs : List ℕ) (row place : ℕ) : Type 0 where
  pub is : (entry : ℕ → Float) → entry k ≡ own → slots ≡ map entry subs → row ≡ best entry 0 (k ∷ subs)
  pub found_at : FoundAt k subs row place

-- "or row p_k of a given list", where its entry may serve. A row that is neither k nor in the list has no entry that may.
pub record ListedFound (k asks : ℕ) (own : Float) (slots : List Float) (subs : List ℕ) (row place : ℕ) : Type 0 where
  pub is : (entry : ℕ → Float) → entry k ≡ own → slots ≡ map entry subs
      → ((asks ≡ k → ⊥) → member asks subs ≡ false → may_pivot (entry asks) ≡ false) → row ≡ cond (may_pivot (entry asks)) asks 0
  pub found_at : FoundAt k subs row place
