-- A step on places keeps every occupied place in the rows 1 to the last and the columns 1 to n.
use mathlib.Core.Bool.{true, false≢true}
use mathlib.Core.Logic.{◌⊎◌, inl, inr}
use mathlib.Core.Path.{◌≡◌, sym, ◌∙◌}
use Prim.Native.Nat.{ℕ, ◌≤◌, ◌<◌}
use native.Mathlib.Decide.{dec_lt}
use native.Mathlib.Omega.{arith}
use lib.Dec.{eqb}
use borrow.Author.Tests.{eqb-true, eqb-false}
use Rattle.lists.proofs.Members.{by_test}
use Rattle.foundation.specs.Closed.{Places, Involved, StepOn}
use Rattle.foundation.proofs.Containment.{involved_from}

-- Every occupied place lies in rows 1 to height and columns 1 to n.
abbrev pub Inside : ℕ → ℕ → Places → Type 0
Inside height n occupied = (i j : ℕ) → occupied i j ≡ true → (1 ≤ i) × (i ≤ height) × (1 ≤ j) × (j ≤ n)

-- A row is involved or it is not.
pub involved_or-not : (k i : ℕ) (before : Places) → Involved k before i ⊎ (Involved k before i → ⊥)
involved_or-not k i before =
    by_test (eqb i k)
    (λ e. inl (inl (eqb-true i k e)))
    (λ ne. elim (dec_lt k i) [
      | yes l ↦ by_test (before i k) (λ t. inl (inr (l, t))) (λ f. inr (not_in (eqb-false i k ne) (λ m. false≢true (sym f ∙ m.1))))
      | no n ↦ inr (not_in (eqb-false i k ne) (λ m. n m.0))
    ])
  where
    not_in : (i ≡ k → ⊥) → ((k < i) × (before i k ≡ true) → ⊥) → Involved k before i → ⊥
    not_in a b (inl e) = a e
    not_in a b (inr m) = b m

-- An involved row lies in k to height: it is k, or it has an occupied place in column k.
pub involved_row :
    (height n k : ℕ) → k ≤ height → {before : Places} → Inside height n before → (i : ℕ) → Involved k before i → (k ≤ i) × (i ≤ height)
involved_row height n k in_rows {before} inside i v = (involved_from k i before v, last v)
  where
    last : Involved k before i → i ≤ height
    last (inl e) = omega arith
    last (inr m) = (inside i k m.1).1

module _ (height n k : ℕ) (low : 1 ≤ k) (in_rows : k ≤ height) (in_columns : k ≤ n) {before now : Places} (step : StepOn k before now) (inside : Inside height n before) where
  -- After a step k in range every occupied place lies in range. Columns before k and rows that are not involved stay. An involved row lies
  -- in range, and so does its place's column: it is k, or it was occupied in some row.
  pub inside-after_step : Inside height n now
  inside-after_step i j o =
      elim (dec_lt j k) [
        | yes l ↦ inside i j (sym (step.earlier i j l) ∙ o)
        | no n ↦ at (omega arith) (involved_or-not k i before)
      ]
    where
      column : k ≤ j → Involved k before i → (1 ≤ j) × (j ≤ n)
      column h v =
          elim (dec_lt k j) [
            | yes l ↦
                let (r, w, m) = step.within i j v l o in
                let (a, b, c, d) = inside r j m in (c, d)
            | no x ↦ (omega arith, omega arith)
          ]

      at : k ≤ j → Involved k before i ⊎ (Involved k before i → ⊥) → (1 ≤ i) × (i ≤ height) × (1 ≤ j) × (j ≤ n)
      at h (inl v) = let (a, b) = involved_row height n k in_rows inside i v in let (c, d) = column h v in (omega arith, b, c, d)
      at h (inr w) = inside i j (sym (step.others i j w) ∙ o)
