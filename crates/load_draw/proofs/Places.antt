-- A place on the diagonal, and one off it.
use Rattle.std.proofs.Common.{◌≡◌, ℕ, ◌%◌, Bool, true, eqb, refl, ap, ◌∙◌, eq-eqb, ne_eqb}
use Rattle.foundation.specs.Draw.{stepped, mixed, drawn}
use Rattle.foundation.specs.Load.{present_by, asked_state}

module _ (d row column state : ℕ) where
  pub on_diagonal_lem : row ≡ column → (state ≡ asked_state row column state) × (true ≡ present_by d row column state)
  unfolding asked_state present_by
  on_diagonal_lem on = rw (eq-eqb row column on) (refl, refl)

  -- by the draw from the state that was stepped to
  pub off_diagonal : (row ≡ column → ⊥) → (next draw : ℕ) (present : Bool) → next ≡ stepped state → draw ≡ mixed next → present ≡ eqb (draw % d) 0
      → (next ≡ asked_state row column state) × (present ≡ present_by d row column state)
  unfolding asked_state present_by drawn
  off_diagonal off next draw present e f g = rw (ne_eqb row column off) (e, g ∙ ap (λ (x : ℕ). eqb (x % d) 0) (f ∙ ap mixed e))
