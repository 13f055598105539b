-- The whole number of a draw in the machine's words.
use Rattle.std.proofs.Common.{◌≡◌, ℕ, ◌%◌, ◌<◌, ltb, ℤ, pos, ◌-ℤ◌, ap, ◌∙◌, arith, w32, SFits, to_z, of_z}
use mir.ValLaws.{to_z-of_z, to_z_pos}
use Rattle.lists.proofs.Members.{by_test}
use Rattle.foundation.specs.Draw.{drawn_whole}

-- the difference is in the range of an i32
less_fits : (a : ℕ) → a < 2001 → SFits w32 (pos a -ℤ pos 1000)
less_fits a h = by_test (ltb a 1000) (λ e. rw e (record { sfits = omega arith })) (λ e. rw e (record { sfits = omega arith }))

low_fits : (a : ℕ) → a < 2001 → to_z w32 a ≡ pos a
low_fits a h = to_z_pos w32 a (omega arith)

pub sub-fits : (a : ℕ) → a < 2001 → SFits w32 (to_z w32 a -ℤ pos 1000)
sub-fits a h = rw (low_fits a h) (less_fits a h)

pub read_back : (a draw : ℕ) → a ≡ draw % 2001 → a < 2001 → to_z w32 (of_z w32 (to_z w32 a -ℤ pos 1000)) ≡ drawn_whole draw
unfolding drawn_whole
read_back a draw e h = to_z-of_z w32 (to_z w32 a -ℤ pos 1000) (sub-fits a h) ∙ ap (λ (x : ℤ). x -ℤ pos 1000) (low_fits a h ∙ ap pos e)
