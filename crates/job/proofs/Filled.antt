-- A text alone in a store of zeros.
use mathlib.Core.List.{List}
use mathlib.Core.Path.{◌≡◌, sym, ◌∙◌}
use Prim.Native.Nat.{ℕ, zero, suc, ◌-◌}
use native.Mathlib.Nat.{sub-zero}
use native.Mathlib.Omega.{arith}
use lib.ListN.{length, drop, replicate, take-append-drop}
use Rattle.lists.specs.Functions.{padded}
use Rattle.job_print.specs.Appended.{Appended}

drop_zeros : (k room : ℕ) → drop k (replicate {A = ℕ} room 0) ≡ replicate (room - k) 0
drop_zeros zero room = rw sub-zero
drop_zeros (suc k) zero = let e : zero - suc k ≡ zero = omega arith in rw e
drop_zeros (suc k) (suc room) = let e : suc room - suc k ≡ room - k = omega arith in rw e (drop_zeros k room)

-- what was written, and zeros behind it
pub alone : (room : ℕ) (text now : List ℕ) (end : ℕ) → Appended (replicate room 0) 0 text now end → (end ≡ length text) × (now ≡ padded 0 room text)
unfolding padded
alone room text now end a =
    let e : end ≡ length text = omega (arith, a.ends) in
    (e, sym (take-append-drop end now) ∙ rw (a.written, a.beyond, drop_zeros end room, e))
