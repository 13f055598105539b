-- The draws of a test load (document 02, Ticket 6, "Test loads that can be named"), on numbers below 2^32: "The state is a u32".
use Rattle.std.specs.Prelude.{ℕ, ◌+◌, ◌*◌, ◌/◌, ◌%◌, ◌^◌, ℤ, pos, ◌-ℤ◌, Float}
use Rattle.std.specs.Int.Bits.{bit_xor}
use Rattle.foundation.specs.Numbers.{float_of}

-- "each draw adds 2654435769, dropping what passes 32 bits": the state after a draw
unfoldable pub stepped : ℕ → ℕ
stepped state = (state + 2654435769) % 2 ^ 32

-- "z xor (z shifted right 16)", "that xor (itself shifted right 11)"
unfoldable pub xor_right : ℕ → ℕ → ℕ
xor_right by z = bit_xor z (z / 2 ^ by)

-- "that xor (itself shifted left 7, kept to 32 bits)"
unfoldable pub xor_left : ℕ → ℕ → ℕ
xor_left by z = bit_xor z (z * 2 ^ by % 2 ^ 32)

-- "then z = state, z xor (z shifted right 16), that xor (itself shifted left 7, kept to 32 bits), that xor (itself shifted right 11)"
unfoldable pub mixed : ℕ → ℕ
mixed state = xor_right 11 (xor_left 7 (xor_right 16 state))

-- what the next draw gives, from the state before it
unfoldable pub drawn : ℕ → ℕ
drawn state = mixed (stepped state)

-- "the value (draw mod 2,001) - 1,000": the whole number of a draw, and its f64
unfoldable pub drawn_whole : ℕ → ℤ
drawn_whole draw = pos (draw % 2001) -ℤ pos 1000

unfoldable pub drawn_value : ℕ → Float
drawn_value draw = float_of (drawn_whole draw)
