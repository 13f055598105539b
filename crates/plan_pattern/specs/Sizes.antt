-- The lengths that docs/ fixes.
use Rattle.std.specs.Prelude.{Bool, ◌&&◌, ℕ, suc, eqb}

-- the lengths that docs/ fixes: n for the starts of lists, n+1 for those of slots; of the work stores the row count for the two of a growing list, one more for the others
unfoldable pub lengths_fit : (n height l_starts l_slots u_starts u_slots row_heads row_links set_heads set_links list spare : ℕ) → Bool
lengths_fit n height l_starts l_slots u_starts u_slots row_heads row_links set_heads set_links list spare =
    (eqb l_starts n && eqb l_slots (suc n))
    && ((eqb u_starts n && eqb u_slots (suc n))
    && ((eqb row_heads (suc height) && (eqb row_links (suc height) && (eqb set_heads (suc height) && eqb set_links (suc height)))) && (eqb list height && eqb spare height)))
