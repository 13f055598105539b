-- Squares, the free elimination and orthogonal steps: `unfolding squares`.
use Rattle.foundation.specs.Square.{swap, placed, exchanged}
use Rattle.foundation.specs.Free.{free_start, taken, replaced, free_step, free_run, free_after}
use Rattle.foundation.specs.Orthogonal.{orthogonal_start, involves, in_union, may_replace, orthogonal_taken, replaced_rows, kept_vectors, factor_rows, orthogonal_step, orthogonal_run, orthogonal_after}
use Rattle.foundation.proofs.Open.Plans.{patterns}

unfoldable pub squares : Unit {0}
unfolding
    patterns swap placed exchanged free_start taken replaced free_step free_run free_after orthogonal_start involves in_union may_replace orthogonal_taken replaced_rows kept_vectors factor_rows
    orthogonal_step orthogonal_run orthogonal_after
squares = tt
