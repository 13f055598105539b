-- Result stores of the same lengths.
use mathlib.Core.Path.{◌≡◌, ◌∙◌}
use lib.ListN.{length}
use Rattle.foundation.specs.RunCall.{RunStores}

-- one by one
pub record SameSizes (stores stores' : RunStores) : Type 0 where
  pub l_size : length stores'.lower_slots ≡ length stores.lower_slots
  pub u_size : length stores'.upper_slots ≡ length stores.upper_slots
  pub d_size : length stores'.diagonal ≡ length stores.diagonal
  pub x_size : length stores'.solution ≡ length stores.solution
  pub pivots_size : length stores'.pivots ≡ length stores.pivots

pub then_sizes : {stores stores' stores'' : RunStores} → SameSizes stores stores' → SameSizes stores' stores'' → SameSizes stores stores''
then_sizes a b = record {
  l_size = b.l_size ∙ a.l_size;
  u_size = b.u_size ∙ a.u_size;
  d_size = b.d_size ∙ a.d_size;
  x_size = b.x_size ∙ a.x_size;
  pivots_size = b.pivots_size ∙ a.pivots_size;
}
