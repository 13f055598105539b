-- The lengths of the stores, one test after the other.
use mathlib.Core.Bool.{false}
use mathlib.Core.Path.{◌≡◌}
use Prim.Native.Nat.{ℕ, ◌+◌}
use lib.Dec.{eqb}
use borrow.Author.Tests.{eq-eqb, ne_eqb}
use Rattle.foundation.specs.Pattern.{max_entries}
use Rattle.foundation.specs.LoadCall.{load_sizes, load_sizes_fit}

module _ (n starts columns values right : ℕ) where
  pub columns_off : (columns ≡ 16384 → ⊥) → false ≡ load_sizes_fit n (load_sizes starts columns values right)
  unfolding load_sizes_fit max_entries
  columns_off off = rw (ne_eqb columns 16384 off)

  module _ (e : columns ≡ 16384) where
    pub values_off : (values ≡ 16384 → ⊥) → false ≡ load_sizes_fit n (load_sizes starts columns values right)
    unfolding load_sizes_fit max_entries
    values_off off = rw (eq-eqb columns 16384 e, ne_eqb values 16384 off)

    module _ (f : values ≡ 16384) where
      pub starts_off : (starts ≡ n + 1 → ⊥) → false ≡ load_sizes_fit n (load_sizes starts columns values right)
      unfolding load_sizes_fit max_entries
      starts_off off = rw (eq-eqb columns 16384 e, eq-eqb values 16384 f, ne_eqb starts (n + 1) off)

      pub right_decides : starts ≡ n + 1 → eqb right n ≡ load_sizes_fit n (load_sizes starts columns values right)
      unfolding load_sizes_fit max_entries
      right_decides g = rw (eq-eqb columns 16384 e, eq-eqb values 16384 f, eq-eqb starts (n + 1) g)
