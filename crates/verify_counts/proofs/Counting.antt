-- Two plans' counts, one by one.
use mathlib.Core.Bool.{true, false}
use mathlib.Core.Path.{◌≡◌, sym}
use lib.Dec.{eqb}
use borrow.Author.Tests.{eqb-true, eq-eqb}
use Rattle.lists.proofs.Members.{same_test, fails, and_left, and_right}
use Rattle.foundation.specs.PlanCall.{Counts, same_counts}

-- each count of one is that of the other
pub record Alike (x y : Counts) : Type 0 where
  pub same_n : x.n ≡ y.n
  pub same_height : x.height ≡ y.height
  pub same_entries : x.entries ≡ y.entries
  pub same_lower_subscripts : x.lower_subscripts ≡ y.lower_subscripts
  pub same_upper_subscripts : x.upper_subscripts ≡ y.upper_subscripts
  pub same_lower_slots : x.lower_slots ≡ y.lower_slots
  pub same_upper_slots : x.upper_slots ≡ y.upper_slots
  pub same_reads : x.reads ≡ y.reads

module _ (x y : Counts) where
  -- the test says just this
  pub alike : same_counts x y ≡ true → Alike x y
  unfolding same_counts
  alike e₀ =
      let e₁ = and_right (eqb x.n y.n) _ e₀ in
      let e₂ = and_right (eqb x.height y.height) _ e₁ in
      let e₃ = and_right (eqb x.entries y.entries) _ e₂ in
      let e₄ = and_right (eqb x.lower_subscripts y.lower_subscripts) _ e₃ in
      let e₅ = and_right (eqb x.upper_subscripts y.upper_subscripts) _ e₄ in
      let e₆ = and_right (eqb x.lower_slots y.lower_slots) _ e₅ in
      let e₇ = and_right (eqb x.upper_slots y.upper_slots) _ e₆ in
      record {
        same_n = eqb-true _ _ (and_left (eqb x.n y.n) _ e₀);
        same_height = eqb-true _ _ (and_left (eqb x.height y.height) _ e₁);
        same_entries = eqb-true _ _ (and_left (eqb x.entries y.entries) _ e₂);
        same_lower_subscripts = eqb-true _ _ (and_left (eqb x.lower_subscripts y.lower_subscripts) _ e₃);
        same_upper_subscripts = eqb-true _ _ (and_left (eqb x.upper_subscripts y.upper_subscripts) _ e₄);
        same_lower_slots = eqb-true _ _ (and_left (eqb x.lower_slots y.lower_slots) _ e₅);
        same_upper_slots = eqb-true _ _ (and_left (eqb x.upper_slots y.upper_slots) _ e₆);
        same_reads = eqb-true _ _ e₇;
      }

  alike_same : Alike x y → same_counts x y ≡ true
  unfolding same_counts
  alike_same a =
      rw (
        eq-eqb x.n y.n a.same_n,
        eq-eqb x.height y.height a.same_height,
        eq-eqb x.entries y.entries a.same_entries,
        eq-eqb x.lower_subscripts y.lower_subscripts a.same_lower_subscripts,
        eq-eqb x.upper_subscripts y.upper_subscripts a.same_upper_subscripts,
        eq-eqb x.lower_slots y.lower_slots a.same_lower_slots,
        eq-eqb x.upper_slots y.upper_slots a.same_upper_slots,
        eq-eqb x.reads y.reads a.same_reads,
      )

  -- a count that differs fails it
  pub unlike : (Alike x y → ⊥) → false ≡ same_counts x y
  unlike not_so = sym (fails _ (λ e. not_so (alike e)))

  -- where all but the reads are the same, these decide
  pub last_count :
      x.n ≡ y.n → x.height ≡ y.height → x.entries ≡ y.entries → x.lower_subscripts ≡ y.lower_subscripts
      → x.upper_subscripts ≡ y.upper_subscripts → x.lower_slots ≡ y.lower_slots → x.upper_slots ≡ y.upper_slots → eqb x.reads y.reads ≡ same_counts x y
  last_count a b c d e f g =
      same_test _ _
      (λ t. alike_same (record {
        same_n = a;
        same_height = b;
        same_entries = c;
        same_lower_subscripts = d;
        same_upper_subscripts = e;
        same_lower_slots = f;
        same_upper_slots = g;
        same_reads = eqb-true _ _ t;
      }))
      (λ t. eq-eqb _ _ (alike t).same_reads)
