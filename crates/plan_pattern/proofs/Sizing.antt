-- Refusal 6: the test of the stores' lengths, as the code makes it and as the table has it.
use mathlib.Core.Bool.{Bool, true, false, ◌&&◌}
use mathlib.Core.List.{List}
use mathlib.Core.Path.{◌≡◌, sym}
use Prim.Native.Nat.{ℕ, suc}
use lib.Dec.{eqb}
use lib.ListN.{length}
use borrow.Author.Tests.{eqb-true, eq-eqb}
use Rattle.lists.specs.Functions.{all}
use Rattle.lists.proofs.Members.{same_test, fails, and_left, and_right}
use Rattle.foundation.specs.Pattern.{lent}
use Rattle.foundation.specs.PlanCall.{work_fits, starts_sized, sizes_fit}
use Rattle.answers.specs.Stores.{plan_stores, work_sizes, work_stores}
use Rattle.plan_pattern.specs.Sizes.{lengths_fit}

-- ---- the stores' lengths

-- the lengths that docs/ fixes
pub record Lengths (n height l_starts l_slots u_starts u_slots row_heads row_links set_heads set_links list spare : ℕ) : Type 0 where
  pub l_starts_lem : l_starts ≡ n
  pub l_slots_lem : l_slots ≡ suc n
  pub u_starts_lem : u_starts ≡ n
  pub u_slots_lem : u_slots ≡ suc n
  pub row_heads_lem : row_heads ≡ suc height
  pub row_links_lem : row_links ≡ suc height
  pub set_heads_lem : set_heads ≡ suc height
  pub set_links_lem : set_links ≡ suc height
  pub list_is : list ≡ height
  pub spare_is : spare ≡ height

module _ (n height l_starts l_slots u_starts u_slots row_heads row_links set_heads set_links list spare : ℕ) where
  -- the code's test says just this
  pub fit_lengths :
      lengths_fit n height l_starts l_slots u_starts u_slots row_heads row_links set_heads set_links list spare ≡ true
      → Lengths n height l_starts l_slots u_starts u_slots row_heads row_links set_heads set_links list spare
  unfolding lengths_fit
  fit_lengths e =
      let l = and_left (eqb l_starts n && eqb l_slots (suc n)) _ e in
      let e₁ = and_right (eqb l_starts n && eqb l_slots (suc n)) _ e in
      let u = and_left (eqb u_starts n && eqb u_slots (suc n)) _ e₁ in
      let e₂ = and_right (eqb u_starts n && eqb u_slots (suc n)) _ e₁ in
      let w = and_left (eqb row_heads (suc height) && (eqb row_links (suc height) && (eqb set_heads (suc height) && eqb set_links (suc height)))) _ e₂ in
      let w₁ = and_right (eqb row_heads (suc height)) _ w in
      let w₂ = and_right (eqb row_links (suc height)) _ w₁ in
      let v = and_right (eqb row_heads (suc height) && (eqb row_links (suc height) && (eqb set_heads (suc height) && eqb set_links (suc height)))) _ e₂ in
      record {
        l_starts_lem = eqb-true _ _ (and_left (eqb l_starts n) _ l);
        l_slots_lem = eqb-true _ _ (and_right (eqb l_starts n) _ l);
        u_starts_lem = eqb-true _ _ (and_left (eqb u_starts n) _ u);
        u_slots_lem = eqb-true _ _ (and_right (eqb u_starts n) _ u);
        row_heads_lem = eqb-true _ _ (and_left (eqb row_heads (suc height)) _ w);
        row_links_lem = eqb-true _ _ (and_left (eqb row_links (suc height)) _ w₁);
        set_heads_lem = eqb-true _ _ (and_left (eqb set_heads (suc height)) _ w₂);
        set_links_lem = eqb-true _ _ (and_right (eqb set_heads (suc height)) _ w₂);
        list_is = eqb-true _ _ (and_left (eqb list height) _ v);
        spare_is = eqb-true _ _ (and_right (eqb list height) _ v);
      }

  pub lengths_fit_lem :
      Lengths n height l_starts l_slots u_starts u_slots row_heads row_links set_heads set_links list spare
      → lengths_fit n height l_starts l_slots u_starts u_slots row_heads row_links set_heads set_links list spare ≡ true
  unfolding lengths_fit
  lengths_fit_lem f =
      rw (
        eq-eqb l_starts n f.l_starts_lem,
        eq-eqb l_slots (suc n) f.l_slots_lem,
        eq-eqb u_starts n f.u_starts_lem,
        eq-eqb u_slots (suc n) f.u_slots_lem,
        eq-eqb row_heads (suc height) f.row_heads_lem,
        eq-eqb row_links (suc height) f.row_links_lem,
        eq-eqb set_heads (suc height) f.set_heads_lem,
        eq-eqb set_links (suc height) f.set_links_lem,
        eq-eqb list height f.list_is,
        eq-eqb spare height f.spare_is,
      )

  -- a length that does not fit fails the test
  pub unfit :
      (Lengths n height l_starts l_slots u_starts u_slots row_heads row_links set_heads set_links list spare → ⊥)
      → false ≡ lengths_fit n height l_starts l_slots u_starts u_slots row_heads row_links set_heads set_links list spare
  unfit not_so = sym (fails _ (λ e. not_so (fit_lengths e)))

  -- where nine lengths fit, the last one decides
  pub last_fits :
      l_starts ≡ n → l_slots ≡ suc n → u_starts ≡ n → u_slots ≡ suc n → row_heads ≡ suc height → row_links ≡ suc height → set_heads ≡ suc height → set_links ≡ suc height → list ≡ height
      → eqb spare height ≡ lengths_fit n height l_starts l_slots u_starts u_slots row_heads row_links set_heads set_links list spare
  last_fits a b c d e f g h i =
      same_test _ _
      (λ x. lengths_fit_lem (record {
        l_starts_lem = a;
        l_slots_lem = b;
        u_starts_lem = c;
        u_slots_lem = d;
        row_heads_lem = e;
        row_links_lem = f;
        set_heads_lem = g;
        set_links_lem = h;
        list_is = i;
        spare_is = eqb-true _ _ x;
      }))
      (λ x. eq-eqb _ _ (fit_lengths x).spare_is)

  -- the table's test, as it computes
  abbrev sized : Bool
  sized =
      (eqb l_starts n && eqb l_slots (suc n))
      && ((eqb u_starts n && eqb u_slots (suc n))
      && ((eqb height list && (eqb height spare && true))
      && ((eqb (suc height) row_heads && (eqb (suc height) row_links && (eqb (suc height) set_heads && (eqb (suc height) set_links && true)))) && true)))

  sized_lengths : sized ≡ true → Lengths n height l_starts l_slots u_starts u_slots row_heads row_links set_heads set_links list spare
  sized_lengths e =
      let l = and_left (eqb l_starts n && eqb l_slots (suc n)) _ e in
      let e₁ = and_right (eqb l_starts n && eqb l_slots (suc n)) _ e in
      let u = and_left (eqb u_starts n && eqb u_slots (suc n)) _ e₁ in
      let e₂ = and_right (eqb u_starts n && eqb u_slots (suc n)) _ e₁ in
      let v = and_left (eqb height list && (eqb height spare && true)) _ e₂ in
      let v₁ = and_right (eqb height list) _ v in
      let w = and_left _ true (and_right (eqb height list && (eqb height spare && true)) _ e₂) in
      let w₁ = and_right (eqb (suc height) row_heads) _ w in
      let w₂ = and_right (eqb (suc height) row_links) _ w₁ in
      let w₃ = and_right (eqb (suc height) set_heads) _ w₂ in
      record {
        l_starts_lem = eqb-true _ _ (and_left (eqb l_starts n) _ l);
        l_slots_lem = eqb-true _ _ (and_right (eqb l_starts n) _ l);
        u_starts_lem = eqb-true _ _ (and_left (eqb u_starts n) _ u);
        u_slots_lem = eqb-true _ _ (and_right (eqb u_starts n) _ u);
        row_heads_lem = sym (eqb-true _ _ (and_left (eqb (suc height) row_heads) _ w));
        row_links_lem = sym (eqb-true _ _ (and_left (eqb (suc height) row_links) _ w₁));
        set_heads_lem = sym (eqb-true _ _ (and_left (eqb (suc height) set_heads) _ w₂));
        set_links_lem = sym (eqb-true _ _ (and_left (eqb (suc height) set_links) _ w₃));
        list_is = sym (eqb-true _ _ (and_left (eqb height list) _ v));
        spare_is = sym (eqb-true _ _ (and_left (eqb height spare) _ v₁));
      }

  lengths_sized : Lengths n height l_starts l_slots u_starts u_slots row_heads row_links set_heads set_links list spare → sized ≡ true
  lengths_sized f =
      rw (
        eq-eqb l_starts n f.l_starts_lem,
        eq-eqb l_slots (suc n) f.l_slots_lem,
        eq-eqb u_starts n f.u_starts_lem,
        eq-eqb u_slots (suc n) f.u_slots_lem,
        eq-eqb height list (sym f.list_is),
        eq-eqb height spare (sym f.spare_is),
        eq-eqb (suc height) row_heads (sym f.row_heads_lem),
        eq-eqb (suc height) row_links (sym f.row_links_lem),
        eq-eqb (suc height) set_heads (sym f.set_heads_lem),
        eq-eqb (suc height) set_links (sym f.set_links_lem),
      )

  sized_fit : sized ≡ lengths_fit n height l_starts l_slots u_starts u_slots row_heads row_links set_heads set_links list spare
  sized_fit = same_test _ _ (λ e. lengths_fit_lem (sized_lengths e)) (λ e. lengths_sized (fit_lengths e))

-- ---- the answer

module _ (n height : ℕ) (starts columns l_subs l_starts l_slots u_subs u_starts u_slots row_heads row_links set_heads set_links list spare : List ℕ) where
  -- refusal 6 is the code's test
  pub sizes_fit_lem :
      sizes_fit (lent n height starts columns) (plan_stores l_subs l_starts l_slots u_subs u_starts u_slots) (work_sizes (work_stores row_heads row_links set_heads set_links list spare))
      ≡ lengths_fit n height (length l_starts) (length l_slots) (length u_starts) (length u_slots) (length row_heads) (length row_links) (length set_heads) (length set_links)
      (length list) (length spare)
  unfolding sizes_fit starts_sized work_fits lent all
  sizes_fit_lem =
      sized_fit n height (length l_starts) (length l_slots) (length u_starts) (length u_slots) (length row_heads) (length row_links) (length set_heads) (length set_links)
      (length list) (length spare)
