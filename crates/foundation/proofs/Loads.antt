-- What a call for a test load leaves in the four stores.
use mathlib.Core.Path.{◌≡◌, sym, ap, ◌∙◌}
use Prim.Native.Nat.{ℕ, ◌+◌, ◌-◌, ◌<◌}
use native.Mathlib.Omega.{arith}
use lib.ListN.{length, get_or, take, drop, replicate, get_or-append}
use Rattle.lists.specs.Functions.{padded, all}
use Rattle.lists.proofs.Members.{and_both}
use Rattle.lists.proofs.Laying.{padded-drop, full-store}
use Rattle.lists.proofs.Places.{padded-take}
use Rattle.foundation.specs.Answer.{refused, result_store}
use Rattle.foundation.specs.Numbers.{plus_zero, finite}
use Rattle.foundation.specs.RunCall.{all_finite}
use Rattle.foundation.specs.Load.{Load, load_of}
use Rattle.foundation.specs.LoadCall.{LoadSizes, loaded, load_answer, zero_stores, load_leaves}
use Rattle.foundation.specs.Claims.Loads.{RefusedLoads, LoadsStand, pattern_left, LoadsPass, LoadsFinite, SmallWholes}
use Rattle.foundation.proofs.Stores.{refused_of}
use Rattle.foundation.proofs.LoadRows.{load_as_many, right_many, starts-many}
use Rattle.foundation.proofs.LoadPattern.{passes}
use Rattle.foundation.proofs.LoadValues.{small-values, small_right, all_finite_lem}
use Rattle.foundation.proofs.LoadAnswers.{Granted, granted-load}

-- ---- after a refusal

pub leaves_zeros : (seed n d : ℕ) (w : LoadSizes) {number step : ℕ} → loaded seed n d w ≡ refused number step → load_leaves seed n d w ≡ zero_stores w
unfolding load_leaves result_store
leaves_zeros seed n d w e = rw e

pub refused-loads : RefusedLoads
unfolding RefusedLoads load_answer
refused-loads seed n d w number step e = leaves_zeros seed n d w (refused_of (λ (l : Load). length l.columns) (loaded seed n d w) number step e)

-- ---- after a load is granted

module _ {seed n d : ℕ} {w : LoadSizes} {count : ℕ} (g : Granted seed n d w count) where
  abbrev load : Load
  load = load_of seed n d

  -- each store by the number of its places
  pub starts_stand : (load_leaves seed n d w).starts ≡ load.starts
  unfolding load_leaves result_store load_of
  starts_stand = rw (g.is_load, g.passed_tests.sizes) (full-store 0 (n + 1) load.starts (starts-many seed n d n))

  pub right_stand : (load_leaves seed n d w).right ≡ load.right
  unfolding load_leaves result_store load_of
  right_stand = rw (g.is_load, g.passed_tests.sizes) (full-store plus_zero n load.right (right_many seed n d n))

  columns_stand : (load_leaves seed n d w).columns ≡ padded 0 16384 load.columns
  unfolding load_leaves result_store
  columns_stand = rw (g.is_load, g.passed_tests.sizes)

  values_stand : (load_leaves seed n d w).values ≡ padded plus_zero 16384 load.values
  unfolding load_leaves result_store
  values_stand = rw (g.is_load, g.passed_tests.sizes)

  pub values-many : count ≡ length load.values
  unfolding load_of
  values-many = g.count_is ∙ sym (load_as_many seed n d n)

  -- the entries, and what stands behind them
  pub columns-front : take count (load_leaves seed n d w).columns ≡ load.columns
  columns-front = rw (columns_stand, g.count_is) (padded-take 0 16384 load.columns)

  values-front : take count (load_leaves seed n d w).values ≡ load.values
  values-front = rw (values_stand, values-many) (padded-take plus_zero 16384 load.values)

  columns-beyond : drop count (load_leaves seed n d w).columns ≡ replicate (16384 - count) 0
  columns-beyond = rw (columns_stand, g.count_is) (padded-drop 0 16384 load.columns)

  values-beyond : drop count (load_leaves seed n d w).values ≡ replicate (16384 - count) plus_zero
  values-beyond = rw (values_stand, values-many) (padded-drop plus_zero 16384 load.values)

  pub value_at_lem : (k : ℕ) → k < count → get_or (load_leaves seed n d w).values k plus_zero ≡ get_or load.values k plus_zero
  unfolding padded
  value_at_lem k h =
      rw values_stand
      (get_or-append load.values (replicate (16384 - length load.values) plus_zero) plus_zero k (omega (arith, values-many)))

pub loads_stand : LoadsStand
unfolding LoadsStand
loads_stand seed n d w count e =
    let g = granted-load seed n d w count e in
    (starts_stand g, right_stand g, columns-front g, values-front g, columns-beyond g, values-beyond g)

pub loads_pass : LoadsPass
unfolding LoadsPass pattern_left load_of
loads_pass seed n d w count most e fits =
    let g = granted-load seed n d w count e in
    let p = g.passed_tests in
    rw (starts_stand g, columns-front g)
    (passes seed n d most p.inside.0 p.inside.1 fits g.few)

pub loads-finite : LoadsFinite
unfolding LoadsFinite load_of all_finite
loads-finite seed n d w count e =
    let g = granted-load seed n d w count e in
    let l = load_of seed n d in (
      ap length (columns-front g) ∙ sym g.count_is,
      ap length (values-front g) ∙ sym (values-many g),
      ap length (right_stand g) ∙ right_many seed n d n,
      λ lending v r.
          rw (v ∙ values-front g, r ∙ right_stand g)
          (and_both (all finite l.values) (all finite l.right) (all_finite_lem l.values (small-values seed n d n)) (all_finite_lem l.right (small_right seed n d n))),
    )

pub small_wholes : SmallWholes
unfolding SmallWholes load_of
small_wholes seed n d w count e =
    let g = granted-load seed n d w count e in (
      λ k h. rw (value_at_lem g k h) (small-values seed n d n k (omega (arith, values-many g))),
      λ k h. rw (right_stand g) (small_right seed n d n k (omega (arith, right_many seed n d n))),
    )
