-- A call from its parts: a verdict that refuses, a load that passes the stores, and one that was laid.
use mathlib.Core.List.{List}
use mathlib.Core.Path.{◌≡◌, refl, sym, ap, ◌∙◌}
use Prim.Native.Nat.{ℕ, ◌≤◌, ◌<◌}
use native.Mathlib.Omega.{arith}
use lib.Dec.{leb}
use lib.Ieee.{Float}
use lib.ListN.{length, replicate}
use borrow.Author.Tests.{leb-true, leb-false}
use Rattle.lists.specs.Functions.{padded}
use Rattle.lists.proofs.Members.{by_test}
use Rattle.foundation.specs.Answer.{refused, granted, result_store}
use Rattle.foundation.specs.Numbers.{plus_zero}
use Rattle.foundation.specs.Load.{Load, load_of}
use Rattle.foundation.specs.LoadCall.{LoadSizes, load_sizes, judged_load, loaded, load_answer, LoadStores, load_stores, load_sizes_of, zero_stores, load_leaves}
use Rattle.foundation.proofs.LoadAnswers.{right_sizes, Passed, passed, refused-before, passes_entries, keeps_entries, answer-refused, answer-granted}
use Rattle.foundation.proofs.Loads.{leaves_zeros}
use Rattle.answers.specs.Loads.{load_answer_of}
use Rattle.answers.specs.declared.LoadAnswer.{LoadAnswer}
use Rattle.answers.specs.declared.LoadAnswer.TheVariants.{Entries, Limits, NoDivisor, Stores}
use Rattle.load_rows.specs.Laid.{LoadIn, LoadLaid, Blank}

-- ---- stores

pub same_sizes : {a b c e a' b' c' e' : ℕ} → a ≡ a' → b ≡ b' → c ≡ c' → e ≡ e' → load_sizes a b c e ≡ load_sizes a' b' c' e'
same_sizes p q r s = rw (p, q, r, s)

pub same_stores : {a a' b b' : List ℕ} {c c' e e' : List Float} → a ≡ a' → b ≡ b' → c ≡ c' → e ≡ e' → load_stores a b c e ≡ load_stores a' b' c' e'
same_stores p q r s = rw (p, q, r, s)

-- stores that were cleared and have the lengths that are asked for
pub blank : {n d : ℕ} (s lent : LoadStores) → Passed n d (load_sizes_of lent) → load_sizes_of s ≡ load_sizes_of lent → s ≡ zero_stores (load_sizes_of lent)
    → Blank (length s.columns) n s.starts s.columns s.values s.right
blank {n = n} s lent p kept e =
    let same : load_sizes_of s ≡ right_sizes n = kept ∙ p.sizes in
    let zeros : s ≡ zero_stores (right_sizes n) = e ∙ ap zero_stores p.sizes in
    let room : length s.columns ≡ 16384 = ap (λ (w : LoadSizes). w.columns) same in
    record {
      starts_blank = ap (λ (q : LoadStores). q.starts) zeros;
      columns_blank = e_columns s zeros room;
      values_blank = e_values s zeros room;
      right_blank = ap (λ (q : LoadStores). q.right) zeros;
    }
  where
    e_columns : (s : LoadStores) → s ≡ zero_stores (right_sizes n) → length s.columns ≡ 16384 → s.columns ≡ replicate (length s.columns) 0
    e_columns s zeros room = ap (λ (q : LoadStores). q.columns) zeros ∙ ap (λ (k : ℕ). replicate k 0) (sym room)

    e_values : (s : LoadStores) → s ≡ zero_stores (right_sizes n) → length s.columns ≡ 16384 → s.values ≡ replicate (length s.columns) plus_zero
    e_values s zeros room = ap (λ (q : LoadStores). q.values) zeros ∙ ap (λ (k : ℕ). replicate k plus_zero) (sym room)

-- ---- the call

module _ (seed n d : ℕ) (w : LoadSizes) where
  -- what is promised of a call
  abbrev Promised : LoadAnswer → LoadStores → Type 0
  Promised a s = (load_answer_of a ≡ load_answer seed n d w) × (s ≡ load_leaves seed n d w)

  refused-call : (a : LoadAnswer) (number : ℕ) {s : LoadStores} → load_answer_of a ≡ refused number 0 → loaded seed n d w ≡ refused number 0 → s ≡ zero_stores w → Promised a s
  refused-call a number is e zeros = (is ∙ sym (answer-refused seed n d w e), zeros ∙ sym (leaves_zeros seed n d w e))

  -- a verdict that is no count
  pub refused_verdict : (a : LoadAnswer) {s : LoadStores} → ((k : ℕ) → a ≡ Entries k → ⊥) → load_answer_of a ≡ judged_load n d w → s ≡ zero_stores w → Promised a s
  unfolding load_answer_of
  refused_verdict (Entries k) other e zeros = absurd (other k refl)
  refused_verdict Limits other e zeros = refused-call Limits 1 refl (refused-before seed n d w 1 (sym e)) zeros
  refused_verdict NoDivisor other e zeros = refused-call NoDivisor 23 refl (refused-before seed n d w 23 (sym e)) zeros
  refused_verdict Stores other e zeros = refused-call Stores 6 refl (refused-before seed n d w 6 (sym e)) zeros

  module _ {none entries room : ℕ} {starts columns : List ℕ} {values right : List Float} (judged : judged_load n d w ≡ granted none) (sized : room ≡ w.columns)
      (laid : LoadLaid (load_of seed n d) entries room n starts columns values right) where
    abbrev load : Load
    load = load_of seed n d

    right_sizes_lem : w ≡ right_sizes n
    right_sizes_lem = (passed n d w none judged).sizes

    places : room ≡ 16384
    places = sized ∙ ap (λ (v : LoadSizes). v.columns) right_sizes_lem

    pub full-call : {s : LoadStores} → 16384 < entries → s ≡ zero_stores w → Promised Limits s
    unfolding load_answer_of
    full-call more zeros =
        by_test (leb (length load.columns) room)
        (λ e. let low : length load.columns ≤ room = leb-true _ _ e in absurd (omega (arith, (laid.fits low).end, places)))
        (λ e. let high : room < length load.columns = leb-false _ _ e in
        refused-call Limits 1 refl (passes_entries seed n d w judged (omega (arith, places))) zeros)

    -- what was laid is what the call leaves
    left : LoadIn load entries room n starts columns values right → loaded seed n d w ≡ granted load → load_stores starts columns values right ≡ load_leaves seed n d w
    unfolding load_leaves result_store
    left inside e =
        rw (e, right_sizes_lem)
        (same_stores inside.starts_are (inside.columns_are ∙ ap (λ (k : ℕ). padded 0 k load.columns) places)
        (inside.values_are ∙ ap (λ (k : ℕ). padded plus_zero k load.values) places) inside.right_are)

    pub granted-call : entries ≤ 16384 → Promised (Entries entries) (load_stores starts columns values right)
    unfolding load_answer_of
    granted-call few =
        by_test (leb (length load.columns) room)
        (λ e. let low : length load.columns ≤ room = leb-true _ _ e in
        let inside = laid.fits low in
        let is = keeps_entries seed n d w judged (omega (arith, places)) in
        (ap granted inside.end ∙ sym (answer-granted seed n d w is), left inside is))
        (λ e. let high : room < length load.columns = leb-false _ _ e in absurd (omega (arith, laid.over high, places)))
