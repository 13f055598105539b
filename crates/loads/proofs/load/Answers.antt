-- `load` meets its contract: the stores are cleared, the numbers are judged, the rows are laid, and where they pass the stores these are cleared again.
use mathlib.Core.Path.{◌≡◌, sym, ap, ◌∙◌}
use Prim.Native.Nat.{ℕ}
use Rattle.foundation.specs.Answer.{granted}
use Rattle.foundation.specs.LoadCall.{LoadSizes, judged_load, load_stores, load_sizes_of, zero_stores}
use Rattle.foundation.proofs.LoadAnswers.{passed}
use Rattle.answers.specs.Loads.{load_answer_of}
use Rattle.answers.specs.declared.LoadAnswer.{LoadAnswer}
use Rattle.answers.specs.declared.LoadAnswer.TheVariants.{Entries}
use Rattle.loads.proofs.Calls.{same_sizes, blank, refused_verdict, full-call, granted-call}
use Rattle.loads.proofs.load.Goals as goal

-- the judge saw the stores behind `clear_stores`: the lengths stay, so the verdict is on the stores as they were lent (`w`)
module _ (n d : ℕ) (w : LoadSizes) (a : LoadAnswer) {seen : LoadSizes} (kept : seen ≡ w) (said : load_answer_of a ≡ judged_load n d seen) where
  verdict : load_answer_of a ≡ judged_load n d w
  verdict = said ∙ ap (judged_load n d) kept

  -- where it is a count, nothing was refused
  judged : {k : ℕ} → a ≡ Entries k → judged_load n d w ≡ granted k
  unfolding load_answer_of
  judged is = sym verdict ∙ ap load_answer_of is

pub returns-in_default : goal.returns-in_default
returns-in_default c =
    let a = c.args in
    let w = load_sizes_of (load_stores a.starts.now a.columns.now a.values.now a.right.now) in
    let kept = c.clear_stores.auto in
    let sizes = same_sizes kept.starts kept.columns kept.values kept.right in
    refused_verdict a.seed a.n a.d w c.judge-verdict.result c.in_default.not-Entries (verdict a.n a.d w c.judge-verdict.result sizes c.judge-verdict.ensures) c.clear_stores.ensures

pub fill_rows-entries-requires : goal.fill_rows-entries-requires
fill_rows-entries-requires c =
    let a = c.args in
    let lent = load_stores a.starts.now a.columns.now a.values.now a.right.now in
    let w = load_sizes_of lent in
    let kept = c.clear_stores.auto in
    let sizes = same_sizes kept.starts kept.columns kept.values kept.right in
    let p = passed a.n a.d w _ (judged a.n a.d w c.judge-verdict.result sizes c.judge-verdict.ensures c.in-Entries.is) in
    (p.divisor, blank _ lent p sizes c.clear_stores.ensures)

pub returns-then-entries-gt-PLACES : goal.returns-then-entries-gt-PLACES
returns-then-entries-gt-PLACES c =
    let a = c.args in
    let w = load_sizes_of (load_stores a.starts.now a.columns.now a.values.now a.right.now) in
    let kept = c.clear_stores.auto in
    let laid = c.fill_rows-entries.auto in
    let sizes = same_sizes kept.starts kept.columns kept.values kept.right in
    let laid-sizes = same_sizes laid.starts laid.columns laid.values laid.right ∙ sizes in
    full-call a.seed a.n a.d w (judged a.n a.d w c.judge-verdict.result sizes c.judge-verdict.ensures c.in-Entries.is) kept.columns c.fill_rows-entries.ensures c.if-entries-gt-PLACES.true
    (c.clear_stores-then-entries-gt-PLACES.ensures ∙ ap zero_stores laid-sizes)

pub returns : goal.returns
returns c =
    let a = c.args in
    let w = load_sizes_of (load_stores a.starts.now a.columns.now a.values.now a.right.now) in
    let kept = c.clear_stores.auto in
    let sizes = same_sizes kept.starts kept.columns kept.values kept.right in
    granted-call a.seed a.n a.d w (judged a.n a.d w c.judge-verdict.result sizes c.judge-verdict.ensures c.in-Entries.is) kept.columns c.fill_rows-entries.ensures c.if-entries-gt-PLACES.false
