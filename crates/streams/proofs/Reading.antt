-- Reading in pieces: what one more read brings stands behind what stood there, and the reader has lost both.
use Rattle.std.proofs.Common.{◌≡◌, ℕ, ◌+◌, ◌≤◌, List, ◌++◌, length, take, sym, ap, ◌∙◌, subst, length-take-le}
use Rattle.std.proofs.lemmas.List.{take-append-le}
use Rattle.std.proofs.Math.Seq.{take-append-add}
use Rattle.std.proofs.KnownBytes.{Consumes-trans}
use Rattle.std.specs.Prelude.{Option}
use Rattle.std.specs.Io.KnownBytes.{Consumes}
use borrow.Rule.Slice.PartMut.{put_mid, post_of}

-- a store whose places from `at` on were lent, up to the first `more` of them
pub take-read : (at room more : ℕ) (store part : List ℕ) → at ≤ length store → more ≤ length part → take (at + more) (put_mid at room store part) ≡ take at store ++ take more part
take-read at room more store part within fits =
    let after = post_of at room store in
    ap (λ n. take (n + more) (take at store ++ (part ++ after))) (sym (length-take-le at store within))
    ∙ take-append-add (take at store) (part ++ after) more
    ∙ ap (λ l. take at store ++ l) (take-append-le more part after fits)

pub read-on : (before between after : Option (List ℕ)) (at room more : ℕ) (store part : List ℕ) → at ≤ length store → more ≤ length part → Consumes before between (take at store) → Consumes between after (take more part) → Consumes before after (take (at + more) (put_mid at room store part))
read-on before between after at room more store part within fits first next =
    subst (Consumes before after) (sym (take-read at room more store part within fits)) (Consumes-trans before between after (take at store) (take more part) first next)
