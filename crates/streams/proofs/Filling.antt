-- One more value read behind those that were read.
use Rattle.std.proofs.Common.{◌≡◌, ℕ, ◌+◌, ◌<◌, List, [], ◌∷◌, ◌++◌, length, take, set, sym, subst, ◌∙◌, ap}
use Rattle.std.proofs.lemmas.List.{append-nil, take_more_set}
use Rattle.std.proofs.lemmas.List.Elements.{All-push}
use Rattle.std.proofs.lemmas.List.Folds.{concat-append}
use Rattle.std.proofs.KnownBytes.{Consumes-trans}
use Rattle.std.specs.Prelude.{Option}
use Rattle.std.specs.List.{AllZip, concat}
use Rattle.std.specs.Io.KnownBytes.{Consumes}
use Rattle.streams.specs.Taken.{ReadFrom, FilledFrom}

all_zip_more : {A B : Type 0} (R : A → B → Type 0) (xs : List A) (ys : List B) (x : A) (y : B) → AllZip R xs ys → R x y → AllZip R (xs ++ x ∷ []) (ys ++ y ∷ [])
all_zip_more R [] [] x y h last = (last, tt)
all_zip_more R [] (w ∷ ys) x y h last = absurd h
all_zip_more R (v ∷ xs) [] x y h last = absurd h
all_zip_more R (v ∷ xs) (w ∷ ys) x y h last = (h.0, all_zip_more R xs ys x y h.1 last)

concat-more : (pieces : List (List ℕ)) (piece : List ℕ) → concat (pieces ++ piece ∷ []) ≡ concat pieces ++ piece
concat-more pieces piece = concat-append pieces (piece ∷ []) ∙ ap (λ l. concat pieces ++ l) (append-nil piece)

pub fill_on : {V T : Type 0} (size : ℕ) (made : List ℕ → V) (stands_for : V → T → Type 0) (before between after : Option (List ℕ)) (places : List T) (at : ℕ) (value : V) (place : T) → at < length places → FilledFrom size made stands_for before between (take at places) → ReadFrom size made between after value → stands_for value place → FilledFrom size made stands_for before after (take (at + 1) (set places at place))
fill_on {V} {T} size made stands_for before between after places at value place inside so_far next stands =
    subst (FilledFrom size made stands_for before after) (sym (take_more_set places at place inside)) (record {
      pieces = so_far.pieces ++ next.bytes ∷ [];
      sized = All-push (λ piece. length piece ≡ size) so_far.pieces next.bytes so_far.sized next.sized;
      lost = subst (Consumes before after) (sym (concat-more so_far.pieces next.bytes)) (Consumes-trans before between after (concat so_far.pieces) next.bytes so_far.lost next.lost);
      filled = all_zip_more (λ piece p. stands_for (made piece) p) so_far.pieces (take at places) next.bytes place so_far.filled (subst (λ v. stands_for v place) next.is stands);
    })
