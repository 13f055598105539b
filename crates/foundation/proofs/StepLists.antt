-- Processes that take a list of steps, one after the other: what is so of every one of them, the free elimination and orthogonal steps alike.
use mathlib.Core.List.{List, [], ◌∷◌, ◌++◌}
use mathlib.Core.Logic.{◌⊎◌, inl, inr}
use mathlib.Core.Path.{◌≡◌, sym, ap, ◌∙◌}
use Prim.Native.Nat.{ℕ, zero, suc, ◌+◌, ◌-◌, ◌≤◌}
use native.Mathlib.Omega.{arith}
use lib.ListN.{take, drop}
use lib.Seq.{take-add}

-- `run` takes the steps of a list in their order, each by `step`.
module _ {ℓ κ} {S : Type ℓ} {X : Type κ} (step : S → X → S) (run : S → List X → S)
    (none : (s : S) → run s [] ≡ s) (one : (s : S) (x : X) (xs : List X) → run s (x ∷ xs) ≡ run (step s x) xs) where
  -- What a step keeps, every list of steps keeps.
  pub run_keeps {μ} : (P : S → Type μ) → ((s : S) (x : X) → P s → P (step s x)) → (s : S) (xs : List X) → P s → P (run s xs)
  run_keeps P keeps s [] h = rw none h
  run_keeps P keeps s (x ∷ xs) h = rw one (run_keeps P keeps (step s x) xs (keeps s x h))

  -- The run of a list and what follows it is the run of what follows from where the list came.
  pub run_append : (s : S) (xs later : List X) → run s (xs ++ later) ≡ run (run s xs) later
  run_append s [] later = ap (λ r. run r later) (sym (none s))
  run_append s (x ∷ xs) later = one s x (xs ++ later) ∙ run_append (step s x) xs later ∙ ap (λ r. run r later) (sym (one s x xs))

  -- The first t' steps are the first t and those between.
  pub after-later : (s : S) (xs : List X) (t t' : ℕ) → t ≤ t' → run s (take t' xs) ≡ run (run s (take t xs)) (take (t' - t) (drop t xs))
  after-later s xs t t' h =
      let whole : t + (t' - t) ≡ t' = omega arith in
      ap (λ c. run s (take c xs)) (sym whole) ∙ ap (run s) (take-add t (t' - t) xs) ∙ run_append s (take t xs) (take (t' - t) (drop t xs))

-- Two processes beside each other: each step of the first is no step of the second or one of it, and they stay as `Beside` says.
module _ {ℓ κ ℓ' κ' μ} {S : Type ℓ} {X : Type κ} (step : S → X → S) (run : S → List X → S)
    (none : (s : S) → run s [] ≡ s) (one : (s : S) (x : X) (xs : List X) → run s (x ∷ xs) ≡ run (step s x) xs)
    {S' : Type ℓ'} {X' : Type κ'} (step' : S' → X' → S') (run' : S' → List X' → S')
    (none' : (s : S') → run' s [] ≡ s) (one' : (s : S') (x : X') (xs : List X') → run' s (x ∷ xs) ≡ run' (step' s x) xs)
    (Beside : S → S' → Type μ)
    (each : (s : S) (s' : S') (x : X) → Beside s s' → Beside (step s x) s' ⊎ ((x' : X') × Beside (step s x) (step' s' x'))) where
  -- One list of steps of the second process goes beside a list of the first, all the way.
  abbrev GoesBeside : S → S' → List X → List X' → Type μ
  GoesBeside s s' xs xs' = (t : ℕ) → (t' : ℕ) × Beside (run s (take t xs)) (run' s' (take t' xs'))

  first_beside : (s : S) (s' : S') → Beside s s' → Beside (run s []) (run' s' [])
  first_beside s s' b = rw (none, none') b

  nothing_beside : (s : S) (s' : S') → Beside s s' → GoesBeside s s' [] []
  nothing_beside s s' b zero = (0, first_beside s s' b)
  nothing_beside s s' b (suc t) = (0, first_beside s s' b)

  -- a step of the first that is none of the second, and one that is
  none_more : (s : S) (s' : S') (x : X) (xs : List X) (xs' : List X') → Beside s s' → GoesBeside (step s x) s' xs xs' → GoesBeside s s' (x ∷ xs) xs'
  none_more s s' x xs xs' b later zero = (0, first_beside s s' b)
  none_more s s' x xs xs' b later (suc t) = let (t', beside) = later t in (t', rw one beside)

  one_more :
      (s : S) (s' : S') (x : X) (xs : List X) (x' : X') (xs' : List X') → Beside s s' → GoesBeside (step s x) (step' s' x') xs xs'
      → GoesBeside s s' (x ∷ xs) (x' ∷ xs')
  one_more s s' x xs x' xs' b later zero = (0, first_beside s s' b)
  one_more s s' x xs x' xs' b later (suc t) = let (t', beside) = later t in (suc t', rw (one, one') beside)

  pub run_beside : (s : S) (s' : S') (xs : List X) → Beside s s' → (xs' : List X') × GoesBeside s s' xs xs'
  run_beside s s' [] b = ([], nothing_beside s s' b)
  run_beside s s' (x ∷ xs) b =
      elim (each s s' x b) [
        | inl stayed ↦ let (xs', later) = run_beside (step s x) s' xs stayed in (xs', none_more s s' x xs xs' b later)
        | inr went ↦
            let (xs', later) = run_beside (step s x) (step' s' went.0) xs went.1 in
            (went.0 ∷ xs', one_more s s' x xs went.0 xs' b later)
      ]
