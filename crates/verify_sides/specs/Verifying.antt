-- What comparing the stores of a side of a lent plan with this pattern's plan, at one step, finds.
use Rattle.std.specs.Prelude.{List, ◌≡◌, ℕ, ◌+◌, ◌-◌, length, take, drop, get_or}
use Rattle.foundation.specs.Pattern.{Lent}
use Rattle.foundation.specs.Plan.{Side}
use Rattle.foundation.specs.PlanCall.{SideStores}
use Rattle.plan_gather.specs.Ready.{plan_of}
use Rattle.plan_gather.specs.Contains.{used, Contains}
use Rattle.verify_sides.specs.declared.kept_lists.Verified.{Verified}
use Rattle.verify_sides.specs.declared.kept_lists.Verified.TheVariants.{End, Differs}

-- the rest of a list, its start and the end of its slots stand where they should, and where its subscripts end; or one of them does not
abbrev pub FoundAs : Verified → ℕ → ℕ → List ℕ → SideStores → ℕ → Type 0
FoundAs (End place) k shared rest i end =
    (place.0 ≡ end + length rest)
    × (get_or i.starts (k - 1) 0 ≡ end - shared)
    × (get_or i.slot_starts k 0 ≡ get_or i.slot_starts (k - 1) 0 + (shared + length rest))
    × (take (length rest) (drop end i.subs) ≡ rest)
FoundAs Differs k shared rest i end =
    get_or i.starts (k - 1) 0 ≡ end - shared → get_or i.slot_starts k 0 ≡ get_or i.slot_starts (k - 1) 0 + (shared + length rest)
    → take (length rest) (drop end i.subs) ≡ rest → ⊥

-- the stores contain step k too, and where its subscripts end; or they do not
abbrev pub VerifiedAs : Verified → Lent → Side → ℕ → ℕ → SideStores → Type 0
VerifiedAs (End place) p side n k i = (place.0 ≡ used (plan_of p) side k) × Contains (plan_of p) side n k i
VerifiedAs Differs p side n k i = Contains (plan_of p) side n k i → ⊥
