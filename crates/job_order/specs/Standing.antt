-- Where reading a job stands.
use Rattle.std.specs.Prelude.{◌≡◌, ◌<◌, Bool, true, false, ◌||◌, eqb}
use Rattle.job_commands.specs.declared.progress.Progress.{Progress}
use Rattle.job_order.specs.declared.Stage.{Stage}
use Rattle.job_order.specs.declared.Stage.TheVariants.{First, InRow, BetweenRows, AfterRows}

-- reading stands there
abbrev pub StandsAt : Stage → Progress → Type 0
StandsAt First p = p.n ≡ 0
StandsAt InRow p = (0 < p.n) × (p.opened ≡ true)
StandsAt BetweenRows p = (p.closed < p.n) × (p.opened ≡ false)
StandsAt AfterRows p = (0 < p.n) × (p.opened ≡ false) × (p.closed ≡ p.n)

-- "P (..): after all rows, none or n of them"
abbrev pub none_or_all : Progress → Bool
none_or_all p = eqb p.chosen 0 || eqb p.chosen p.n
