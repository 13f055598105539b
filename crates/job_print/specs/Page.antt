-- A text written behind the one that a page has.
use Rattle.std.specs.Prelude.{◌≡◌, ◌≤◌, List, ℕ, ◌+◌, length}
use Rattle.job_print.specs.Appended.{Appended}
use Rattle.job_print.specs.declared.page.Page.{Page}

-- so many bytes can still be written
abbrev pub HasRoom : Page → ℕ → Type 0
HasRoom page count = page.end + count ≤ length page.bytes.now

-- the page has this text behind what it had, in the same store
pub record Wrote (old new : Page) (text : List ℕ) : Type 0 where
  pub same_store : new.bytes.ghost_name ≡ old.bytes.ghost_name
  pub appended : Appended old.bytes.now old.end text new.bytes.now new.end
