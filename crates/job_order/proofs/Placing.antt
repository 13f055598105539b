-- Which command may stand where.
use Rattle.std.proofs.Common.{◌≡◌, true, false, cond, ◌&&◌, ◌||◌, ℕ, ◌≤◌, ◌<◌, List, [], ◌∷◌, length, take, Option, Some, None, Result, Ok, Err, MatchResult, refl, sym, ◌∙◌, arith, length-take-le}
use mathlib.Core.Bool.{and-true, and-false}
use lib.Dec.{ltb, eqb}
use borrow.Author.Tests.{lt-ltb, le-ltb, eq-eqb, ne_eqb}
use Rattle.lists.proofs.Members.{by_test}
use Rattle.foundation.specs.Job.{Reading, next, cut_short, misplaced, read_n, read_r, read_e, read_b, read_p, read_z, command}
use Rattle.job_commands.specs.declared.progress.Progress.{Progress}
use Rattle.job_commands.specs.declared.refusal.JobRefusal.{JobRefusal}
use Rattle.job_commands.specs.declared.refusal.JobRefusal.TheVariants.{Misplaced, CutShort}
use Rattle.job_commands.specs.Stores.{JobStores}
use Rattle.job_commands.specs.Progress.{state, going_on, ending, next_of}
use Rattle.job_order.specs.Standing.{none_or_all}

-- what a command came to is what the turn came to
pub turn-on : (p : Progress) (s : JobStores) (r : Result Progress JobRefusal) (t : Result (Option Progress) JobRefusal)
    → MatchResult r (λ q. t ≡ Ok (Some q)) (λ e. t ≡ Err e) → next_of t p s ≡ going_on r s
unfolding next_of going_on
turn-on p s (Ok q) t h = rw h
turn-on p s (Err e) t h = rw h

pub turn-over : (p : Progress) (s : JobStores) (r : Result Unit JobRefusal) (t : Result (Option Progress) JobRefusal)
    → MatchResult r (λ q. t ≡ Ok None) (λ e. t ≡ Err e) → next_of t p s ≡ ending r p s
unfolding next_of ending
turn-over p s (Ok q) t h = rw h
turn-over p s (Err e) t h = rw h

-- the command's own byte counts for nothing more
pub turn-behind : (p q : Progress) (s : JobStores) (t : Result (Option Progress) JobRefusal) → state p s ≡ state q s → next_of t p s ≡ next_of t q s
unfolding next_of
turn-behind p q s (Ok (Some x)) e = refl
turn-behind p q s (Ok None) e = rw e
turn-behind p q s (Err x) e = refl

-- no byte is left
pub none_left : (p : Progress) (s : JobStores) (t : Result (Option Progress) JobRefusal) (bytes : List ℕ) → t ≡ Err CutShort → length bytes ≡ 0
    → next_of t p s ≡ next (state p s) bytes
unfolding next_of next cut_short
none_left p s t [] e f = rw e
none_left p s t (b ∷ bytes) e f = absurd (omega arith)

-- a byte and what follows it
pub byte_taken : (r : Reading) (bytes rest : List ℕ) (byte : ℕ) → bytes ≡ byte ∷ rest → command r byte rest ≡ next r bytes
unfolding next
byte_taken r bytes rest byte e = rw e

-- the table of commands, by where reading stands
module _ (r : Reading) (byte : ℕ) (bytes : List ℕ) where
  command-first : r.n ≡ 0 → r.open_row ≡ false → command r byte bytes ≡ cond (eqb byte 0x4E) (read_n r bytes) misplaced
  unfolding command
  command-first e f = rw (e, f) (simp (and-false, and-true))

  command-inside : 0 < r.n → r.open_row ≡ true → command r byte bytes ≡ cond (eqb byte 0x45) (read_e r bytes) (cond (eqb byte 0x42) (read_b r bytes) misplaced)
  unfolding command
  command-inside e f = rw (lt-ltb 0 r.n e, f) (simp (and-false, and-true))

  command-between : 0 < r.n → r.open_row ≡ false → (length r.right ≡ r.n → ⊥) → command r byte bytes ≡ cond (eqb byte 0x52) (read_r r bytes) misplaced
  unfolding command
  command-between e f g = rw (lt-ltb 0 r.n e, f, ne_eqb _ _ g) (simp (and-false, and-true))

  command-after : 0 < r.n → r.open_row ≡ false → length r.right ≡ r.n
      → command r byte bytes
      ≡ cond (eqb byte 0x50 && ltb (length r.rows) r.n) (read_p r bytes) (cond (eqb byte 0x5A && (eqb (length r.rows) 0 || eqb (length r.rows) r.n)) (read_z r bytes) misplaced)
  unfolding command
  command-after e f g = rw (lt-ltb 0 r.n e, f, eq-eqb _ _ g) (simp and-false)

module _ (p : Progress) (s : JobStores) (byte : ℕ) (bytes : List ℕ) where
  -- a byte that names no command, or not here
  abbrev NoCommand : Type 0
  NoCommand = next_of (Err Misplaced) p s ≡ command (state p s) byte bytes

  -- nothing is read yet: N
  module _ (before : p.n ≡ 0) where
    shut : p.opened ≡ false
    shut = by_test p.opened (λ t. let some = p.row_left t in absurd (omega arith)) (λ f. f)

    pub at_n : byte ≡ 0x4E → command (state p s) byte bytes ≡ read_n (state p s) bytes
    unfolding state
    at_n b = command-first (state p s) byte bytes before shut ∙ rw (eq-eqb byte 0x4E b)

    pub first_else : (byte ≡ 0x4E → ⊥) → NoCommand
    unfolding state next_of misplaced
    first_else b = sym (command-first (state p s) byte bytes before shut ∙ rw (ne_eqb byte 0x4E b))

  -- in a row: E and B
  module _ (begun : 0 < p.n) (inside : p.opened ≡ true) where
    pub at_e : byte ≡ 0x45 → command (state p s) byte bytes ≡ read_e (state p s) bytes
    unfolding state
    at_e b = command-inside (state p s) byte bytes begun inside ∙ rw (eq-eqb byte 0x45 b)

    pub at_b : byte ≡ 0x42 → command (state p s) byte bytes ≡ read_b (state p s) bytes
    unfolding state
    at_b b = command-inside (state p s) byte bytes begun inside ∙ rw b

    pub inside_else : (byte ≡ 0x45 → ⊥) → (byte ≡ 0x42 → ⊥) → NoCommand
    unfolding state next_of misplaced
    inside_else n b = sym (command-inside (state p s) byte bytes begun inside ∙ rw (ne_eqb byte 0x45 n, ne_eqb byte 0x42 b))

  -- between rows: R
  module _ (outside : p.opened ≡ false) (left : p.closed < p.n) (room : p.n ≤ length s.right) where
    apart : length (take p.closed s.right) ≡ p.n → ⊥
    apart e = omega (arith, length-take-le p.closed s.right (omega arith))

    pub at_r : byte ≡ 0x52 → command (state p s) byte bytes ≡ read_r (state p s) bytes
    unfolding state
    at_r b = command-between (state p s) byte bytes (omega arith) outside apart ∙ rw (eq-eqb byte 0x52 b)

    pub between_else : (byte ≡ 0x52 → ⊥) → NoCommand
    unfolding state next_of misplaced
    between_else b = sym (command-between (state p s) byte bytes (omega arith) outside apart ∙ rw (ne_eqb byte 0x52 b))

  -- after all rows: P while fewer than n rows are named, Z if none or n are
  module _ (begun : 0 < p.n) (outside : p.opened ≡ false) (all : p.closed ≡ p.n) (room : p.n ≤ length s.right) (room_too : p.n ≤ length s.rows) where
    every : length (take p.closed s.right) ≡ p.n
    every = length-take-le p.closed s.right (omega arith) ∙ all

    picks : length (take p.chosen s.rows) ≡ p.chosen
    picks = length-take-le p.chosen s.rows (omega (arith, p.picked))

    pub at_p : byte ≡ 0x50 → p.chosen < p.n → command (state p s) byte bytes ≡ read_p (state p s) bytes
    unfolding state
    at_p b k = command-after (state p s) byte bytes begun outside every ∙ rw (eq-eqb byte 0x50 b, picks, lt-ltb _ _ k)

    pub p_full : byte ≡ 0x50 → p.n ≤ p.chosen → NoCommand
    unfolding state next_of misplaced
    p_full b k = sym (command-after (state p s) byte bytes begun outside every ∙ rw (b, picks, le-ltb _ _ k))

    pub at_z : byte ≡ 0x5A → none_or_all p ≡ true → command (state p s) byte bytes ≡ read_z (state p s) bytes
    unfolding state
    at_z b k = command-after (state p s) byte bytes begun outside every ∙ rw (b, picks, k)

    pub z_some : byte ≡ 0x5A → none_or_all p ≡ false → NoCommand
    unfolding state next_of misplaced
    z_some b k = sym (command-after (state p s) byte bytes begun outside every ∙ rw (b, picks, k))

    pub after_else : (byte ≡ 0x50 → ⊥) → (byte ≡ 0x5A → ⊥) → NoCommand
    unfolding state next_of misplaced
    after_else n k = sym (command-after (state p s) byte bytes begun outside every ∙ rw (ne_eqb byte 0x50 n, ne_eqb byte 0x5A k))
