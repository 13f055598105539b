-- How the parts of a run hand over to each other: what loading, a step and back substitution take for granted, and what they leave.
use Rattle.std.specs.Prelude.{true, false, List, map, ◌≡◌, ℕ, suc, ◌+◌, ◌-◌, ◌≤◌, Float, length, get_or, replicate}
use Rattle.lists.specs.Sets.{upto}
use Rattle.foundation.specs.Facts.{Plannable}
use Rattle.foundation.specs.Numbers.{plus_zero, finite}
use Rattle.foundation.specs.Pattern.{Lent, Pattern, pattern_of, starts_fit}
use Rattle.foundation.specs.Plan.{Planning, lower, upper}
use Rattle.foundation.specs.PlanCall.{SideStores, PlanStores}
use Rattle.foundation.specs.Reference.{Choice, largest, listed, Going, going, stopped, notFinite, pivot_row, stepped, sound_with, updates_at, back}
use Rattle.foundation.specs.RunCall.{choice_fits, value_at, right_at}
use Rattle.foundation.specs.Shown.{shown_diagonal}
use Rattle.foundation.specs.Slots.{slots_of, has_slot}
use Rattle.foundation.specs.Square.{exchanged, placed}
use Rattle.run_slots.specs.Index.{Indexed, Grid, Layout}
use Rattle.run_slots.specs.Shows.{Shows, SquareStores, ShowsAll, Stands}
use Rattle.run_slots.specs.declared.StepEnd.{StepEnd}
use Rattle.run_slots.specs.declared.StepEnd.TheVariants.{Went, NoPivot, NotFinite}
use Rattle.run_slots.specs.declared.SolveEnd.{SolveEnd}
use Rattle.run_slots.specs.declared.SolveEnd.TheVariants.{Solved, NotFiniteAt}

-- a store of f64 is +0 throughout
unfoldable pub Clear : List Float → Type 0
Clear store = store ≡ replicate (length store) plus_zero

-- ---- loading

-- The pattern was judged, its plan's index stores are lent, and the four stores are +0 throughout and long enough.
pub record LoadAsks (p : Lent) (values right : List Float) (q : PlanStores) (z : SquareStores) : Type 0 where
  pub s : Planning
  pub plannable : Plannable (pattern_of p)
  pub starts_fitting : starts_fit p ≡ true
  pub layout : Layout (pattern_of p) s p.n q
  pub values_size : length values ≡ length p.columns
  pub right_size : length right ≡ p.height
  pub l_size : slots_of s lower p.n ≤ length z.lower_slots
  pub u_size : slots_of s upper p.n ≤ length z.upper_slots
  pub d_size : length z.diagonal ≡ p.n
  pub x_size : length z.right_side ≡ p.height
  pub l_clear : Clear z.lower_slots
  pub u_clear : Clear z.upper_slots

-- The stores show the square before the first step.
abbrev pub LoadLeaves : (p : Lent) (values right : List Float) (q : PlanStores) (z z' : SquareStores) → LoadAsks p values right q z → Type 0
LoadLeaves p values right q z z' w = ShowsAll w.s p.n p.height (placed (pattern_of p) plus_zero (value_at p values)) (right_at right) z'

-- ---- a step

-- The row that a choice names for step k; 0 where the largest entry decides.
unfoldable pub asked : Choice → ℕ → ℕ
asked largest k = 0
asked (listed rows) k = get_or rows (k - 1) 0

-- The run stands before step k, and the two work stores have a place for each row and one more, the second +0 throughout.
pub record StepAsks (k row : ℕ) (q : PlanStores) (z : SquareStores) (copy dense : List Float) : Type 0 where
  pub p : Pattern
  pub s : Planning
  pub n : ℕ
  pub choice : Choice
  pub g : Going
  pub layout : Layout p s n q
  pub low : 1 ≤ k
  pub high : k ≤ n
  pub fits : choice_fits p choice ≡ true
  pub row_is : row ≡ asked choice k
  pub stands : Stands p s n k g z
  pub copy_size : length copy ≡ p.height
  pub dense_size : length dense ≡ p.height + 1
  pub clear : Clear dense

-- A step that went: its pivot row is the reference's, all of it was finite, and the run stands before the next step. A step that did not: the
-- reference finds no pivot row, or something that is not finite.
abbrev pub StepLeaves : StepEnd → (k row : ℕ) (q : PlanStores) (z : SquareStores) (copy dense : List Float) (z' : SquareStores)
    → StepAsks k row q z copy dense → Type 0
StepLeaves (Went r updates) k row q z copy dense z' w =
    (1 ≤ r)
    × (pivot_row w.choice w.p.height k (λ i. w.g.square i k) ≡ r)
    × (sound_with w.p.height w.n k r w.g ≡ true)
    × (updates ≡ updates_at w.p.height w.n k (exchanged k r w.g.square))
    × (updates ≤ 2097152)
    × Stands w.p w.s w.n (suc k) (stepped w.p.height w.n k r w.g) z'
StepLeaves NoPivot k row q z copy dense z' w =
    pivot_row w.choice w.p.height k (λ i. w.g.square i k) ≡ 0
StepLeaves NotFinite k row q z copy dense z' w =
    (r : ℕ) × (pivot_row w.choice w.p.height k (λ i. w.g.square i k) ≡ suc r) × (sound_with w.p.height w.n k (suc r) w.g ≡ false)

-- ---- back substitution

-- U and the diagonal show a square of n rows that is finite and holds +0 outside the slots; x has the right side.
pub record SolveAsks (n : ℕ) (i : SideStores) (u d x : List Float) : Type 0 where
  pub s : Planning
  pub g : Going
  pub some : 1 ≤ n
  pub few : n ≤ 1024
  pub index : Indexed s upper n i
  pub grid : Grid s n n
  pub uppers : Shows s upper n g.square u
  pub diagonal : d ≡ shown_diagonal n g.square
  pub rights : x ≡ map g.right (upto n)
  pub outside : (a b : ℕ) → has_slot s a b ≡ false → g.square a b ≡ plus_zero
  pub sound : (a b : ℕ) → finite (g.square a b) ≡ true

-- x has the solution, or 14 at its row.
abbrev pub SolveLeaves : SolveEnd → (n : ℕ) (i : SideStores) (u d x x' : List Float) → SolveAsks n i u d x → Type 0
SolveLeaves Solved n i u d x x' w = (h : Going) × (back n n w.g ≡ going h) × (x' ≡ map h.right (upto n))
SolveLeaves (NotFiniteAt row) n i u d x x' w = back n n w.g ≡ stopped notFinite row
