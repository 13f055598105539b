-- The theorems that a release rests on, in one place: most of every pattern that passes 1 to 5, some of any pattern or plan, those of offsets, of the tally and of test loads of
-- every call, as each says.
use mathlib.Core.Bool.{true, not}
use mathlib.Core.List.{[]}
use mathlib.Core.Path.{◌≡◌, ap}
use Prim.Native.Nat.{ℕ, ◌+◌, ◌*◌, ◌≤◌}
use native.Mathlib.Omega.{arith}
use lib.Dec.{eqb}
use lib.ListN.{length}
use Rattle.lists.specs.Functions.{keep}
use Rattle.foundation.specs.Pattern.{Lent, Pattern, pattern_of, pattern_fault}
use Rattle.foundation.specs.Plan.{Side, plan}
use Rattle.foundation.specs.Subscripts.{kept}
use Rattle.foundation.specs.RunCall.{Lending, all_finite, value_at, right_at}
use Rattle.foundation.specs.Facts.{PlanFacts, Opens, sizes_of}
use Rattle.foundation.specs.Claims.{FirstHalf, RunsOn, SlotsSuffice, MultipliersStay, ZeroOutside, LaidBack, OwnSlots, SlotsWithin, MetOnce, JobRoom, RunsAlike, ListedPivots, PivotsCounted, PlanAccepted, RoomEnough, SlotsEnough, PlannedRunsAlike, LargestRow, ListedRow, StoresOpen, FiniteGiven, FiniteThroughout, LargestAtEveryStep, PivotsReach, ListedStops, LegalLists, AnswerRoom}
use Rattle.foundation.specs.Claims.Offsets.{ReadsTexts, OtherTexts, WithinHalf, OnlyNearest, BeyondLargest, FloatEqual, ZeroWithPlus, WrittenReads, ReadWrites}
use Rattle.foundation.specs.Claims.Tallies.{CountersAreSums, SixteenCounters, OutsideMembers, FullCounters, OtherLengths, NewSums, OwnCounterAlone, RefusalKeeps}
use Rattle.foundation.specs.Claims.Loads.{LoadLimits, NoDivisors, OtherSizes, EntriesAnswered, RefusedLoads, LoadsStand, LoadsPass, LoadsFinite, SmallWholes, PlacesDrawn, ValuesDrawn, RightSidesDrawn, WholeSquares}
use Rattle.foundation.specs.Claims.PlanParts.{LocalInitialization, RowsObtained, StepsTested, InfluenceCollected, SetsUpdated, ReadsOfParts}
use Rattle.foundation.specs.Claims.Orthogonal.{OrthogonalSuffices, TakenAsSaid, LeftAsSaid, OrthogonalRunsOn, GaussianSteps}
use Rattle.foundation.proofs.Passing.{passes_plannable, passes_entries}
use Rattle.foundation.proofs.Steps.{list_none}
use Rattle.foundation.proofs.PlanFacts.{plan_facts}
use Rattle.foundation.proofs.Opening.{opens}
use Rattle.foundation.proofs.FreeSteps
use Rattle.foundation.proofs.FreeSteps.{slots_suffice_from}
use Rattle.foundation.proofs.FreeLists
use Rattle.foundation.proofs.FreeLists.{first_half_from}
use Rattle.foundation.proofs.OrthogonalSteps
use Rattle.foundation.proofs.Orthogonal
use Rattle.foundation.proofs.Orthogonal.{orthogonal_suffices-from}
use Rattle.foundation.proofs.Gaussian
use Rattle.foundation.proofs.FloatRun.{zero-outside-from}
use Rattle.foundation.proofs.LaidBack.{laid-back-from}
use Rattle.foundation.proofs.OwnSlots
use Rattle.foundation.proofs.MetOnce.{met-once-from}
use Rattle.foundation.proofs.JobRoom
use Rattle.foundation.proofs.AnswerRoom
use Rattle.foundation.proofs.Alike
use Rattle.foundation.proofs.Alike.{runs_alike_from}
use Rattle.foundation.proofs.Accepted
use Rattle.foundation.proofs.Enough.{room-enough-from, slots-enough-from}
use Rattle.foundation.proofs.PlannedRun.{planned_runs_alike_from}
use Rattle.foundation.proofs.LargestRow
use Rattle.foundation.proofs.StoresOpen.{stores_open_from}
use Rattle.foundation.proofs.FiniteRun
use Rattle.foundation.proofs.LargestSteps
use Rattle.foundation.proofs.PivotSteps
use Rattle.foundation.proofs.OffsetTexts
use Rattle.foundation.proofs.Offsets
use Rattle.foundation.proofs.TallyAnswers
use Rattle.foundation.proofs.TallySums
use Rattle.foundation.proofs.LoadAnswers
use Rattle.foundation.proofs.Loads
use Rattle.foundation.proofs.LoadNumbers
use Rattle.foundation.proofs.PlanParts

-- the plan's facts
pub plan-has_its_facts : (most : ℕ) (p : Lent) → pattern_fault most p ≡ 0 → PlanFacts (pattern_of p) (plan (pattern_of p))
plan-has_its_facts most p passes = plan_facts (pattern_of p) (passes_plannable most p passes)

-- planning reads at most twice the lent columns and the sizes of all lists
pub reads_within :
    (most : ℕ) (p : Lent) → pattern_fault most p ≡ 0
    → (plan (pattern_of p)).reads ≤ 2 * length p.columns + sizes_of (pattern_of p) (plan (pattern_of p))
reads_within most p passes = omega (arith, (plan-has_its_facts most p passes).reads_bounded, passes_entries most p passes)

-- before the first step nothing is kept
pub nothing_kept : (p : Pattern) (side : Side) → kept (plan p) side 0 ≡ []
unfolding kept keep plan
nothing_kept p side = ap (keep (λ x. not (eqb x 0))) (list_none p p.n side)

-- shared subscripts open to the plan's kept lists, on either side
pub subscripts_open : (most : ℕ) (p : Lent) → pattern_fault most p ≡ 0 → (side : Side) → Opens (plan (pattern_of p)) side p.n
unfolding pattern_of
subscripts_open most p passes side =
    opens (plan (pattern_of p)) side p.n ((plan-has_its_facts most p passes).sole side) (nothing_kept (pattern_of p) side)

-- each nonzero of a free elimination stands in a slot
pub slots_suffice : SlotsSuffice
slots_suffice = slots_suffice_from plan_facts passes_plannable

-- demand 3, first half: one claim about the whole list of steps
pub first_half : FirstHalf
first_half = first_half_from slots_suffice

-- a free elimination goes on from where it came
pub runs_on : RunsOn
runs_on = FreeLists.runs_on

-- earlier multipliers stay where they were written, from any state
pub multipliers_stay : MultipliersStay
multipliers_stay = FreeSteps.multipliers_stay

-- orthogonal steps stay within the plan, and what they wrote stays
pub orthogonal_suffices : OrthogonalSuffices
orthogonal_suffices = orthogonal_suffices-from plan_facts passes_plannable

-- which of them are taken, what each leaves, and that each goes on from the one before
pub taken_as_said : TakenAsSaid
taken_as_said = OrthogonalSteps.taken_as_said

pub left_as_said : LeftAsSaid
left_as_said = OrthogonalSteps.left_as_said

pub orthogonal_runs_on : OrthogonalRunsOn
orthogonal_runs_on = Orthogonal.runs_on

-- Gaussian steps are among them
pub gaussian_steps : GaussianSteps
gaussian_steps = Gaussian.gaussian_steps

-- the reference holds +0 at every place without a slot
pub zero-outside : ZeroOutside
zero-outside = zero-outside-from plan_facts passes_plannable

-- the square is determined by its slots
pub laid-back : LaidBack
laid-back = laid-back-from plan_facts passes_plannable

-- each place of the square that has a slot has one of its own
pub own-slots : OwnSlots
own-slots = OwnSlots.own-slots

-- and it lies within the planned slots
pub slots-within : SlotsWithin
slots-within = OwnSlots.slots-within

-- each row is met exactly once
pub met-once : MetOnce
met-once = met-once-from plan_facts passes_plannable

-- what the lists, the met rows and the sets S hold after each of the report's 2.1 to 2.5, at every step
pub local_initialization : LocalInitialization
local_initialization = PlanParts.local_initialization

pub rows_obtained_lem : RowsObtained
rows_obtained_lem = PlanParts.rows_obtained_lem

pub steps-tested : StepsTested
steps-tested = PlanParts.steps-tested

pub influence_collected : InfluenceCollected
influence_collected = PlanParts.influence_collected

pub sets_updated_lem : SetsUpdated
sets_updated_lem = PlanParts.sets_updated_lem

-- and what each of them reads
pub reads_of_parts : ReadsOfParts
reads_of_parts = PlanParts.reads_of_parts

-- the program's stores fit but for their room of 2,048
pub job_room_lem : JobRoom
job_room_lem = JobRoom.job_room_lem

-- 8,192 bytes are room for every answer
pub answer-room : AnswerRoom
answer-room = AnswerRoom.answer-room

-- demand 3, second half
pub runs_alike : RunsAlike
runs_alike = runs_alike_from plan_facts passes_plannable

-- with a given list the pivot rows are the list's
pub listed-pivots : ListedPivots
listed-pivots = Alike.listed-pivots

-- by either choice there are as many pivot rows as steps done
pub pivots-counted : PivotsCounted
pivots-counted = Alike.pivots-counted

-- a plan just made is the pattern's plan
pub plan_accepted : PlanAccepted
plan_accepted = Accepted.plan_accepted

-- n(n-1)/2 subscripts a side, and as many slots, are always enough
pub room-enough : RoomEnough
room-enough = room-enough-from plan_facts passes_plannable

pub slots-enough : SlotsEnough
slots-enough = slots-enough-from plan_facts passes_plannable

-- demand 3, second half, from the pattern to the run
pub planned_runs_alike : PlannedRunsAlike
planned_runs_alike = planned_runs_alike_from room-enough plan_accepted slots-enough runs_alike

-- the row with the largest entry is the lowest of those with the largest magnitude; a list's row is p_k
pub largest_row : LargestRow
largest_row = LargestRow.largest_row

pub listed_row : ListedRow
listed_row = LargestRow.listed_row

-- the stores that planning leaves open to the plan's kept lists
pub stores_open : StoresOpen
stores_open = stores_open_from subscripts_open

-- a run of finite numbers that goes on is finite throughout; what 11 lets pass is finite
pub finite_throughout : FiniteThroughout
finite_throughout = FiniteRun.finite_throughout

pub given-finite : (p : Lent) (w : Lending) → all_finite w ≡ true → FiniteGiven (pattern_of p) (value_at p w.values) (right_at w.right)
given-finite = FiniteRun.given-finite

-- so at every step its pivot row is the lowest of those with the largest magnitude, and 13 is given just where there is none
pub largest_at_every_step : LargestAtEveryStep
largest_at_every_step = LargestSteps.largest_at_every_step

-- the pivots of a run that goes on meet the limit; by a list, 13 is given just where its row does not; a list is legal just where its pivots do
pub pivots_reach : PivotsReach
pivots_reach = PivotSteps.pivots_reach

pub listed_stops : ListedStops
listed_stops = PivotSteps.listed_stops

pub legal_lists : LegalLists
legal_lists = PivotSteps.legal_lists

-- a text reads as a whole number just where it is its text; any other is 28
pub reads_texts : ReadsTexts
reads_texts = OffsetTexts.reads_texts

pub other_texts : OtherTexts
other_texts = OffsetTexts.other_texts

-- what a float goes to is within half a milliarcsecond, even at a half, and nothing else is; 29 is given just where the float is not finite or from the largest and a half on
pub within_half : WithinHalf
within_half = Offsets.within_half

pub only_nearest : OnlyNearest
only_nearest = Offsets.only_nearest

pub beyond-largest : BeyondLargest
beyond-largest = Offsets.beyond-largest

-- the f64 of a whole number is equal to it
pub float_equal : FloatEqual
float_equal = Offsets.float_equal

-- zero is written with plus; what was written reads as it, and what was read is written again
pub zero_with_plus : ZeroWithPlus
zero_with_plus = Offsets.zero_with_plus

pub written_reads : WrittenReads
written_reads = Offsets.written_reads

pub read-writes : ReadWrites
read-writes = Offsets.read-writes

-- after any calls each counter of the tally is the sum of what was given for its member, and there are sixteen, none too large
pub counters_are_sums : CountersAreSums
counters_are_sums = TallySums.counters_are_sums

pub sixteen_counters : SixteenCounters
sixteen_counters = TallySums.sixteen_counters

-- a call on the tally is refused for the store's length, for the member or for that member's counter alone; else it answers the new sum
pub other_lengths : OtherLengths
other_lengths = TallyAnswers.other_lengths

pub outside-members : OutsideMembers
outside-members = TallyAnswers.outside-members

pub full_counters : FullCounters
full_counters = TallyAnswers.full_counters

pub new_sums : NewSums
new_sums = TallyAnswers.new_sums

-- the new sum stands in the member's counter, and the others hold what they held; a refusal keeps all
pub own_counter_alone : OwnCounterAlone
own_counter_alone = TallyAnswers.own_counter_alone

pub refusal_keeps : RefusalKeeps
refusal_keeps = TallyAnswers.refusal_keeps

-- a test load is refused for its limits, for d or for a store's length, each just where it says; else its entries are answered
pub load-limits : LoadLimits
load-limits = LoadAnswers.load-limits

pub no_divisors : NoDivisors
no_divisors = LoadAnswers.no_divisors

pub other_sizes : OtherSizes
other_sizes = LoadAnswers.other_sizes

pub entries-answered : EntriesAnswered
entries-answered = LoadAnswers.entries-answered

-- a refusal leaves zeros; else the stores have the load, and zeros beyond it
pub refused-loads : RefusedLoads
refused-loads = Loads.refused-loads

pub loads_stand : LoadsStand
loads_stand = Loads.loads_stand

-- every load that is granted passes 1 to 5, 10 and 11, and its numbers are small and whole
pub loads_pass : LoadsPass
loads_pass = Loads.loads_pass

pub loads-finite : LoadsFinite
loads-finite = Loads.loads-finite

pub small_wholes : SmallWholes
small_wholes = Loads.small_wholes

-- which draw decides each place, gives each value and each right side; and with a d of 1 it is the whole square
pub places-drawn : PlacesDrawn
places-drawn = LoadNumbers.places-drawn

pub values-drawn : ValuesDrawn
values-drawn = LoadNumbers.values-drawn

pub right_sides_drawn : RightSidesDrawn
right_sides_drawn = LoadNumbers.right_sides_drawn

pub whole_squares : WholeSquares
whole_squares = LoadAnswers.whole_squares
