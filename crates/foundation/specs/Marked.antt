-- The cases that document 01 marks M1 to M10, as one table, and others that are small enough to compute. Each row sets what the
-- definitions yield beside what document 01 says.
use Rattle.std.specs.Prelude.{List, [], ◌∷◌, ◌++◌, map, ℕ, zero, suc, ◌/◌, ◌%◌, Float, pos, length}
use Rattle.std.specs.Float.{binary64}
use Rattle.std.specs.Float.Ieee.{of_int, neg}
use Rattle.lists.specs.Sets.{upto}
use Rattle.foundation.specs.Answer.{Answer}
use Rattle.foundation.specs.Pattern.{Lent, lent_square, pattern_of, max_n}
use Rattle.foundation.specs.Plan.{Planning, lower, upper, plan}
use Rattle.foundation.specs.Subscripts.{kept, starts_store}
use Rattle.foundation.specs.Numbers.{bits_of}
use Rattle.foundation.specs.Reference.{Choice, largest, listed, Extent, whole, cut}
use Rattle.foundation.specs.Shown.{shown, shown_diagonal}
use Rattle.foundation.specs.PlanCall.{planned, subscripts}
use Rattle.foundation.specs.RunCall.{Lending, Ran, ran_with}
use Rattle.foundation.specs.Table.{four_fields, told, refusal, grant, Case, case}
use Rattle.foundation.specs.Text.{ascii}
use Rattle.foundation.specs.Printing.{blank_stores, fitting_work}

-- ---- the examples

-- a whole number as f64
float : ℕ → Float
float k = of_int binary64 (pos k)

unfoldable pub four_values : List Float
unfolding float
four_values = map float (2 ∷ 1 ∷ 1 ∷ 1 ∷ 4 ∷ 4 ∷ 2 ∷ 1 ∷ 4 ∷ [])

unfoldable pub four_right : List Float
unfolding float
four_right = map float (3 ∷ 2 ∷ 8 ∷ 7 ∷ [])

-- stores that fit a pattern
unfoldable pub lending : Lent → List Float → List Float → Lending
lending p values right =
    record { values = values; right = right; solution = p.n; pivots = p.n; diagonal = p.n; lower_slots = 8; upper_slots = 8 }

unfoldable pub four_run : Choice → Extent → Answer Ran
four_run choice extent =
    ran_with four_fields choice extent (lending four_fields four_values four_right) (plan (pattern_of four_fields))

-- a pattern of one field, and one of two with all places, run on given values and a right side of ones
unfoldable pub one_run : List Float → Answer Ran
unfolding float
one_run values =
    let p = lent_square 1 (0 ∷ 1 ∷ []) (1 ∷ []) in
    ran_with p largest whole (lending p values (float 1 ∷ [])) (plan (pattern_of p))

unfoldable pub two_run : Extent → List Float → Answer Ran
unfolding float
two_run extent values =
    let p = lent_square 2 (0 ∷ 2 ∷ 4 ∷ []) (1 ∷ 2 ∷ 1 ∷ 2 ∷ []) in
    ran_with p largest extent (lending p values (float 1 ∷ float 1 ∷ [])) (plan (pattern_of p))

-- ---- what a row shows

unfoldable pub show_updates : Ran → List (List ℕ)
show_updates r = (r.end.updates ∷ []) ∷ []

unfoldable pub show_pivots : Ran → List (List ℕ)
show_pivots r = r.end.pivots ∷ []

-- the bits in the L slots, in the U slots, on the diagonal
unfoldable pub show_slots : ℕ → Ran → List (List ℕ)
show_slots n r =
    map bits_of (shown r.plan lower n r.end.square)
    ∷ map bits_of (shown r.plan upper n r.end.square)
    ∷ map bits_of (shown_diagonal n r.end.square)
    ∷ []

unfoldable pub show_upper : ℕ → Ran → List (List ℕ)
show_upper n r = map bits_of (shown r.plan upper n r.end.square) ∷ []

unfoldable pub show_right : ℕ → Ran → List (List ℕ)
show_right n r = map (λ i. bits_of (r.end.right i)) (upto n) ∷ []

-- of a plan that was made, how many subscripts each side has
unfoldable pub show_planned : ℕ → Planning → List (List ℕ)
show_planned n s = (length (subscripts s lower n) ∷ length (subscripts s upper n) ∷ []) ∷ []

-- the bits of the whole numbers given
unfoldable pub bits : List ℕ → List ℕ
unfolding float
bits ks = map (λ k. bits_of (float k)) ks

-- ---- the table

unfoldable pub four_plan : Planning
four_plan = plan (pattern_of four_fields)

-- planning with so much room for subscripts a side
unfoldable pub planned_with : Lent → ℕ → ℕ → Answer Planning
planned_with p room_l room_u = planned max_n p (blank_stores p.n room_l room_u) fitting_work

unfoldable pub marked : List Case
unfolding float
marked =
    -- M1: "U lists are [3], [3,4], [4], []"; "L lists are [3], [4], [4], []"
    case (map (kept four_plan upper) (upto 4) ++ map (kept four_plan lower) (upto 4))
    ((3 ∷ []) ∷ (3 ∷ 4 ∷ []) ∷ (4 ∷ []) ∷ [] ∷ (3 ∷ []) ∷ (4 ∷ []) ∷ (4 ∷ []) ∷ [] ∷ [])
    -- M2: U "store 3,4, starts 0,0,1,2"; L "store 3,4, starts 0,1,1,2"; the same by document 01's rule for t and by ticket 5's
    ∷ case
    (subscripts four_plan upper 4 ∷ starts_store four_plan upper 4 ∷ subscripts four_plan lower 4 ∷ starts_store four_plan lower 4 ∷ [])
    ((3 ∷ 4 ∷ []) ∷ (0 ∷ 0 ∷ 1 ∷ 2 ∷ []) ∷ (3 ∷ 4 ∷ []) ∷ (0 ∷ 1 ∷ 1 ∷ 2 ∷ []) ∷ [])
    -- M3: "reads 31"
    ∷ case ((four_plan.reads ∷ []) ∷ []) ((31 ∷ []) ∷ [])
    -- M4: "rows", those of the listing
    ∷ case (told show_pivots (four_run largest whole)) (grant ((3 ∷ 4 ∷ 3 ∷ 4 ∷ []) ∷ []))
    -- M5: "list 1,2,3,4 gives 2 updates"
    ∷ case (told show_updates (four_run (listed (1 ∷ 2 ∷ 3 ∷ 4 ∷ [])) whole)) (grant ((2 ∷ []) ∷ []))
    -- M6: "list 1,2,4,4 gives 3 and puts 2 in U slot (3,4), zero in the listing's run". U slots are (1,3), (2,3), (2,4), (3,4); L slots (3,1),
    -- (4,2), (4,3): the multipliers of steps 1 and 2 stay where they were written, though step 3 exchanges rows 3 and 4.
    ∷ case
    (told show_updates (four_run (listed (1 ∷ 2 ∷ 4 ∷ 4 ∷ [])) whole)
    ++ told (show_slots 4) (four_run (listed (1 ∷ 2 ∷ 4 ∷ 4 ∷ [])) whole)
    ++ told (show_upper 4) (four_run largest whole))
    (grant ((3 ∷ []) ∷ [])
    ++ grant
    (bits (2 ∷ 2 ∷ 2 ∷ []) ∷ bits (1 ∷ 0 ∷ 1 ∷ 2 ∷ []) ∷ (bits (2 ∷ 1 ∷ 1 ∷ []) ++ (bits_of (neg (float 4)) ∷ [])) ∷ [])
    ++ grant (bits (4 ∷ 1 ∷ 4 ∷ 0 ∷ []) ∷ []))
    -- M7: "list 2,2,3,4 is 13 at step 1"
    ∷ case (told show_updates (four_run (listed (2 ∷ 2 ∷ 3 ∷ 4 ∷ [])) whole)) (refusal 13 1)
    -- M8: "list 1,1,3,4 is 12"
    ∷ case (told show_updates (four_run (listed (1 ∷ 1 ∷ 3 ∷ 4 ∷ [])) whole)) (refusal 12 0)
    -- M9: "n = 1 with value 0 is 13 at step 1"
    ∷ case (told show_updates (one_run (float 0 ∷ []))) (refusal 13 1)
    -- M10: "column entries 2 and -2 choose the upper row"
    ∷ case (told show_pivots (two_run whole (float 2 ∷ float 1 ∷ neg (float 2) ∷ float 1 ∷ []))) (grant ((1 ∷ 2 ∷ []) ∷ []))
    ∷ []

-- a side's store and starts, of the U side
unfoldable pub upper_sharing : Lent → List (List ℕ)
upper_sharing p = subscripts (plan (pattern_of p)) upper p.n ∷ starts_store (plan (pattern_of p)) upper p.n ∷ []

-- Other small cases of document 01.
unfoldable pub also : List Case
unfolding float
also =
    -- "Also: (..) 1,025 is 1"
    case (told (show_planned 4) (planned_with (lent_square 1025 [] []) 2 2)) (refusal 1 0)
    -- "2 subscripts a side suffice for the four fields, 1 for L is 7 at step 2"; and 1 for U is 8 at step 2
    ∷ case (told (show_planned 4) (planned_with four_fields 2 2)) (grant ((2 ∷ 2 ∷ []) ∷ []))
    ∷ case (told (show_planned 4) (planned_with four_fields 1 2)) (refusal 7 2)
    ∷ case (told (show_planned 4) (planned_with four_fields 2 1)) (refusal 8 2)
    -- 5 in row 2 goes before 3 in row 3; 3 before 4 at an entry; 5 only at the row's end
    ∷ case (told (show_planned 3) (planned_with (lent_square 3 (0 ∷ 1 ∷ 2 ∷ 3 ∷ []) (1 ∷ 1 ∷ 4 ∷ [])) 2 2)) (refusal 5 0)
    ∷ case (told (show_planned 2) (planned_with (lent_square 2 (0 ∷ 2 ∷ 3 ∷ []) (1 ∷ 0 ∷ 2 ∷ [])) 2 2)) (refusal 3 0)
    ∷ case (told (show_planned 2) (planned_with (lent_square 2 (0 ∷ 1 ∷ 2 ∷ []) (3 ∷ 2 ∷ [])) 2 2)) (refusal 3 0)
    -- t is found against the whole store's end, "whichever list put them there": step 3 shares with the list of step 1, that of step 2 being empty
    ∷ case (upper_sharing (lent_square 4 (0 ∷ 1 ∷ 2 ∷ 4 ∷ 6 ∷ []) (1 ∷ 2 ∷ 3 ∷ 4 ∷ 1 ∷ 4 ∷ []))) ((4 ∷ []) ∷ (0 ∷ 1 ∷ 0 ∷ 1 ∷ []) ∷ [])
    -- and against nothing else: the list of step 3 lies in the middle, and step 4 shares nothing
    ∷ case (upper_sharing (lent_square 5 (0 ∷ 1 ∷ 3 ∷ 6 ∷ 7 ∷ 9 ∷ []) (1 ∷ 2 ∷ 4 ∷ 1 ∷ 3 ∷ 4 ∷ 4 ∷ 1 ∷ 5 ∷ [])))
    ((3 ∷ 4 ∷ 5 ∷ 4 ∷ 5 ∷ []) ∷ (0 ∷ 3 ∷ 1 ∷ 4 ∷ 5 ∷ []) ∷ [])
    -- a cut to n steps is no whole run: the solution store has the right side, not the solution
    ∷ case (told (show_right 4) (four_run largest (cut 4))) (grant ((bits (8 ∷ 7 ∷ []) ++ map (λ k. bits_of (neg (float k))) (1 ∷ 1 ∷ [])) ∷ []))
    ∷ case (told (show_right 4) (four_run largest whole)) (grant (bits (1 ∷ 1 ∷ 1 ∷ 1 ∷ []) ∷ []))
    -- a run cut to 0 steps shows the values themselves
    ∷ case (told (show_slots 4) (four_run largest (cut 0)))
    (grant (bits (4 ∷ 2 ∷ 1 ∷ []) ∷ bits (1 ∷ 0 ∷ 1 ∷ 0 ∷ []) ∷ bits (2 ∷ 1 ∷ 4 ∷ 4 ∷ []) ∷ []))
    -- "Multiplying by zeros of the square: a place of -0 can turn into +0": place (2,2) keeps its -0 beside a pivot row's -0
    ∷ case (told (show_slots 2) (two_run (cut 1) (float 1 ∷ neg (float 0) ∷ float 1 ∷ neg (float 0) ∷ [])))
    (grant (bits (1 ∷ []) ∷ (bits_of (neg (float 0)) ∷ []) ∷ (bits_of (float 1) ∷ bits_of (neg (float 0)) ∷ []) ∷ []))
    -- a zero entry is no multiplier that updates: place (2,2) keeps its -0 beside a zero entry (2,1) and a pivot row's -1
    ∷ case (told (show_slots 2) (two_run (cut 1) (float 1 ∷ neg (float 1) ∷ float 0 ∷ neg (float 0) ∷ [])))
    (grant (bits (0 ∷ []) ∷ (bits_of (neg (float 1)) ∷ []) ∷ (bits_of (float 1) ∷ bits_of (neg (float 0)) ∷ []) ∷ []))
    -- 12 goes before 13: a cut to 5 of 4 steps
    ∷ case (told show_updates (four_run (listed (2 ∷ 2 ∷ 3 ∷ 4 ∷ [])) (cut 5))) (refusal 12 0)
    ∷ []

-- ---- the job

-- a number in so many little-endian bytes
unfoldable pub bytes : ℕ → ℕ → List ℕ
bytes zero n = []
bytes (suc count) n = (n % 256) ∷ bytes count (n / 256)

-- `R`, row; `E`, column, value; `B`, right side
unfoldable pub entry_bytes : ℕ → ℕ → List ℕ
unfolding float
entry_bytes column value = 0x45 ∷ (bytes 2 column ++ bytes 8 (bits_of (float value)))

unfoldable pub end_bytes : ℕ → List ℕ
unfolding float
end_bytes right = 0x42 ∷ bytes 8 (bits_of (float right))

-- "The job program, reading this job without P on standard input"
unfoldable pub four_job : List ℕ
four_job =
    (0x4E ∷ bytes 2 4)
    ++ (0x52 ∷ bytes 2 1) ++ entry_bytes 1 2 ++ entry_bytes 3 1 ++ end_bytes 3
    ++ (0x52 ∷ bytes 2 2) ++ entry_bytes 2 1 ++ entry_bytes 4 1 ++ end_bytes 2
    ++ (0x52 ∷ bytes 2 3) ++ entry_bytes 1 4 ++ entry_bytes 3 4 ++ end_bytes 8
    ++ (0x52 ∷ bytes 2 4) ++ entry_bytes 2 2 ++ entry_bytes 3 1 ++ entry_bytes 4 4 ++ end_bytes 7
    ++ (0x5A ∷ [])

-- "prints:"
unfoldable pub four_listing : List ℕ
four_listing =
    ascii "plan 4 9 2 2 3 4 31\n"
    ++ ascii "rows 3 4 3 4\n"
    ++ ascii "x 1 3FF0000000000000\n"
    ++ ascii "x 2 3FF0000000000000\n"
    ++ ascii "x 3 3FF0000000000000\n"
    ++ ascii "x 4 3FF0000000000000\n"
    ++ ascii "updates 3\n"
