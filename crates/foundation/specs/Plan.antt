-- The plan of a pattern: the report's symbolic factorization (CS-84-43, section 2), step by step.
use Rattle.std.specs.Prelude.{Bool, false, cond, not, ◌&&◌, ◌||◌, List, [], ◌∷◌, ℕ, zero, suc, ◌+◌, ◌-◌, ltb, length}
use Rattle.lists.specs.Functions.{keep, update, total, empty}
use Rattle.lists.specs.Sets.{member, join_all, from, least_above}
use Rattle.foundation.specs.Pattern.{Pattern, column}

-- L and U, the sides of a plan.
pub data Side : Type 0 where
  lower upper : Side

-- What planning knows between steps: the met rows, the rows first met at each step done, the sets S, the lists L_k and U_k of the
-- steps done, the reads.
pub record Planning : Type 0 where
  pub met : ℕ → Bool
  pub first_met : ℕ → List ℕ
  pub S : ℕ → List ℕ
  pub L : ℕ → List ℕ
  pub U : ℕ → List ℕ
  pub reads : ℕ

-- L_k or U_k
unfoldable pub list : Planning → Side → ℕ → List ℕ
list s lower k = s.L k
list s upper k = s.U k

-- Report, 1.1 and 1.2: "Set mask(k) = 0 (..) to denote that no rows have been considered yet", "Set S_k = ∅"; document 01: "No row is met at first, all S are empty".
unfoldable pub before_steps : Planning
before_steps =
    record { met = λ i. false; first_met = λ k. []; S = λ k. []; L = λ k. []; U = λ k. []; reads = 0 }

-- Report, 2.2: the unmet rows of C_k.
unfoldable pub unmet_rows : Pattern → Planning → ℕ → List ℕ
unmet_rows p s k = keep (λ i. not (s.met i)) (column p k)

-- Document 01, "Plan": "Each unmet row i of C_k joins L_k, its R_i joins U_k": what a row brings to a side.
unfoldable pub brings : Pattern → Side → ℕ → List ℕ
brings p lower i = i ∷ []
brings p upper i = p.row i

-- Report, 2.4; document 01: "For each l in S_k, the members of L_l and U_l that are k or more join L_k and U_k".
unfoldable pub from_steps : Planning → Side → ℕ → List ℕ → List ℕ
from_steps s side k gathered = join_all (λ l. from k (list s side l)) gathered (s.S k)

-- Report, 2.5; document 01: "If L_k has more than one member, k joins S_r, r being the least member of U_k above k".
-- U_k has no member below k, so this is the report's min{t | t ∈ U_k - {k}}. Document 02, ticket 9: "step k joins no S if U_k has no further member": r is then 0, which is no step.
unfoldable pub hand_on : ℕ → List ℕ → List ℕ → (ℕ → List ℕ) → ℕ → List ℕ
hand_on k lk uk S =
    let r = least_above k uk in
    cond (ltb 1 (length lk) && ltb 0 r) (update S r (k ∷ S r)) S

-- Document 01, "Plan": "Reads is a number in the plan: each C_k once, each R_i once, and L_l and U_l once for each l taken from an S".
-- What step k reads of the pattern in 2.2, and of earlier lists in 2.4: L_l and U_l whole, l itself and what is below k included.
unfoldable pub reads_of_rows : Pattern → Planning → ℕ → ℕ
reads_of_rows p s k = length (column p k) + total (λ i. length (p.row i)) (unmet_rows p s k)

unfoldable pub reads_of_steps : Planning → ℕ → ℕ
reads_of_steps s k = total (λ l. length (s.L l) + length (s.U l)) (s.S k)

-- ---- one step of planning, in the order of the report's 2.1 to 2.5 (document 02, ticket 4)

-- What planning knows inside a step: what it knew between steps, with what this step has changed so far, and beside it L_k and U_k so far, which stand with the lists of the
-- other steps from 2.5 on.
pub record InStep : Type 0 where
  pub known : Planning
  pub Lk : List ℕ
  pub Uk : List ℕ

-- L_k or U_k so far
unfoldable pub so_far : InStep → Side → List ℕ
so_far t lower = t.Lk
so_far t upper = t.Uk

-- Report, 2.1: "Local initialization: Set L_k = ∅ and U_k = ∅."
unfoldable pub initialized : Planning → InStep
initialized s = record { known = s; Lk = []; Uk = [] }

-- Report, 2.2: "Obtain structures of those unprocessed rows: For i ∈ C_k, if mask(i) = 0, then set L_k = L_k ∪ {i} and U_k = U_k ∪ R_i,
-- and set mask(i) = 1". The rows first met and the reads are document 01's.
unfoldable pub rows_obtained : Pattern → ℕ → InStep → InStep
rows_obtained p k t =
    let s = t.known in
    let new = unmet_rows p s k in
    record {
      known =
          record {
            met = λ i. s.met i || member i new;
            first_met = update s.first_met k new;
            S = s.S;
            L = s.L;
            U = s.U;
            reads = s.reads + reads_of_rows p s k;
          };
      Lk = join_all (brings p lower) t.Lk new;
      Uk = join_all (brings p upper) t.Uk new;
    }

-- Report, 2.3: "If S_k = ∅, then go to Step (2.5). (Step k is not influenced by any previous steps.)"
unfoldable pub influenced : ℕ → InStep → Bool
influenced k t = not (empty (t.known.S k))

-- Report, 2.4: "for i ∈ S_k, collect influence caused by step i: L_k = L_k ∪ L_i - {1, .., k-1}, U_k = U_k ∪ U_i - {1, .., k-1}".
-- As in document 01, what is below k is left out of L_i and U_i: L_k and U_k have nothing there.
unfoldable pub steps_collected : ℕ → InStep → InStep
steps_collected k t =
    let s = t.known in
    record {
      known = record { met = s.met; first_met = s.first_met; S = s.S; L = s.L; U = s.U; reads = s.reads + reads_of_steps s k };
      Lk = from_steps s lower k t.Lk;
      Uk = from_steps s upper k t.Uk;
    }

-- Report, 2.5: "Update S: (..) set S_ρ = S_ρ ∪ {k} if |L_k| > 1." L_k and U_k are whole, and stand with those of the earlier steps.
unfoldable pub sets_updated : ℕ → InStep → Planning
sets_updated k t =
    let s = t.known in
    record {
      met = s.met;
      first_met = s.first_met;
      S = hand_on k t.Lk t.Uk s.S;
      L = update s.L k t.Lk;
      U = update s.U k t.Uk;
      reads = s.reads;
    }

-- 2.3, and 2.4 if it is not passed over
unfoldable pub collected_if_influenced : ℕ → InStep → InStep
collected_if_influenced k t = cond (influenced k t) (steps_collected k t) t

-- one step of planning: 2.1 to 2.5
unfoldable pub turn : Pattern → ℕ → Planning → Planning
turn p k s = sets_updated k (collected_if_influenced k (rows_obtained p k (initialized s)))

-- Document 01, "Plan": "For k = 1 to n": planning after its first k steps.
unfoldable pub after : Pattern → ℕ → Planning
after p zero = before_steps
after p (suc k) = turn p (suc k) (after p k)

-- Planning inside step k, 1 to n: after 2.1, after 2.2, after 2.3, which only decides where to go on, and after 2.4 or where it was passed over. After
-- 2.5 it is `after p k`.
unfoldable pub after_initialization : Pattern → ℕ → InStep
after_initialization p k = initialized (after p (k - 1))

unfoldable pub after_rows : Pattern → ℕ → InStep
after_rows p k = rows_obtained p k (after_initialization p k)

unfoldable pub after_test : Pattern → ℕ → InStep
after_test p k = after_rows p k

unfoldable pub after_steps : Pattern → ℕ → InStep
after_steps p k = collected_if_influenced k (after_test p k)

-- Document 01, "Plan": L_k, U_k, the sets S and the reads after all n steps.
unfoldable pub plan : Pattern → Planning
plan p = after p p.n
