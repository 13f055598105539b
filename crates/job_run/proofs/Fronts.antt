-- The work stores of a job: the fronts of arrays, as far as n asks.
use mathlib.Core.Bool.{true}
use mathlib.Core.List.{List, [], ◌∷◌, ◌++◌}
use mathlib.Core.Path.{◌≡◌, refl, sym}
use Prim.Native.Nat.{ℕ, suc, ◌+◌, ◌-◌, ◌≤◌}
use native.Mathlib.Nat.{sub-zero}
use native.Mathlib.Omega.{arith}
use lib.Dec.{eqb}
use lib.Ieee.{Float}
use lib.ListN.{length, take, replicate, length-replicate}
use lib.Seq.{length-take-le}
use borrow.Author.Tests.{eq-eqb}
use Rattle.lists.specs.Functions.{all}
use Rattle.lists.proofs.Members.{and_left, and_right, and_both}
use Rattle.foundation.specs.Pattern.{Lent}
use Rattle.foundation.specs.PlanCall.{work_fits}
use Rattle.foundation.specs.Printing.{fitting_work}
use Rattle.foundation.specs.Job.{max_job_n}
use Rattle.job_sizes.specs.Sizes.{more_than_n}
use Rattle.answers.specs.Stores.{WorkStores, work_stores, work_sizes}
use Rattle.elimination.specs.Calls.{RunWork, run_work_sizes}

-- the front of an array, as far as n asks
module _ {A : Type 0} where
  abbrev pub front : A → ℕ → ℕ → List A
  front blank m room = take (m - 0) (replicate room blank)

  pub front_length : (blank : A) (m room : ℕ) → m ≤ room → length (front blank m room) ≡ m
  front_length blank m room h =
      let k : m ≤ length (replicate room blank) = simp length-replicate h in
      rw (sub-zero m) (length-take-le m (replicate room blank) k)

-- planning's work stores fit
plan-fits : (p : Lent) (work : WorkStores) → length work.list ≡ p.height → length work.spare ≡ p.height → length work.row_heads ≡ p.height + 1
    → length work.row_links ≡ p.height + 1 → length work.set_heads ≡ p.height + 1 → length work.set_links ≡ p.height + 1 → work_fits p (work_sizes work) ≡ true
unfolding work_fits all
plan-fits p work a b c d e f =
    rw (
      eq-eqb p.height (length work.list) (sym a),
      eq-eqb p.height (length work.spare) (sym b),
      eq-eqb (suc p.height) (length work.row_heads) (omega arith),
      eq-eqb (suc p.height) (length work.row_links) (omega arith),
      eq-eqb (suc p.height) (length work.set_heads) (omega arith),
      eq-eqb (suc p.height) (length work.set_links) (omega arith),
    )

-- and two more for a run
more_fit : (p : Lent) (of_each of_more : List ℕ) (copy dense : ℕ) → all (eqb p.height) of_each ≡ true → all (eqb (suc p.height)) of_more ≡ true → copy ≡ p.height → dense ≡ p.height + 1
    → work_fits p (record { of_height = of_each ++ (copy ∷ []); of_height_plus_one = of_more ++ (dense ∷ []); of_entries = [] }) ≡ true
unfolding work_fits all
more_fit p of_each of_more copy dense a b c d =
    rw (all_more p.height of_each copy a (eq-eqb p.height copy (sym c)), all_more (suc p.height) of_more dense b (eq-eqb (suc p.height) dense (omega arith)))
  where
    all_more : (n : ℕ) (xs : List ℕ) (x : ℕ) → all (eqb n) xs ≡ true → eqb n x ≡ true → all (eqb n) (xs ++ (x ∷ [])) ≡ true
    all_more n [] x a b = rw b
    all_more n (y ∷ ys) x a b = and_both (eqb n y) (all (eqb n) (ys ++ (x ∷ []))) (and_left (eqb n y) (all (eqb n) ys) a) (all_more n ys x (and_right (eqb n y) (all (eqb n) ys) a) b)

-- the work stores of a job's plan, and of its run
abbrev pub fronts : ℕ → WorkStores
fronts n =
    let more : List ℕ = front 0 (n + 1) more_than_n in
    let same : List ℕ = front 0 n max_job_n in
    work_stores more more more more same same

pub fronts_fit : (p : Lent) → p.height ≤ max_job_n → work_fits p (work_sizes (fronts p.height)) ≡ true
fronts_fit p h =
    let more = front_length {A = ℕ} 0 (p.height + 1) more_than_n (omega arith) in
    let same = front_length {A = ℕ} 0 p.height max_job_n h in
    plan-fits p (fronts p.height) same same more more more more

abbrev pub run_fronts : Float → ℕ → RunWork
run_fronts blank n = record { planning = fronts n; copy = front blank n max_job_n; dense = front blank (n + 1) more_than_n }

pub run_fronts_fit : (p : Lent) (blank : Float) → p.height ≤ max_job_n → work_fits p (run_work_sizes (run_fronts blank p.height)) ≡ true
unfolding work_fits
run_fronts_fit p blank h =
    let w = work_sizes (fronts p.height) in
    let fit : work_fits p w ≡ true = fronts_fit p h in
    let a : all (eqb p.height) w.of_height ≡ true = and_left (all (eqb p.height) w.of_height) _ fit in
    let b : all (eqb (suc p.height)) w.of_height_plus_one ≡ true = and_left (all (eqb (suc p.height)) w.of_height_plus_one) _ (and_right (all (eqb p.height) w.of_height) _ fit) in
    more_fit p w.of_height w.of_height_plus_one (length (front blank p.height max_job_n)) (length (front blank (p.height + 1) more_than_n)) a b (front_length blank p.height max_job_n h) (front_length blank (p.height + 1) more_than_n (omega arith))

-- no work stores fit too
pub fitting-fits : (p : Lent) → work_fits p fitting_work ≡ true
unfolding work_fits fitting_work all
fitting-fits p = refl
