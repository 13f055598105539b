-- Command after command: reading what is left gives the answer of the whole job.
use Rattle.std.proofs.Common.{◌≡◌, ℕ, suc, ◌-◌, ◌≤◌, ◌<◌, List, length, Option, Some, None, Result, Ok, Err, ap, sym, ◌∙◌, arith}
use borrow.Author.Tests.{lt-ltb, le-ltb}
use Rattle.foundation.specs.Answer.{Answer, granted, refuse_if}
use Rattle.foundation.specs.Job.{Reading, Next, more, over, Job, job_of, next, reading, nothing_read, max_job_bytes, read_job}
use Rattle.job_commands.specs.declared.progress.Progress.{Progress}
use Rattle.job_commands.specs.declared.refusal.JobRefusal.{JobRefusal}
use Rattle.job_commands.specs.declared.refusal.JobRefusal.TheVariants.{TooLong}
use Rattle.job_commands.specs.Stores.{JobStores}
use Rattle.job_commands.specs.Progress.{state, next_of}
use Rattle.job_read.specs.declared.sizes.Sizes.{Sizes}
use Rattle.job_read.specs.Read.{job_in, read_of}
use Rattle.job_read.specs.Ending.{BetweenCommands, ending_of}

-- a command after which reading goes on
reading_more : (fuel : ℕ) (r q : Reading) (bytes rest : List ℕ) → more q rest ≡ next r bytes → reading (suc fuel) r bytes ≡ reading fuel q rest
unfolding reading
reading_more fuel r q bytes rest e = ap (λ (x : Next). elim x [ more r' rest' ↦ reading fuel r' rest' | over a ↦ a ]) (sym e)

-- and one after which it is over
reading_over : (fuel : ℕ) (r : Reading) (bytes : List ℕ) (answer : Answer Job) → over answer ≡ next r bytes → reading (suc fuel) r bytes ≡ answer
unfolding reading
reading_over fuel r bytes answer e = ap (λ (x : Next). elim x [ more r' rest' ↦ reading fuel r' rest' | over a ↦ a ]) (sym e)

-- before the first command
pub loop_start : (job : List ℕ) (s : JobStores) (p : Progress) → p.bytes.now ≡ job → state p s ≡ nothing_read → BetweenCommands job s p
loop_start job s p left none =
    record {
      fuel = suc (length job);
      enough = omega (arith, ap length left);
      same = ap (λ (r : Reading). reading (suc (length job)) r p.bytes.now) none ∙ ap (λ (bytes : List ℕ). reading (suc (length job)) nothing_read bytes) left;
    }

-- one turn of the loop, `turn`, leaves the stores as `after`
module _ (job : List ℕ) (s after : JobStores) (p : Progress) (g : BetweenCommands job s p) (turn : Result (Option Progress) JobRefusal)
    (e : next_of turn p after ≡ next (state p s) p.bytes.now) where
  -- there was a turn left for it
  turns : g.fuel ≡ suc (g.fuel - 1)
  turns = omega (arith, g.enough)

  -- reading goes on
  pub loop_more : (q : Progress) → turn ≡ Ok (Some q) → length q.bytes.now < length p.bytes.now → BetweenCommands job after q
  unfolding next_of
  loop_more q was h = record { fuel = g.fuel - 1; enough = omega (arith, g.enough); same = sym (reading_more (g.fuel - 1) _ _ _ _ (rw was at e)) ∙ rw (← turns) g.same }

  -- it is refused
  pub loop_refused : (refusal : JobRefusal) → turn ≡ Err refusal → ending_of (Err refusal) after ≡ reading (suc (length job)) nothing_read job
  unfolding next_of ending_of
  loop_refused refusal was = sym (reading_over (g.fuel - 1) _ _ _ (rw was at e)) ∙ rw (← turns) g.same

  -- Z has ended it
  pub loop_done : turn ≡ Ok None → ending_of (Ok p) after ≡ reading (suc (length job)) nothing_read job
  unfolding next_of ending_of
  loop_done was = sym (reading_over (g.fuel - 1) _ _ _ (rw was at e)) ∙ rw (← turns) g.same

-- ---- the whole job

-- more than 16,384 bytes
pub long_refused : (job : List ℕ) (s : JobStores) → max_job_bytes < length job → read_of (Err TooLong) s ≡ read_job job
unfolding read_of read_job refuse_if
long_refused job s h = rw (lt-ltb max_job_bytes (length job) h)

read_short : (job : List ℕ) → length job ≤ max_job_bytes → reading (suc (length job)) nothing_read job ≡ read_job job
unfolding read_job refuse_if
read_short job h = rw (le-ltb max_job_bytes (length job) h)

-- a refusal of the commands is the job's
pub refused-whole : (job : List ℕ) (s : JobStores) (refusal : JobRefusal) → length job ≤ max_job_bytes
    → ending_of (Err refusal) s ≡ reading (suc (length job)) nothing_read job → read_of (Err refusal) s ≡ read_job job
unfolding ending_of read_of
refused-whole job s refusal h e = e ∙ read_short job h

-- with all rows closed, what the commands have read is the job
pub read_whole : (job : List ℕ) (s : JobStores) (p : Progress) (z : Sizes) → length job ≤ max_job_bytes → p.closed ≡ p.n → z.n ≡ p.n → z.entries ≡ p.entries → z.chosen ≡ p.chosen
    → ending_of (Ok p) s ≡ reading (suc (length job)) nothing_read job → read_of (Ok z) s ≡ read_job job
unfolding ending_of read_of job_in job_of state
read_whole job s p z h all n entries chosen e =
    let same : granted (job_in z s) ≡ granted (job_of (state p s)) = rw (n, entries, chosen, all) in
    same ∙ e ∙ read_short job h
