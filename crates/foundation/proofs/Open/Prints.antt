-- What the job prints: `unfolding prints`.
use Rattle.foundation.specs.Printing.{job_room, fitting_work, blank_side, blank_stores, job_lending, job_stores, job_run, digits, decimal, hex_digit, hex_digits, hex_bits, spaced, line_numbers, plan_line, rows_line, solution_line, updates_line, refused_line, report, answer_text, job_text, printed}
use Rattle.foundation.proofs.Open.Runs.{runs}
use Rattle.foundation.proofs.Open.Jobs.{texts, jobs}

unfoldable pub prints : Unit {0}
unfolding runs jobs texts job_room fitting_work blank_side blank_stores job_lending job_stores job_run digits decimal hex_digit hex_digits hex_bits spaced line_numbers plan_line rows_line solution_line updates_line refused_line report answer_text job_text printed
prints = tt
