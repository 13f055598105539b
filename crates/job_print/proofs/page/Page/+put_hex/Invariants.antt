-- `put_hex` meets its contract. The measure is the number of digits.
use Rattle.job_print.proofs.page.Page.+put_hex.Given as goal

abbrev pub decreases-put_hex : goal.decreases-put_hex
decreases-put_hex l = l.count
