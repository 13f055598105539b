-- `put_decimal` meets its contract. The measure is the number: what is left of it without its last digit is smaller.
use Rattle.job_print.proofs.page.Page.+put_decimal.Given as goal

abbrev pub decreases-put_decimal : goal.decreases-put_decimal
decreases-put_decimal l = l.n
