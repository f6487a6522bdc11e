-- One digit, two, or the digits before the last two and then these; the number falls with each.
-- the number itself falls
use Rattle.decimal.proofs.+put_decimal.Given as goal

abbrev pub decreases-put_decimal : goal.decreases-put_decimal
decreases-put_decimal l = l.n
