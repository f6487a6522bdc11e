-- No digit, or the digits before the last and then that; their number falls with each.
-- the number of digits falls
use Rattle.outline.proofs.line.+put_hex.Given as goal

abbrev pub decreases-put_hex : goal.decreases-put_hex
decreases-put_hex l = l.w
