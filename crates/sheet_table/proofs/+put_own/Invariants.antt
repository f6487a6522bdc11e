-- The measure is the number of slots that are left.
use Rattle.sheet_table.proofs.+put_own.Given as goal

abbrev pub decreases-put_own : goal.decreases-put_own
decreases-put_own l = l.n
