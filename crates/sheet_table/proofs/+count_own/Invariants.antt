-- The measure is the number of slots that are left.
use Rattle.sheet_table.proofs.+count_own.Given as goal

abbrev pub decreases-count_own : goal.decreases-count_own
decreases-count_own l = l.n
