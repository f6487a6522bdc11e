-- The measure is the number of slots that are left.
use Rattle.sheet_table.proofs.slots.+size.Given as goal

abbrev pub decreases-size : goal.decreases-size
decreases-size l = l.n
