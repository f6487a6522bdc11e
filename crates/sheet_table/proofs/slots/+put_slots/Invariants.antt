-- The measure is the number of slots that are left.
use Rattle.sheet_table.proofs.slots.+put_slots.Given as goal

abbrev pub decreases-put_slots : goal.decreases-put_slots
decreases-put_slots l = l.n
