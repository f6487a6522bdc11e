-- The measure is the number of slots that are left.
use Rattle.sheet_table.proofs.form.+all_meet.Given as goal

abbrev pub decreases-all_meet : goal.decreases-all_meet
decreases-all_meet l = l.n
