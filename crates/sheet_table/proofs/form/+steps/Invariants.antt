-- The measure is the number of slots that are left.
use Rattle.sheet_table.proofs.form.+steps.Given as goal

abbrev pub decreases-steps : goal.decreases-steps
decreases-steps l = l.n
