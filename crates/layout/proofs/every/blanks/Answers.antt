-- The same four times.
use Rattle.layout.proofs.every.blanks.Goals as goal

pub returns : goal.returns
returns c = rw c.blank-none.ensures
