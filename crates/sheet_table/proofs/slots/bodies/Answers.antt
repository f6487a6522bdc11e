-- What stands from the start of the bodies on.
use Rattle.sheet_table.proofs.slots.bodies.Goals as goal

pub returns : goal.returns
returns c = cc c.bodies_at.ensures.0
