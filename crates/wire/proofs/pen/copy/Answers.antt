use Rattle.wire.proofs.Writing.{wrote_put}
use Rattle.wire.proofs.pen.copy.Goals as goal

pub returns : goal.returns
returns c = wrote_put c.copy_at.ensures
