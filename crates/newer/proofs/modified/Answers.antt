use Rattle.newer.proofs.Asking.{modified_is}
use Rattle.newer.proofs.modified.Goals as goal

pub returns : goal.returns
returns c = (modified_is _ c.payload-moov.ensures c.payload.ensures c.word32.ensures.0, c.word32.ensures.1)
