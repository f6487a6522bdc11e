use Rattle.movie.proofs.Finding.{handler_is}
use Rattle.movie.proofs.handler.Goals as goal

pub returns : goal.returns
returns c = (handler_is _ c.payload-mdia.ensures c.payload.ensures c.word32.ensures.0, c.word32.ensures.1)
