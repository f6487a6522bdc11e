use Rattle.movie.proofs.Finding.{scale_is}
use Rattle.movie.proofs.scale.Goals as goal

pub returns : goal.returns
returns c = (scale_is _ c.payload-mdia.ensures c.payload.ensures c.word32.ensures.0, c.word32.ensures.1)
