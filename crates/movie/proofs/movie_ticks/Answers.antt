use Rattle.movie.proofs.Finding.{ticks_are}
use Rattle.movie.proofs.movie_ticks.Goals as goal

pub returns : goal.returns
returns c = (ticks_are _ c.payload.ensures c.word32.ensures.0, c.word32.ensures.1)
