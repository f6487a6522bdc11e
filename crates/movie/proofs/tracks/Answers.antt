use Rattle.movie.proofs.Finding.{tracks_are}
use Rattle.movie.proofs.tracks.Goals as goal

pub returns : goal.returns
returns c = tracks_are _ c.payload.ensures c.count.ensures.0 c.count.ensures.1
