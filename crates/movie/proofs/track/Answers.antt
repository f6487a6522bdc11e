use Rattle.movie.proofs.Finding.{track_is}
use Rattle.movie.proofs.track.Goals as goal

pub returns : goal.returns
returns c = track_is _ c.payload.ensures _ c.payload-2.ensures
