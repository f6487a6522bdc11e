-- The starts on the way to a track, that of its `stsd` there, and the front of the list.
use Rattle.movie.proofs.Asking.{list_start_is}
use native.Mathlib.Omega.{arith}
use Rattle.boxes.proofs.Numbered.{found_short}
use Rattle.movie.proofs.entry.list_start.Goals as goal

pub returns : goal.returns
returns c = (list_start_is _ _ c.payload-moov.ensures c.track.ensures.0 c.start.ensures.0 c.start-2.ensures.0 c.stsd_start.ensures.0, omega (arith, found_short _ _ _ c.payload-moov.ensures))
