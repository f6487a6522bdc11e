-- The handler that was noted.
use Rattle.layout.proofs.Everything.{track_of_lem}
use Rattle.brands.proofs.conditions.handler.Goals as goal

pub returns : goal.returns
returns c = let p = c.requires in (track_of_lem p.0 _ p.1 c.track-k.ensures).handler
