use Rattle.threegp.proofs.Packing.{packs}
use Rattle.threegp.proofs.threegp_tracks.Goals as goal

pub returns : goal.returns
returns c = packs c.pack.ensures c.tracks.ensures
