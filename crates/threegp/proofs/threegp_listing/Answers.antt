use Rattle.threegp.proofs.Packing.{for_c}
use Rattle.threegp.proofs.threegp_listing.Goals as goal

pub returns : goal.returns
returns c = for_c c.pack.ensures c.listing.ensures
