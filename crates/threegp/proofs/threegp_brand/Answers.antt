use Rattle.threegp.proofs.Packing.{packs}
use Rattle.threegp.proofs.threegp_brand.Goals as goal

pub returns : goal.returns
returns c = packs c.pack.ensures c.brand.ensures
