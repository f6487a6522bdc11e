-- The release that its `ftyp` tells.
use Rattle.release.proofs.of_file.Goals as goal

pub returns : goal.returns
returns c = rw c.payload.ensures at c.told.ensures
