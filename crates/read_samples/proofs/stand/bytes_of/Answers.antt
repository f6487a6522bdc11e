-- The front of what stands from its place on.
use Rattle.read_samples.proofs.stand.bytes_of.Goals as goal

pub returns : goal.returns
returns c = let e = c.front.ensures in rw c.rest.ensures at e
