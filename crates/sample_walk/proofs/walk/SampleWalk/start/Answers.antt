-- The walk at its start.
use Rattle.sample_walk.proofs.walk.SampleWalk.start.Goals as goal

pub returns : goal.returns
returns c = cc
