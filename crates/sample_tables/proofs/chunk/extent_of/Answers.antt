use Rattle.sample_tables.specs.Chunks.{extent_of}
use Rattle.sample_tables.proofs.chunk.extent_of.Goals as goal

pub returns : goal.returns
unfolding extent_of
returns c = cc
