-- One item for all samples.
use Rattle.from_amr.specs.Boxes.{one_for}
use Rattle.from_amr.proofs.table.put_stts.Goals as goal

pub returns : goal.returns
unfolding one_for
returns c = rw c.sample_ticks-ticks.ensures.0 at c.put_one.ensures
