-- One item for all samples.
use Rattle.from_amr.specs.Boxes.{one_for}
use Rattle.from_amr.proofs.table.put_stco.Goals as goal

pub returns : goal.returns
unfolding one_for
returns c = c.put_one.ensures
