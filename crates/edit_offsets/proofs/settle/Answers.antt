-- One target said three times is that target.
use Rattle.boxes.proofs.Aiming.{each_alone}
use Rattle.boxes.specs.Words.{moved}
use Rattle.edit_offsets.specs.Settle.{offsets}
use Rattle.edit_offsets.proofs.settle.Goals as goal

pub returns : goal.returns
returns c = rw (each_alone offsets (moved c.args.by)) at c.reword_moov.ensures
