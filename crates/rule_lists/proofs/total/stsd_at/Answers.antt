-- The place of the track's payload, and how far into that its `stsd` starts.
use Rattle.boxes.proofs.Seeking.{payload_length}
use lib.ListN.{length}
use mathlib.Core.Path.{ap}
use native.Mathlib.Omega.{arith}
use Rattle.rule_lists.proofs.total.stsd_at.Goals as goal

pub stsd_place-requires : goal.stsd_place-requires
stsd_place-requires c = omega (arith, payload_length c.args.part.now c.args.b c.requires.0 c.requires.1, ap length c.body.ensures)

pub overflow_add-result : goal.overflow_add-result
overflow_add-result c = omega (arith, payload_length c.args.part.now c.args.b c.requires.0 c.requires.1, ap length c.body.ensures)

pub returns : goal.returns
returns c = rw (c.stsd_place.ensures.0, c.body.ensures)
