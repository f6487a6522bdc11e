-- A `trak` by its `stsd`, and another box by nothing.
use Rattle.boxes.proofs.Seeking.{payload_length}
use Rattle.boxes.specs.Walk.{box_at}
use Rattle.rule_entries.proofs.Entry.{box_track, box_other}
use lib.ListN.{length}
use mathlib.Core.Path.{ap}
use native.Mathlib.Omega.{arith}
use Rattle.rule_entries.proofs.box_entries.Goals as goal

pub returns-then-b-ne-TRAK : goal.returns-then-b-ne-TRAK
returns-then-b-ne-TRAK c = box_other _ _ _ c.if-b-ne-TRAK.true

pub track_entries-requires : goal.track_entries-requires
track_entries-requires c = omega (arith, payload_length c.args.part.now c.args.b c.requires.1 c.requires.2, ap length c.body.ensures)

pub returns : goal.returns
returns c = box_track _ (box_at c.args.part.now c.args.b) _ (omega arith) c.requires.0 (rw c.body.ensures at c.track_entries.ensures)
