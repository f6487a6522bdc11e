-- Fields and the entry, and then the header.
use native.Mathlib.Omega.{arith}
use Rattle.wire.proofs.Writing.{pen_then}
use Rattle.from_amr.specs.Boxes.{stsd}
use Rattle.from_amr.proofs.Writing.{pen_close}
use Rattle.from_amr.proofs.table.put_stsd.Goals as goal

pub returns : goal.returns
unfolding stsd
returns c =
    (pen_close _ (pen_then c.put_fields-a.ensures.0 c.put_entry-b.ensures.0) c.put_header.ensures, omega arith)
