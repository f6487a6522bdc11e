-- Fields and one box, and then the header.
use native.Mathlib.Omega.{arith}
use Rattle.wire.proofs.Writing.{pen_then}
use Rattle.from_amr.specs.Boxes.{dref}
use Rattle.from_amr.proofs.Writing.{pen_close}
use Rattle.from_amr.proofs.file.put_dref.Goals as goal

pub returns : goal.returns
unfolding dref
returns c =
    (pen_close _ (pen_then c.put_fields-a.ensures.0 c.put_box-b.ensures.0) c.put_header.ensures, omega arith)
