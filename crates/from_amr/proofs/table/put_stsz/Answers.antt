-- Fields and the sizes, and then the header.
use native.Mathlib.Omega.{arith}
use Rattle.wire.proofs.Writing.{pen_then}
use Rattle.from_amr.specs.Boxes.{stsz}
use Rattle.from_amr.proofs.Writing.{pen_close}
use Rattle.from_amr.proofs.table.put_stsz.Goals as goal

pub returns : goal.returns
unfolding stsz
returns c = (
  pen_close _ (pen_then (rw c.requires.1 at c.put_fields-a.ensures.0) c.put_sizes-r.ensures.0)
      c.put_header.ensures,
  omega arith,
  omega arith,
)
