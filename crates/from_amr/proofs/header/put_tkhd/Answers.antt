-- Fields in four parts, and then the header.
use native.Mathlib.Omega.{arith}
use Rattle.wire.proofs.Writing.{pen_then, pen_is}
use Rattle.from_amr.proofs.Headers.{tkhd_parts}
use Rattle.from_amr.proofs.Writing.{pen_close}
use Rattle.from_amr.proofs.header.put_tkhd.Goals as goal

pub returns : goal.returns
returns c = (
  pen_close _ (pen_is (tkhd_parts _) (pen_then (pen_then (pen_then c.put_fields-a.ensures.0 c.put_fields-b.ensures.0)
      c.put_matrix-c.ensures.0) c.put_fields-r.ensures.0)) c.put_header.ensures,
  omega arith,
)
