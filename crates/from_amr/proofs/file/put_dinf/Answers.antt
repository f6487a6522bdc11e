-- The one box, and then the header.
use native.Mathlib.Omega.{arith}
use Rattle.from_amr.proofs.Writing.{pen_close}
use Rattle.from_amr.proofs.file.put_dinf.Goals as goal

pub returns : goal.returns
returns c =
    (pen_close _ c.put_dref-r.ensures.0 c.put_header.ensures, omega arith)
