-- `put::header` meets its contract. Assumes nothing.
use Rattle.entry_heads.specs.Heads.{box_header}
use Rattle.wire.proofs.Writing.{pen_then}
use native.Mathlib.Omega.{arith}
use Rattle.entry_heads.proofs.put.header.Goals as goal

pub returns : goal.returns
unfolding box_header
returns c = (pen_then c.put_number-a.ensures.0 c.put_number.ensures.0, omega arith)
