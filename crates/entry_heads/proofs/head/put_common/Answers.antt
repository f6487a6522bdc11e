-- `head::put_common` meets its contract. Assumes nothing.
use Rattle.entry_heads.specs.Heads.{common_head}
use Rattle.wire.proofs.Writing.{pen_then}
use native.Mathlib.Omega.{arith}
use Rattle.entry_heads.proofs.head.put_common.Goals as goal

pub returns : goal.returns
unfolding common_head
returns c = (pen_then (pen_then c.header-a.ensures.0 c.put_number-b.ensures.0) c.put_number.ensures.0, omega arith)
