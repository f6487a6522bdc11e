-- `head::put_visual_start` meets its contract. Assumes nothing.
use Rattle.entry_heads.specs.Heads.{visual_start}
use Rattle.wire.proofs.Writing.{pen_then}
use native.Mathlib.Omega.{arith}
use Rattle.entry_heads.proofs.head.put_visual_start.Goals as goal

pub returns : goal.returns
unfolding visual_start
returns c =
    (pen_then (pen_then (pen_then (pen_then (pen_then c.put_common-a.ensures.0 c.put_number-b.ensures.0) c.put_number-c.ensures.0) c.put_number-d.ensures.0) c.put_number-e.ensures.0) c.put_number.ensures.0, omega arith)
