-- No frames, or some.
use native.Mathlib.Omega.{arith}
use Rattle.from_amr.proofs.Lengths.{starts_none, starts_some}
use Rattle.from_amr.proofs.file.start.Goals as goal

pub returns-then-count-eq0 : goal.returns-then-count-eq0
returns-then-count-eq0 c = (rw c.if-count-eq0.true starts_none, omega arith)

pub returns : goal.returns
returns c = (starts_some _ c.if-count-eq0.false, omega arith)
