-- By the number of samples: no item, or one.
use native.Mathlib.Omega.{arith}
use Rattle.from_amr.proofs.Writing.{one_none, one_some}
use Rattle.from_amr.proofs.table.put_one.Goals as goal

pub returns-then-n-eq0 : goal.returns-then-n-eq0
returns-then-n-eq0 c = (one_none _ _ _ c.if-n-eq0.true c.put_box.ensures.0, omega arith, omega arith)

pub returns : goal.returns
returns c = (one_some _ _ _ c.if-n-eq0.false c.put_box-2.ensures.0, omega arith, omega arith)
