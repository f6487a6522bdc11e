-- The size field, the code, and what a wide header has more.
use Rattle.boxes.proofs.Whole.{head_least}
use Rattle.boxes.proofs.Putting.{under_put, under_past}
use native.Mathlib.Omega.{arith}
use Rattle.boxes.proofs.way.put_header.Goals as goal

pub put32-requires : goal.put32-requires
put32-requires c = omega (arith, head_least c.args.form)

pub put32-requires-then-r-out : goal.put32-requires-then-r-out
put32-requires-then-r-out c = omega (arith, head_least c.args.form)

pub returns-then-r-out : goal.returns-then-r-out
returns-then-r-out c = under_put _ _ _ _ _ c.field.ensures c.put32.ensures c.put32-then-r-out.ensures c.put_wide.ensures (omega arith) (omega arith)

pub returns-else-r-out : goal.returns-else-r-out
returns-else-r-out c = under_past _ _ _ _ _ (omega arith)
