use Rattle.sheet_table.proofs.Answering.{own_long, own_short, own_done}
use native.Mathlib.Omega.{arith}
use Rattle.sheet_table.proofs.write_own.Goals as goal

pub returns-then-span-gt-LONGEST : goal.returns-then-span-gt-LONGEST
returns-then-span-gt-LONGEST c = own_long _ _ c.put_own-span.ensures.0 (omega arith)

pub returns-then-out-span : goal.returns-then-out-span
returns-then-out-span c = own_short _ _ c.put_own-span.ensures.0 (omega arith) (omega arith)

pub returns : goal.returns
returns c = own_done _ _ c.put_own-span.ensures.0 (omega arith) (omega arith) c.put_table.ensures
