use Rattle.sheet_table.proofs.Owning.{if_own, if_other}
use native.Mathlib.Omega.{arith}
use Rattle.sheet_table.proofs.put_if.Goals as goal

pub returns-then-of-track : goal.returns-then-of-track
returns-then-of-track c = (if_own (omega arith) c.put_part.ensures, omega (arith, c.put_part.ensures.next))

pub returns : goal.returns
returns c = (if_other _ _ _ _ _ (λ e. omega arith), omega arith)
