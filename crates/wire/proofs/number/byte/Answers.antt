use Rattle.wire.proofs.Numbers.{byte_past}
use native.Mathlib.Omega.{arith}
use Rattle.wire.proofs.number.byte.Goals as goal

pub returns : goal.returns
returns c = let a = c.args in (byte_past a.part.now a.at (omega arith), omega arith)
