use Rattle.wire.proofs.Lists.{tail_is}
use lib.ListN.{drop_of_length-le}
use mathlib.Core.Path.{sym}
use native.Mathlib.Omega.{arith}
use Rattle.wire.proofs.lend.rest.Goals as goal

pub returns-then-n-part : goal.returns-then-n-part
returns-then-n-part c = let a = c.args in tail_is a.part.now a.n (omega arith)

pub returns : goal.returns
returns c = let a = c.args in sym (drop_of_length-le a.part.now {i = a.n} (omega arith))
