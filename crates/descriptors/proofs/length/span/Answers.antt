-- The bytes before the last, and that.
use native.Mathlib.Omega.{arith}
use Rattle.descriptors.proofs.Shortest.{length_shortest}
use Rattle.descriptors.proofs.length.span.Goals as goal

pub returns : goal.returns
returns c = (omega (arith, c.least_more.ensures.0, length_shortest c.args.n), omega arith)
