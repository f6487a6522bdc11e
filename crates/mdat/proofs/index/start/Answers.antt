-- Both are starts before the place; the later one is the nearer.
use Rattle.mdat.proofs.Starts.{start_front, start_for}
use native.Mathlib.Omega.{arith}
use Rattle.mdat.proofs.index.start.Goals as goal

pub returns-then-offset-end : goal.returns-then-offset-end
returns-then-offset-end c = record { start = λ xs s i. c.for_place-from.ensures.start xs (start_front xs 1) i }

pub returns-then-end-from : goal.returns-then-end-from
returns-then-end-from c = record { start = λ xs s i. c.for_place-from.ensures.start xs (start_front xs 1) i }

pub returns : goal.returns
returns c = record { start = λ xs s i. start_for s _ (omega arith) }
