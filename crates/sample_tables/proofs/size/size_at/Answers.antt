-- The common size, or the one that the table holds.
use Rattle.sample_tables.specs.Sizes.{size_at}
use Rattle.wire.proofs.Tests.{eq_yea, eq_nay}
use native.Mathlib.Omega.{arith}
use Rattle.sample_tables.proofs.size.size_at.Goals as goal

pub returns-then-one-ne0 : goal.returns-then-one-ne0
unfolding size_at
returns-then-one-ne0 c = (eq_nay _ _ _ _ _ (λ e. omega arith) c.word32-one.ensures.0, omega arith)

pub returns : goal.returns
unfolding size_at
returns c = (eq_yea _ _ _ _ _ (omega arith) c.word32.ensures.0, omega arith)
