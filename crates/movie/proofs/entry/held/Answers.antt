use Rattle.movie.specs.Named.{held}
use Rattle.wire.proofs.Tests.{eq_yea, eq_nay}
use mathlib.Core.Path.{refl}
use native.Mathlib.Omega.{arith}
use Rattle.movie.proofs.entry.held.Goals as goal

pub returns-then-code-ne-TRAK : goal.returns-then-code-ne-TRAK
unfolding held
returns-then-code-ne-TRAK c = (eq_nay _ _ _ _ _ (omega arith) refl, omega arith)

pub returns : goal.returns
unfolding held
returns c = (eq_yea _ _ _ _ _ (omega arith) (rw (c.count.ensures.0, c.list.ensures.0)), omega arith)
