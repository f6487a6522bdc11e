use Rattle.sample_tables.specs.Sizes.{sizes_listed}
use Rattle.wire.proofs.Tests.{eq_yea, eq_nay}
use mathlib.Core.Path.{refl}
use native.Mathlib.Omega.{arith}
use Rattle.sample_tables.proofs.size.listed.Goals as goal

pub returns-then-word32-eq0 : goal.returns-then-word32-eq0
unfolding sizes_listed
returns-then-word32-eq0 c = (eq_yea _ _ _ _ _ (omega arith) c.word32-then-word32-eq0.ensures.0, omega arith)

pub returns : goal.returns
unfolding sizes_listed
returns c = (eq_nay _ _ _ _ _ (λ e. omega arith) refl, omega arith)
