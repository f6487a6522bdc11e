-- The track of that number, and any other.
use Rattle.wire.proofs.Tests.{eq_yea, eq_nay}
use mathlib.Core.Path.{refl}
use native.Mathlib.Omega.{arith}
use Rattle.layout.proofs.moov.ends_past.Goals as goal

pub returns-then-n-i : goal.returns-then-n-i
returns-then-n-i c = eq_yea _ _ _ _ _ (omega arith) refl

pub returns : goal.returns
returns c = eq_nay _ _ _ _ _ (omega arith) refl
