-- Each number by its test.
use mathlib.Core.Path.{refl}
use native.Mathlib.Omega.{arith}
use Rattle.wire.proofs.Tests.{eq_yea, eq_nay}
use Rattle.layout.specs.Every.{with_track}
use Rattle.layout.proofs.every.with_track.Goals as goal

pub returns-then-t-eq0 : goal.returns-then-t-eq0
unfolding with_track
returns-then-t-eq0 c = eq_yea _ _ _ _ _ (omega arith) refl

pub returns-then-t-eq1 : goal.returns-then-t-eq1
unfolding with_track
returns-then-t-eq1 c = eq_nay _ _ _ _ _ (omega arith) (eq_yea _ _ _ _ _ (omega arith) refl)

pub returns-then-t-eq2 : goal.returns-then-t-eq2
unfolding with_track
returns-then-t-eq2 c = eq_nay _ _ _ _ _ (omega arith) (eq_nay _ _ _ _ _ (omega arith) (eq_yea _ _ _ _ _ (omega arith) refl))

pub returns : goal.returns
unfolding with_track
returns c = eq_nay _ _ _ _ _ (omega arith) (eq_nay _ _ _ _ _ (omega arith) (eq_nay _ _ _ _ _ (omega arith) refl))
