-- Each return is a way through the two tests.
use Rattle.boxes.specs.Words.{target_in}
use Rattle.wire.proofs.Tests.{eq_yea, eq_nay}
use mathlib.Core.Path.{refl}
use native.Mathlib.Omega.{arith}
use Rattle.boxes.proofs.words.target_in.Goals as goal

pub returns-then-k-ts : goal.returns-then-k-ts
unfolding target_in
returns-then-k-ts c = eq_yea _ _ _ _ _ (omega arith) refl

pub returns-then-k-ts-2 : goal.returns-then-k-ts-2
unfolding target_in
returns-then-k-ts-2 c = eq_nay _ _ _ _ _ (omega arith) (eq_yea _ _ _ _ _ (omega arith) refl)

pub returns : goal.returns
unfolding target_in
returns c = eq_nay _ _ _ _ _ (omega arith) (eq_nay _ _ _ _ _ (omega arith) refl)
