-- A place is told of a rule and of a bad frame alone.
use Rattle.refusal_words.specs.RefusalWords.{place_words}
use Rattle.wire.proofs.Tests.{eq_yea, eq_nay, le_yea, le_nay}
use Rattle.wire.proofs.Writing.{pen_is}
use mathlib.Core.Path.{refl}
use native.Mathlib.Omega.{arith}
use Rattle.refusal_words.proofs.put_place.Goals as goal

pub returns-then-n-le10 : goal.returns-then-n-le10
unfolding place_words
returns-then-n-le10 c = (pen_is (le_yea _ _ _ _ _ (omega arith) refl) c.put_labelled.ensures.0, omega arith)

pub returns-then-n-eq41 : goal.returns-then-n-eq41
unfolding place_words
returns-then-n-eq41 c = (pen_is (le_nay _ _ _ _ _ (omega arith) (eq_yea _ _ _ _ _ (omega arith) refl)) c.put_labelled-then-n-eq41.ensures.0, omega arith)

pub returns : goal.returns
unfolding place_words
returns c = (pen_is (le_nay _ _ _ _ _ (omega arith) (eq_nay _ _ _ _ _ (omega arith) refl)) c.put_part.ensures, omega arith)
