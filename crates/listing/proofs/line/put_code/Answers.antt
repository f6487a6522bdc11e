-- A code of a kind, or `other`.
use Rattle.listing.specs.Lines.{code_text}
use Rattle.wire.proofs.Tests.{eq_yea, eq_nay}
use Rattle.wire.proofs.Writing.{pen_is}
use mathlib.Core.Path.{refl}
use native.Mathlib.Omega.{arith}
use Rattle.listing.proofs.line.put_code.Goals as goal

pub returns-then-of_code-eq-OTHER : goal.returns-then-of_code-eq-OTHER
unfolding code_text
returns-then-of_code-eq-OTHER c = (pen_is (eq_yea _ _ _ _ _ (omega arith) refl) c.put_part.ensures, omega arith)

pub returns : goal.returns
unfolding code_text
returns c = (pen_is (eq_nay _ _ _ _ _ (omega arith) refl) c.put_number.ensures.0, omega arith)
