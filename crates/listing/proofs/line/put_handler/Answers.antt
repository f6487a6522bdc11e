-- The name of each handler.
use Rattle.listing.specs.Lines.{handler_text}
use Rattle.wire.proofs.Tests.{eq_yea, eq_nay}
use Rattle.wire.proofs.Writing.{pen_is}
use mathlib.Core.Path.{refl}
use native.Mathlib.Omega.{arith}
use Rattle.listing.proofs.line.put_handler.Goals as goal

pub returns-then-h-eq-VIDE : goal.returns-then-h-eq-VIDE
unfolding handler_text
returns-then-h-eq-VIDE c = (pen_is (eq_yea _ _ _ _ _ (omega arith) refl) c.put_part.ensures, omega arith)

pub returns-then-h-eq-SOUN : goal.returns-then-h-eq-SOUN
unfolding handler_text
returns-then-h-eq-SOUN c = (pen_is (eq_nay _ _ _ _ _ (omega arith) (eq_yea _ _ _ _ _ (omega arith) refl)) c.put_part-then-h-eq-SOUN.ensures, omega arith)

pub returns-then-h-eq-TEXT : goal.returns-then-h-eq-TEXT
unfolding handler_text
returns-then-h-eq-TEXT c = (pen_is (eq_nay _ _ _ _ _ (omega arith) (eq_nay _ _ _ _ _ (omega arith) (eq_yea _ _ _ _ _ (omega arith) refl))) c.put_part-then-h-eq-TEXT.ensures, omega arith)

pub returns : goal.returns
unfolding handler_text
returns c = (pen_is (eq_nay _ _ _ _ _ (omega arith) (eq_nay _ _ _ _ _ (omega arith) (eq_nay _ _ _ _ _ (omega arith) refl))) c.put_part-2.ensures, omega arith)
