-- One of two texts.
use Rattle.listing.specs.Lines.{yes_text}
use Rattle.wire.proofs.Clauses.{yea, nay}
use Rattle.wire.proofs.Tests.{eq_yea, eq_nay}
use Rattle.wire.proofs.Writing.{pen_is}
use mathlib.Core.Path.{refl, sym}
use native.Mathlib.Omega.{arith}
use Rattle.listing.proofs.line.put_yes.Goals as goal

pub returns-then-k : goal.returns-then-k
unfolding yes_text
returns-then-k c = (pen_is (eq_nay _ _ _ _ _ (λ z. let o = yea _ (sym c.if-k.true) in omega arith) refl) c.put_part.ensures, omega arith)

pub returns : goal.returns
unfolding yes_text
returns c = (pen_is (eq_yea _ _ _ _ _ (sym (nay _ (sym c.if-k.false))) refl) c.put_part-2.ensures, omega arith)
