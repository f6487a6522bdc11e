-- 0 has words of its own, and any other time the text of its date.
use Rattle.wire.proofs.Tests.{eq_yea, eq_nay}
use Rattle.wire.proofs.Writing.{pen_is}
use Rattle.dates.specs.DateText.{date_text, time_text}
use mathlib.Core.Path.{refl, ap}
use native.Mathlib.Omega.{arith}
use Rattle.dates.proofs.put_time.Goals as goal

pub returns-then-t-eq0 : goal.returns-then-t-eq0
unfolding time_text
returns-then-t-eq0 c = (pen_is (eq_yea _ _ _ _ _ (omega arith) refl) c.put_part.ensures, omega arith)

pub returns : goal.returns
unfolding time_text
returns c =
    (pen_is (eq_nay _ _ _ _ _ (omega arith) (ap date_text c.date_of-d.ensures)) c.put_date.ensures.0, omega arith)
