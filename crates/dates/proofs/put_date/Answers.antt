-- The pieces one after the other.
use Rattle.wire.proofs.Writing.{pen_then}
use native.Mathlib.Omega.{arith}
use Rattle.dates.specs.DateText.{day_text, clock_text, date_text}
use Rattle.dates.proofs.put_date.Goals as goal

pub returns : goal.returns
unfolding day_text clock_text date_text
returns c =
    let day = pen_then (pen_then (pen_then c.put_two-a.ensures c.put_two-b.ensures) c.put_marked-c.ensures) c.put_marked-e.ensures in
    (pen_then (pen_then (pen_then day c.put_marked-f.ensures) c.put_marked-g.ensures) c.put_marked.ensures, omega arith)
