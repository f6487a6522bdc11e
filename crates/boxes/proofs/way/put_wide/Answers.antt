-- Only a wide header has more.
use native.Mathlib.Omega.{arith}
use mathlib.Core.Path.{ap}
use Rattle.boxes.specs.Box.{head_of}
use Rattle.boxes.proofs.Putting.{more_plain, more_open, more_wide}
use Rattle.boxes.proofs.way.put_wide.Goals as goal

pub put64-requires : goal.put64-requires
put64-requires c = let e = ap head_of c.in-Wide.is in omega arith

pub returns-in-Plain : goal.returns-in-Plain
returns-in-Plain c = more_plain _ _ _ _ c.in-Plain.is

pub returns-in-Wide : goal.returns-in-Wide
returns-in-Wide c = more_wide _ _ _ _ c.in-Wide.is c.put64.ensures

pub returns-in-Open : goal.returns-in-Open
returns-in-Open c = more_open _ _ _ _ c.in-Open.is
