-- Three numbers are one turn.
use Rattle.boxes.proofs.Turning.{turns_more}
use mathlib.Core.Path.{refl}
use native.Mathlib.Omega.{arith}
use Rattle.boxes.proofs.way.turn_at.Goals as goal

pub returns : goal.returns
returns c = let a = c.args in turns_more a.way.now a.i (omega arith) refl refl refl
