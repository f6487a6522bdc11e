-- The first of five slots for one box.
use mathlib.Core.Path.{ap}
use native.Mathlib.Omega.{arith}
use Rattle.layout.specs.declared.gather.Want.{Want}
use Rattle.layout.proofs.track.first.Goals as goal

pub wanted-g-requires : goal.wanted-g-requires
wanted-g-requires c =
    let p = c.requires in
    let e = ap (λ (w : Want). w.code) c.first-want.ensures in
    (p.0, omega arith, omega arith, omega arith, omega arith, omega arith)

pub returns : goal.returns
returns c = rw (← c.first-want.ensures) c.wanted-g.ensures.first
