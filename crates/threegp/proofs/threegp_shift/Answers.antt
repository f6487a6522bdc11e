use mir.Syntax.{w64}
use mir.ValLaws.{to_z-of_z}
use Rattle.threegp.proofs.Packing.{for_c}
use Rattle.threegp.proofs.threegp_shift.Goals as goal

pub returns : goal.returns
returns c =
    let b = to_z-of_z w64 c.args.minutes c.ranges.minutes in
    for_c c.pack.ensures (rw b at c.shift.ensures)
