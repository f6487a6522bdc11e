-- The comparison of the two files, its outcome as four numbers.
use mir.Syntax.{w64}
use mir.ValLaws.{to_z-of_z}
use Rattle.threegp.proofs.Packing.{newer_is}
use Rattle.threegp.proofs.Telling.{newest_told}
use Rattle.threegp.proofs.threegp_newer.Goals as goal

pub put_outcome-requires : goal.put_outcome-requires
put_outcome-requires c =
    let b = to_z-of_z w64 c.args.y c.ranges.y in
    let d = to_z-of_z w64 c.args.z c.ranges.z in
    rw (rw (b, d) at c.newest.ensures) (newest_told _ c.args.y _ c.args.z _)

pub returns : goal.returns
returns c =
    let b = to_z-of_z w64 c.args.y c.ranges.y in
    let d = to_z-of_z w64 c.args.z c.ranges.z in
    newer_is c.pack.ensures c.put_outcome.ensures (rw (b, d) at c.newest.ensures)
