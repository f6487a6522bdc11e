-- The entry as a part of its file, and three numbers beside it.
use mir.Syntax.{w64}
use mir.ValLaws.{to_z-of_z}
use Rattle.newer.proofs.Parts.{part_first, part_second, part_none}
use Rattle.newer.proofs.newer.Goals as goal

pub returns-then-f-eq1 : goal.returns-then-f-eq1
returns-then-f-eq1 c =
    let b = to_z-of_z w64 c.args.y c.ranges.y in
    let d = to_z-of_z w64 c.args.z c.ranges.z in
    part_first _ _ _ (rw (b, d) at c.newest.ensures) _ c.in-Ok.is c.from.ensures c.tell.ensures c.if-f-eq1.true c.cut.ensures

pub returns-else-f-eq1 : goal.returns-else-f-eq1
returns-else-f-eq1 c =
    let b = to_z-of_z w64 c.args.y c.ranges.y in
    let d = to_z-of_z w64 c.args.z c.ranges.z in
    part_second _ _ _ (rw (b, d) at c.newest.ensures) _ c.in-Ok.is c.from.ensures c.tell.ensures c.if-f-eq1.false c.cut-in-Ok.ensures

pub returns-in-Err : goal.returns-in-Err
returns-in-Err c =
    let b = to_z-of_z w64 c.args.y c.ranges.y in
    let d = to_z-of_z w64 c.args.z c.ranges.z in
    part_none _ _ _ (rw (b, d) at c.newest.ensures) c.in-Err.is c.tell-in-Err.ensures
