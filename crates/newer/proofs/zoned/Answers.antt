-- 22, or the order by the two zones.
use mir.Syntax.{w64}
use mir.ValLaws.{to_z-of_z}
use Rattle.clocks.proofs.Signed.{zone_found}
use Rattle.newer.proofs.Answering.{zone_first, zone_second, zone_both}
use Rattle.newer.proofs.zoned.Goals as goal

pub compared-requires : goal.compared-requires
compared-requires c =
    let b = to_z-of_z w64 c.args.y c.ranges.y in
    let d = to_z-of_z w64 c.args.z c.ranges.z in
    ((zone_found c.args.y (rw b at c.zone_of.ensures) _ c.in-Some.is).2, (zone_found c.args.z (rw d at c.zone_of-2.ensures) _ c.in-Some-zone_of.is).2, c.requires.0, c.requires.1)

pub returns : goal.returns
returns c =
    let b = to_z-of_z w64 c.args.y c.ranges.y in
    let d = to_z-of_z w64 c.args.z c.ranges.z in
    zone_both _ c.args.y _ c.args.z _ (rw b at c.zone_of.ensures) c.in-Some.is (rw d at c.zone_of-2.ensures) c.in-Some-zone_of.is c.compared.ensures

pub returns-in_default-zone_of : goal.returns-in_default-zone_of
returns-in_default-zone_of c =
    let b = to_z-of_z w64 c.args.y c.ranges.y in
    let d = to_z-of_z w64 c.args.z c.ranges.z in
    zone_second _ c.args.y _ c.args.z _ (rw d at c.zone_of-2.ensures) c.in_default-zone_of.is

pub returns-in_default : goal.returns-in_default
returns-in_default c =
    let b = to_z-of_z w64 c.args.y c.ranges.y in
    let d = to_z-of_z w64 c.args.z c.ranges.z in
    zone_first _ c.args.y _ c.args.z _ (rw b at c.zone_of.ensures) c.in_default.is
