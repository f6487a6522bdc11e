-- The bodies, written into no room, tell the length; then 25, or the sheet is written.
use native.Mathlib.Omega.{arith}
use Rattle.wire.proofs.Writing.{pen_front}
use Rattle.rule.proofs.Results.{exact_short, exact_wrote}
use Rattle.sheet.proofs.Writing.{sheet_ends}
use Rattle.sheet.proofs.sheet_of.Goals as goal

pub returns-then-out-span : goal.returns-then-out-span
returns-then-out-span c = let e = sheet_ends _ c.requires.0 c.count-n.ensures.0 c.bodies_at.ensures.0 c.put_bodies-span.ensures in
    exact_short _ _ (omega (arith, e))

pub returns : goal.returns
returns c = let e = sheet_ends _ c.requires.0 c.count-n.ensures.0 c.bodies_at.ensures.0 c.put_bodies-span.ensures in
    let p = c.put_sheet.ensures in
    exact_wrote _ _ (omega arith) (pen_front p (omega (arith, p.next)))
