-- The form, then the track, then what its own entries ask for.
use native.Mathlib.Omega.{arith}
use Rattle.sheet_table.proofs.Opening.{opened_short}
use Rattle.sheet_table.proofs.Answering.{sheet_torn, sheet_track, sheet_own}
use Rattle.sheet_table.proofs.table.Goals as goal

pub returns-then-not-formed : goal.returns-then-not-formed
returns-then-not-formed c = sheet_torn _ _ _ c.formed.ensures c.if-not-formed.true

pub returns-then-own-eq0 : goal.returns-then-own-eq0
returns-then-own-eq0 c = sheet_track _ _ _ c.formed.ensures c.if-not-formed.false
    record { count = c.byte-n.ensures.0; slots = c.rest-slots.ensures; bodies = c.bodies-bodies.ensures } c.count_own-own.ensures.0 (omega arith)

pub write_own-requires : goal.write_own-requires
write_own-requires c = let l = opened_short c.args.sheet.now record { count = c.byte-n.ensures.0; slots = c.rest-slots.ensures; bodies = c.bodies-bodies.ensures } in
    (omega (arith, l), c.count_own-own.ensures.0)

pub returns : goal.returns
returns c = sheet_own _ _ _ c.formed.ensures c.if-not-formed.false
    record { count = c.byte-n.ensures.0; slots = c.rest-slots.ensures; bodies = c.bodies-bodies.ensures }
    c.count_own-own.ensures.0 (λ e. omega arith) c.write_own.ensures
