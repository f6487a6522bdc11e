-- No `co64`, and no `saio`.
use Rattle.std.proofs.lemmas.Bool.{not-false}
use native.Mathlib.Omega.{arith}
use Rattle.rule_all.proofs.Editing.{stbl_edits}
use Rattle.rule_all.proofs.All.{sure_none}
use Rattle.rule_all.proofs.edit.stbl_edits.Goals as goal

pub returns-then-not-g : goal.returns-then-not-g
returns-then-not-g c = sure_none _

pub returns-then-g-ne0 : goal.returns-then-g-ne0
returns-then-g-ne0 c = sure_none _

pub returns-then-g-ne0-2 : goal.returns-then-g-ne0-2
returns-then-g-ne0-2 c = sure_none _

pub returns : goal.returns
returns c = let g = c.two-g.ensures (not-false _ c.if-not-g.false) in
    record { holds = λ z. stbl_edits _ (omega (arith, g.first.counted)) (omega (arith, g.second.counted)) }
