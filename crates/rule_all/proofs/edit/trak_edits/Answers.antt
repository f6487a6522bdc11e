-- No `meta`, and then its `mdia`, if it has one.
use Rattle.std.proofs.lemmas.Bool.{not-false}
use native.Mathlib.Omega.{arith}
use Rattle.rule_all.proofs.Editing.{trak_edits}
use Rattle.rule_all.proofs.All.{sure_none}
use Rattle.rule_all.proofs.edit.trak_edits.Goals as goal

pub returns-then-not-g : goal.returns-then-not-g
returns-then-not-g c = sure_none _

pub returns-then-g-ne0 : goal.returns-then-g-ne0
returns-then-g-ne0 c = sure_none _

pub returns-then-g-eq0 : goal.returns-then-g-eq0
returns-then-g-eq0 c = let g = c.two-g.ensures (not-false _ c.if-not-g.false) in
    record {
      holds = λ z. trak_edits _ (omega (arith, g.first.counted)) (omega (arith, g.second.counted)) (λ h. absurd (omega
          (arith, g.first.counted)));
    }

pub returns-then-g-gt1 : goal.returns-then-g-gt1
returns-then-g-gt1 c = sure_none _

pub mdia_edits-requires : goal.mdia_edits-requires
mdia_edits-requires c = let g = c.two-g.ensures (not-false _ c.if-not-g.false) in g.first.lies

pub returns : goal.returns
returns c = let g = c.two-g.ensures (not-false _ c.if-not-g.false) in
    record {
      holds = λ z.
          trak_edits _ (omega (arith, g.first.counted)) (omega (arith, g.second.counted)) (λ h. rw g.first.is at (c.mdia_edits.ensures.holds z));
    }
