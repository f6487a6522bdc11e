-- Its `minf`, and the `stbl` in that.
use Rattle.std.proofs.lemmas.Bool.{not-false}
use native.Mathlib.Omega.{arith}
use Rattle.rule_all.proofs.Editing.{mdia_edits}
use Rattle.rule_all.proofs.All.{sure_none}
use Rattle.rule_all.proofs.edit.mdia_edits.Goals as goal

pub returns-then-not-g : goal.returns-then-not-g
returns-then-not-g c = sure_none _

pub returns-then-g-gt1 : goal.returns-then-g-gt1
returns-then-g-gt1 c = sure_none _

pub one-h-requires : goal.one-h-requires
one-h-requires c = let g = c.one-g.ensures (not-false _ c.if-not-g.false) in (g.first.lies, omega arith)

pub returns-then-not-h : goal.returns-then-not-h
returns-then-not-h c = sure_none _

pub returns-then-h-gt1 : goal.returns-then-h-gt1
returns-then-h-gt1 c = sure_none _

pub stbl_edits-requires : goal.stbl_edits-requires
stbl_edits-requires c = let h = c.one-h.ensures (not-false _ c.if-not-h.false) in h.first.lies

pub returns : goal.returns
returns c = let g = c.one-g.ensures (not-false _ c.if-not-g.false) in
    let h = c.one-h.ensures (not-false _ c.if-not-h.false) in
    let k = rw g.first.is at h.first.counted in
    record {
      holds = λ z.
          mdia_edits _ (omega (arith, g.first.counted)) (omega (arith, k)) (rw (h.first.is, g.first.is) at (c.stbl_edits.ensures.holds z));
    }
