-- No `meta`, and then each of four tracks.
use Rattle.std.proofs.lemmas.Bool.{not-false}
use native.Mathlib.Omega.{arith}
use Rattle.rule_all.proofs.Editing.{moov_edits}
use Rattle.rule_all.proofs.All.{sure_none}
use Rattle.rule_all.proofs.edit.moov_edits.Goals as goal

pub returns-then-not-g : goal.returns-then-not-g
returns-then-not-g c = sure_none _

pub returns-then-g-ne0 : goal.returns-then-g-ne0
returns-then-g-ne0 c = sure_none _

pub returns-then-g-gt4 : goal.returns-then-g-gt4
returns-then-g-gt4 c = sure_none _

pub trak_edits-requires : goal.trak_edits-requires
trak_edits-requires c = let g = c.with_tracks-g.ensures (not-false _ c.if-not-g.false) in g.second.lies

pub returns-then-not-trak_edits : goal.returns-then-not-trak_edits
returns-then-not-trak_edits c = sure_none _

pub trak_edits-requires-2 : goal.trak_edits-requires-2
trak_edits-requires-2 c = let g = c.with_tracks-g.ensures (not-false _ c.if-not-g.false) in g.third.lies

pub returns-then-not-trak_edits-2 : goal.returns-then-not-trak_edits-2
returns-then-not-trak_edits-2 c = sure_none _

pub trak_edits-requires-3 : goal.trak_edits-requires-3
trak_edits-requires-3 c = let g = c.with_tracks-g.ensures (not-false _ c.if-not-g.false) in g.fourth.lies

pub returns-then-not-trak_edits-3 : goal.returns-then-not-trak_edits-3
returns-then-not-trak_edits-3 c = sure_none _

pub trak_edits-requires-4 : goal.trak_edits-requires-4
trak_edits-requires-4 c = let g = c.with_tracks-g.ensures (not-false _ c.if-not-g.false) in g.fifth.lies

pub returns : goal.returns
returns c = let g = c.with_tracks-g.ensures (not-false _ c.if-not-g.false) in
    let one = c.trak_edits.ensures.holds c.if-not-trak_edits.false in
    let two = c.trak_edits-2.ensures.holds c.if-not-trak_edits-2.false in
    let three = c.trak_edits-3.ensures.holds c.if-not-trak_edits-3.false in
    record {
      holds = λ z.
          moov_edits _ (omega (arith, g.first.counted)) (omega (arith, g.second.counted))
          (rw g.second.is at one) (rw g.third.is at two) (rw g.fourth.is at three) (rw g.fifth.is at (c.trak_edits-4.ensures.holds z));
    }
