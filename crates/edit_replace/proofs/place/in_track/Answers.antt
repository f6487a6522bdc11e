-- An entry that is there is found.
use Rattle.boxes.proofs.Cutting.{cut_as, none_as}
use Rattle.boxes.specs.Seek.{ANY}
use Rattle.edit_replace.proofs.Finding.{track_at}
use native.Mathlib.Omega.{arith}
use Rattle.edit_replace.proofs.place.in_track.Goals as goal

pub returns : goal.returns
returns c = let a = c.args in track_at a.moov.now a.k a.n _ (rw (c.list.ensures.0, c.body.ensures) at (cut_as _ ANY a.n _ c.nth.ensures _ c.in_ok-entry.was))

pub returns-in_err-entry : goal.returns-in_err-entry
returns-in_err-entry c = absurd (omega (arith, c.requires.2, rw (c.list.ensures.0, c.body.ensures) at (none_as _ ANY c.args.n _ c.nth.ensures c.in_err-entry.was)))
