-- 20, 25, or the four numbers of the track.
use native.Mathlib.Omega.{arith}
use mathlib.Core.Path.{refl, sym, ◌∙◌}
use Rattle.rule.proofs.Results.{exact_short, exact_wrote, test_not, test_so, test_all}
use Rattle.read_tracks.proofs.Reading.{track_first, track_four, track_readable, length_said, said_as}
use Rattle.read_tracks.proofs.track_in.Goals as goal

pub returns-then-not-is_track : goal.returns-then-not-is_track
returns-then-not-is_track c = test_not _ _ _ _ _ (sym c.is_track.ensures ∙ c.if-not-is_track.true)

pub returns-then-out-lt4 : goal.returns-then-out-lt4
returns-then-out-lt4 c = test_so _ _ _ _ _ (sym c.is_track.ensures ∙ c.if-not-is_track.false) (test_all _ _ (exact_short _ _ (rw length_said (omega arith))))

pub overflow_sub-track : goal.overflow_sub-track
overflow_sub-track c = track_first _ _ c.is_track.ensures c.if-not-is_track.false

pub read-requires : goal.read-requires
read-requires c = let p = c.requires in
    let t = c.is_track.ensures in
    (p.1, track_four _ _ t c.if-not-is_track.false p.0, track_readable _ _ t c.if-not-is_track.false p.0 refl)

pub returns : goal.returns
returns c = test_so _ _ _ _ _ (sym c.is_track.ensures ∙ c.if-not-is_track.false) (test_all _ _ (exact_wrote _ _ (rw length_said (omega arith))
    (said_as refl c.read.ensures c.put.ensures)))
