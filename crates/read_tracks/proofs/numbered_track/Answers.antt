-- No such track, or where its boxes stand.
use Rattle.read_tracks.specs.Tracks.{NumberedAs}
use Rattle.read_tracks.proofs.Reading.{track_first, track_slot_lem, track_numbered, track_none}
use Rattle.read_tracks.proofs.numbered_track.Goals as goal

pub is_track-requires : goal.is_track-requires
unfolding NumberedAs
is_track-requires c = c.found-m.ensures.0.tracks

pub returns-then-not-is_track : goal.returns-then-not-is_track
unfolding NumberedAs
returns-then-not-is_track c = track_none _ _ c.is_track.ensures c.if-not-is_track.true

pub overflow_sub-track : goal.overflow_sub-track
unfolding NumberedAs
overflow_sub-track c = track_first _ _ c.is_track.ensures c.if-not-is_track.false

pub found-requires : goal.found-requires
unfolding NumberedAs
found-requires c =
    let i = c.is_track.ensures in
    (track_slot_lem _ _ i c.if-not-is_track.false c.requires c.found-m.ensures.0 c.track_slot-trak.ensures).lies

pub returns : goal.returns
unfolding NumberedAs
returns c =
    let i = c.is_track.ensures in
    let n = c.if-not-is_track.false in
    let a = track_slot_lem _ _ i n c.requires c.found-m.ensures.0 c.track_slot-trak.ensures in
    track_numbered _ _ i n a c.found.ensures.0
