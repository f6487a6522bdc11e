-- The track that is named, and what it says.
use Rattle.std.specs.Prelude.{Ok}
use mathlib.Core.Path.{ap, refl}
use Rattle.read_tracks.specs.declared.said.Said.{Said}
use Rattle.read_tracks.proofs.Reading.{track_first, track_four, track_readable, pick_nay, pick_yea}
use Rattle.read_tracks.proofs.said_in.Goals as goal

pub returns-then-not-is_track : goal.returns-then-not-is_track
returns-then-not-is_track c = pick_nay _ _ _ c.is_track.ensures c.if-not-is_track.true

pub overflow_sub-track : goal.overflow_sub-track
overflow_sub-track c = track_first _ _ c.is_track.ensures c.if-not-is_track.false

pub read-requires : goal.read-requires
read-requires c = let p = c.requires in
    let t = c.is_track.ensures in
    (p.1, track_four _ _ t c.if-not-is_track.false p.0, track_readable _ _ t c.if-not-is_track.false p.0 refl)

pub returns : goal.returns
returns c = pick_yea _ _ _ c.is_track.ensures c.if-not-is_track.false (ap (λ (s : Said). Ok s) c.read.ensures)
