-- What the track says, printed.
use native.Mathlib.Omega.{arith}
use mathlib.Core.Path.{refl}
use Rattle.layout.proofs.Everything.{track_of_lem}
use Rattle.read_tracks.proofs.Reading.{times_table}
use Rattle.listing.proofs.Listed.{few_tracks, track_read, stts_is, line_of_lem}
use Rattle.listing.proofs.lines.put_track.Goals as goal

pub bytes-requires : goal.bytes-requires
bytes-requires c = let p = c.requires in
    let f = few_tracks p.0 in
    (track_of_lem p.1 _ (omega (arith, p.2)) c.track-k.ensures).stts.lies

pub media_ticks-ticks-requires : goal.media_ticks-ticks-requires
media_ticks-ticks-requires c = let p = c.requires in
    let f = few_tracks p.0 in
    let a = track_of_lem p.1 _ (omega (arith, p.2)) c.track-k.ensures in
    times_table _ (stts_is _ a c.bytes.ensures) (track_read _ p.0 _ p.2 refl)

pub returns : goal.returns
returns c = let p = c.requires in
    let f = few_tracks p.0 in
    let a = track_of_lem p.1 _ (omega (arith, p.2)) c.track-k.ensures in
    let q = c.put_track.ensures in
    (line_of_lem _ _ (stts_is _ a c.bytes.ensures) a.handler c.media_ticks-ticks.ensures a.scale q.0, q.1)
