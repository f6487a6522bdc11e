-- Each field is what the track says.
use Rattle.layout.proofs.Everything.{track_of_lem}
use Rattle.read_tracks.proofs.Reading.{told_times, times_table, media_is, said_is}
use Rattle.read_tracks.proofs.said.read.Goals as goal

pub bytes-requires : goal.bytes-requires
bytes-requires c = let p = c.requires in (track_of_lem p.0 _ p.1 c.track-k.ensures).stts.lies

pub media_ticks-requires : goal.media_ticks-requires
media_ticks-requires c = let p = c.requires in
    times_table _ (told_times (track_of_lem p.0 _ p.1 c.track-k.ensures) c.bytes.ensures) p.2

pub returns : goal.returns
returns c = let p = c.requires in
    let k = track_of_lem p.0 _ p.1 c.track-k.ensures in
    said_is _ k.handler (media_is _ (told_times k c.bytes.ensures) c.media_ticks.ensures) k.scale k.ticks
