-- Each track of an accepted file can be read. Assumes nothing.
use Prim.Native.Nat.{ℕ, ◌<◌}
use native.Mathlib.Omega.{arith}
use mathlib.Core.List.{List}
use Rattle.sample_tables.proofs.Rules.{seven_is}
use Rattle.movie.specs.Ways.{follow}
use Rattle.movie.specs.Movie.{tracks, track, sample_table}
use Rattle.rule_tracks.proofs.Chunked.{stbl_six, stbl_seven}
use Rattle.judge.specs.Acceptance.{Meets}
use Rattle.judge.proofs.Tables.{track_chunked}
use Rattle.read_tracks.specs.Tracks.{Readable}

pub readable : (xs : List ℕ) → Meets xs → (t : ℕ) → t < tracks xs → Readable (track xs t)
unfolding sample_table follow
readable xs m t k =
    let c = track_chunked xs m t k in
    let s = stbl_six c in
    let a = seven_is _ _ _ _ _ s (stbl_seven c) in
    record { times = s.times; few = omega (arith, a.few, a.timely); offsets = s.offsets }
