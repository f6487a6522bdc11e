-- Of an accepted file: the tables of each track place every chunk in a payload, and its `stsd` lists plain boxes. Assumes nothing.
use Prim.Native.Nat.{ℕ}
use mathlib.Core.Path.{◌≡◌, refl}
use mathlib.Core.Bool.{true}
use mathlib.Core.List.{List, []}
use lib.ListN.{drop}
use Rattle.wire.specs.Tests.{if_le}
use Rattle.wire.specs.Numbers.{word}
use Rattle.codes.specs.Codes.{TRAK, STSD, STSC, STSZ, STCO}
use Rattle.wire.proofs.Tests.{lt_or}
use Rattle.boxes.specs.Box.{Box}
use Rattle.boxes.specs.Boxes.{boxes, FRONT}
use Rattle.boxes.specs.Seek.{nth, all_plain}
use Rattle.boxes.proofs.Numbered.{nth_none}
use Rattle.mdat.specs.Rules.{chunks_lie}
use Rattle.mdat.proofs.Eight.{chunks_none}
use Rattle.movie.specs.Ways.{follow}
use Rattle.movie.specs.Movie.{movie, tracks, track, sample_table}
use Rattle.rule_tracks.proofs.Chunked.{stbl_eight}
use Rattle.judge.specs.Acceptance.{Meets}
use Rattle.judge.proofs.Tables.{track_chunked}
use Rattle.sheet.proofs.Accepted.{listed_at}

-- nothing has no chunks
none_eight : (l : List Box) → chunks_lie l (sample_table STSC []) (sample_table STSZ []) (sample_table STCO []) ≡ true
unfolding sample_table follow boxes nth word if_le
none_eight l = chunks_none l [] [] []

-- each chunk of a track of an accepted file lies in a payload
pub track_eight : (xs : List ℕ) → Meets xs → (t : ℕ) → chunks_lie (boxes xs) (sample_table STSC (track xs t)) (sample_table STSZ (track xs t)) (sample_table STCO (track xs t)) ≡ true
unfolding track sample_table follow
track_eight xs m t = lt_or t (tracks xs) (λ k. stbl_eight (track_chunked xs m t k)) (λ k. rw (← nth_none TRAK t (movie xs) k) (none_eight (boxes xs)))

none_plain : all_plain (boxes (drop FRONT (sample_table STSD []))) ≡ true
unfolding sample_table follow boxes nth all_plain
none_plain = refl

-- rule 5: each entry of a track of an accepted file is plain
pub track_plain : (xs : List ℕ) → Meets xs → (t : ℕ) → all_plain (boxes (drop FRONT (sample_table STSD (track xs t)))) ≡ true
unfolding track sample_table follow
track_plain xs m t = lt_or t (tracks xs) (λ k. (listed_at xs m t k).plain) (λ k. rw (← nth_none TRAK t (movie xs) k) none_plain)
