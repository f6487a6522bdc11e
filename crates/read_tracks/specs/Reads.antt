-- "Other reads": how many tracks there are, what a track says, and where its chunks are. Tracks are numbered from 1.
use Rattle.std.specs.Prelude.{ℕ, zero, suc, ◌-◌, Bool, List, [], ◌∷◌, ◌++◌, Result, Ok}
use Rattle.wire.specs.Tests.{pick}
use Rattle.wire.specs.Clauses.{is_le, every}
use Rattle.codes.specs.Codes.{STTS, STCO}
use Rattle.movie.specs.declared.MovieTicks.{MovieTicks}
use Rattle.movie.specs.Movie.{tracks, track, sample_table, handler, scale, movie_ticks}
use Rattle.sample_tables.specs.declared.time.MediaTicks.{MediaTicks}
use Rattle.sample_tables.specs.Tables.{items, field}
use Rattle.sample_tables.specs.Times.{media_ticks}
use Rattle.rule.specs.declared.Refusal.{Refusal}
use Rattle.rule.specs.Answers.{Answer, Done, Refused}
use Rattle.rule.specs.Results.{ToWrite}
use Rattle.judge.specs.Judgement.{judged}
use Rattle.judge.specs.Calls.{when_accepted, answer_on, result_on}
use Rattle.read_tracks.specs.declared.said.Said.{Said}

unfoldable pub tracks_answer : List ℕ → Answer
tracks_answer xs = answer_on xs (Done (tracks xs))

-- else 20: "no such entry or track"
unfoldable pub is_track : List ℕ → ℕ → Bool
is_track xs t = every (is_le 1 t ∷ is_le t (tracks xs) ∷ [])

-- the payload of track t
abbrev pub track_body : List ℕ → ℕ → List ℕ
track_body xs t = track xs (t - 1)

-- ---- its length: "as media ticks .. and as movie ticks", two units

abbrev pub media_of : List ℕ → MediaTicks
media_of b = record { 0 = media_ticks (sample_table STTS b) }

abbrev pub movie_of : List ℕ → MovieTicks
movie_of b = record { 0 = movie_ticks b }

unfoldable pub media_length : List ℕ → ℕ → Result MediaTicks Refusal
media_length xs t = when_accepted Refused (judged xs) (pick (is_track xs t) (Ok (media_of (track_body xs t))) (Refused 20 0))

unfoldable pub movie_length : List ℕ → ℕ → Result MovieTicks Refusal
movie_length xs t = when_accepted Refused (judged xs) (pick (is_track xs t) (Ok (movie_of (track_body xs t))) (Refused 20 0))

-- ---- what it says

-- of the track with payload b: its handler, its length in media ticks, their time scale, its length in movie ticks
abbrev pub said_by : List ℕ → Said
said_by b = record { handler = handler b; media = media_of b; scale = scale b; movie = movie_of b }

-- as numbers, for those who have no units
unfoldable pub numbers_of : Said → List ℕ
numbers_of s = s.handler ∷ s.media.0 ∷ s.scale ∷ s.movie.0 ∷ []

-- 20, 25
unfoldable pub track_result : List ℕ → ℕ → ToWrite
track_result xs t = result_on xs ((20, is_track xs t) ∷ []) (numbers_of (said_by (track_body xs t)))

-- ---- where its chunks are

-- the first n numbers of an `stco`
unfoldable pub offsets_to : List ℕ → ℕ → List ℕ
offsets_to stco zero = []
offsets_to stco (suc n) = offsets_to stco n ++ field 4 0 stco n ∷ []

-- "chunk offsets of a track go as 32-bit numbers into a list the caller lends"
unfoldable pub offsets_of : List ℕ → List ℕ
offsets_of b = offsets_to (sample_table STCO b) (items (sample_table STCO b))

-- 20, 25
unfoldable pub offsets_result : List ℕ → ℕ → ToWrite
offsets_result xs t = result_on xs ((20, is_track xs t) ∷ []) (offsets_of (track_body xs t))
