-- What is asked of all tracks of a file.
use Rattle.std.specs.Prelude.{ℕ, ◌+◌, ◌≤◌, ◌<◌, min, ◌≡◌, Bool, true, false, List}
use Rattle.wire.specs.Sums.{sum_to}
use Rattle.boxes.specs.Boxes.{boxes}
use Rattle.movie.specs.Ways.{to_stsd, follow}
use Rattle.movie.specs.Movie.{movie, tracks, track, stored_count}
use Rattle.rule_headers.specs.Identities.{different}
use Rattle.rule_lists.specs.Five.{MOST}
use Rattle.layout.specs.Every.{TracksAt}
use Rattle.rule_all.specs.declared.SoFar.{SoFar}
use Rattle.rule_all.specs.declared.SureTracks.{SureTracks}
use Rattle.rule_all.specs.declared.TrackSays.{TrackSays}
use Rattle.rule_all.specs.Track.{Good, EntriesMeet}

-- how many sample entries the `stsd` of track i, from 0, counts
abbrev pub entries_on : List ℕ → ℕ → ℕ
entries_on xs i = stored_count (follow to_stsd (track xs i))

-- a no says that an ID is none of the last three, as many as there are after i tracks
pub record Again (r : Bool) (identity i one two three : ℕ) : Type 0 where
  pub first : r ≡ false → 1 ≤ i → identity ≡ one → ⊥
  pub second : r ≡ false → 2 ≤ i → identity ≡ two → ⊥
  pub third : r ≡ false → 3 ≤ i → identity ≡ three → ⊥

-- an answer of 10 or more says of track i, after those so far, that it is good, that its ID is none of the last three, and that there are few entries
pub record SureWith (p : SoFar) (i : ℕ) (t : TrackSays) (r : ℕ) : Type 0 where
  pub good : 10 ≤ r → 10 ≤ t.sure
  pub least : 10 ≤ r → r ≡ min p.sure t.sure
  pub few : 10 ≤ r → p.total + t.entries ≤ MOST
  pub first : 10 ≤ r → 1 ≤ i → t.identity ≡ p.one → ⊥
  pub second : 10 ≤ r → 2 ≤ i → t.identity ≡ p.two → ⊥
  pub third : 10 ≤ r → 3 ≤ i → t.identity ≡ p.three → ⊥

-- those so far with track i
pub record Joined (p : SoFar) (i : ℕ) (t : TrackSays) (r : SoFar) : Type 0 where
  pub sure : SureWith p i t r.sure
  pub total : r.total ≡ p.total + t.entries
  pub one : r.one ≡ t.identity
  pub two : r.two ≡ p.one
  pub three : r.three ≡ p.two

-- an answer of 10 or 11 says that each track is good, that their IDs differ, and that they have at most 8 sample entries, one of 11 that these are fine
pub record Tracked (xs : List ℕ) (r : ℕ) : Type 0 where
  pub low : r < 10 → r ≡ 2
  pub most : r ≤ 11
  pub each : 10 ≤ r → (i : ℕ) → i < tracks xs → Good (boxes xs) (track xs i)
  pub differ : 10 ≤ r → different (movie xs) ≡ true
  pub few : 10 ≤ r → sum_to (entries_on xs) (tracks xs) ≤ MOST
  pub listed : 11 ≤ r → (i : ℕ) → i < tracks xs → EntriesMeet (track xs i)

-- an answer of 10 or 11 comes with what each track says
pub record TracksTold (xs : List ℕ) (r : SureTracks) : Type 0 where
  pub tracks : 10 ≤ r.sure → TracksAt xs r.tracks
