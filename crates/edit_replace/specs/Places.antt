-- Where an entry stands, and what is written there.
use Rattle.std.specs.Prelude.{ℕ, ◌+◌, ◌-◌, ◌≤◌, min, ◌≡◌, List, [], ◌∷◌, ◌++◌, map, length, Option, Some, None}
use Rattle.codes.specs.Codes.{MOOV, TRAK}
use Rattle.boxes.specs.declared.walk.BoxAt.{BoxAt}
use Rattle.boxes.specs.declared.way.Turn.{Turn}
use Rattle.boxes.specs.Boxes.{HEAD, FRONT, boxes}
use Rattle.boxes.specs.Walk.{payload}
use Rattle.boxes.specs.Seek.{ANY, Cut}
use Rattle.boxes.specs.Way.{around, edit_way, tail_by}
use Rattle.movie.specs.Ways.{to_stsd}
use Rattle.movie.specs.Stsds.{stsds_from}
use Rattle.movie.specs.Entries.{entries_in}
use Rattle.movie.specs.Named.{list_in, InTrack, spot_in, In}
use Rattle.entry_heads.specs.Heads.{head_size}
use Rattle.release.specs.Releases.{release_of}
use Rattle.entry_rules.specs.Decoders.{record_rule}
use Rattle.rule.specs.Results.{ToWrite, asked, in_limit}
use Rattle.rule.specs.Results.ToWrite.{gives}
use Rattle.judge.specs.Acceptance.{editable}
use Rattle.edit_offsets.specs.Close.{shut_at}
use Rattle.edit_offsets.specs.Settle.{settled}
use Rattle.edit_replace.specs.declared.place.Place.{Place}
use Rattle.edit_replace.specs.Replace.{turn, takes}

-- ---- the place

-- entry n of the track k of a `moov` ys; its way from there has been found
pub record PlaceIn (ys : List ℕ) (k : BoxAt) (n : ℕ) (p : Place) : Type 0 where
  pub trak : p.trak ≡ k
  pub nth : p.nth ≡ n
  pub entry : Cut (list_in (payload ys k)) ANY n p.entry

unfoldable pub InTrackAs : List ℕ → BoxAt → ℕ → Option Place → Type 0
InTrackAs ys k n (Some p) = PlaceIn ys k n p
InTrackAs ys k n None = ⊥

-- entry n of track t, both from 0
pub record PlaceOf (ys : List ℕ) (t n : ℕ) (p : Place) : Type 0 where
  pub nth : p.nth ≡ n
  pub trak : Cut ys TRAK t p.trak
  pub entry : Cut (list_in (payload ys p.trak)) ANY n p.entry

unfoldable pub InMoovAs : List ℕ → ℕ → ℕ → Option Place → Type 0
InMoovAs ys t n (Some p) = PlaceOf ys t n p
InMoovAs ys t n None = ⊥

-- entry i, from 0 and in file order, wherever the boxes of `moov` start
pub record Found (ys : List ℕ) (i : ℕ) (p : Place) : Type 0 where
  pub t : ℕ
  pub place : PlaceOf ys t p.nth p
  pub within : InTrack ys i t p.nth
  pub spot : (q : ℕ) → In t p.nth ≡ spot_in (stsds_from 0 (boxes ys) q) i

unfoldable pub FoundAs : List ℕ → ℕ → Option Place → Type 0
FoundAs ys i (Some p) = Found ys i p
FoundAs ys i None = (q : ℕ) → length (entries_in (stsds_from 0 (boxes ys) q)) ≤ i

-- in the `moov` b of the file xs
pub record Within (xs : List ℕ) (b : BoxAt) (p : Place) : Type 0 where
  pub t : ℕ
  pub moov : Cut xs MOOV 0 b
  pub place : PlaceOf (payload xs b) t p.nth p

-- ---- what is written there

-- the way from a track to its entry n
abbrev pub way_in : ℕ → List Turn
way_in n = map (λ c. turn c 0) to_stsd ++ (record { skip = FRONT; code = ANY; nth = n } ∷ [])

-- the file with another record, its `moov` written by the form of b
unfoldable pub record_there : List ℕ → BoxAt → Place → ℕ → List ℕ → List ℕ
record_there xs b p keep new = around xs b (around (payload xs b) p.trak (edit_way (way_in p.nth) (tail_by keep new) (payload (payload xs b) p.trak)))

-- its length, by that of the file and of the entry
abbrev pub length_in : ℕ → BoxAt → ℕ → ℕ → ℕ
length_in m e keep n = m - (e.span - e.head) + (min keep (e.span - e.head) + n)

-- ---- the answer, by the kind of the entry there

unfoldable pub place_text : List ℕ → BoxAt → Place → ℕ → List ℕ → List ℕ
place_text xs b p kind new = settled xs (record_there xs (shut_at b) p (head_size kind - HEAD) new)

unfoldable pub place_result : List ℕ → BoxAt → Place → ℕ → List ℕ → ToWrite
place_result xs b p kind new =
    asked
    ((20, takes kind new)
    ∷ (21, record_rule kind (release_of (boxes xs)) new)
    ∷ (23, editable xs)
    ∷ (24, in_limit (place_text xs b p kind new))
    ∷ []) (gives (place_text xs b p kind new))
