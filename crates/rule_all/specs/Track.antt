-- What is asked of a track, by where its boxes stand.
use Rattle.std.specs.Prelude.{ℕ, ◌^◌, ◌≤◌, ◌<◌, ◌≡◌, Bool, true, Option, List, [], ◌∷◌, drop}
use Rattle.wire.specs.Numbers.{word}
use Rattle.wire.specs.Clauses.{every}
use Rattle.codes.specs.Codes.{TRAK, TKHD, MDIA, MDHD, HDLR}
use Rattle.boxes.specs.Box.{Box}
use Rattle.boxes.specs.Boxes.{FRONT, boxes}
use Rattle.boxes.specs.Seek.{find}
use Rattle.movie.specs.Ways.{to_stsd, follow}
use Rattle.movie.specs.Movie.{stored_count}
use Rattle.sample_tables.specs.Tables.{table_form}
use Rattle.sample_tables.specs.Sizes.{sizes_form}
use Rattle.sample_tables.specs.Rules.{tables_agree}
use Rattle.mdat.specs.Rules.{chunks_lie}
use Rattle.release.specs.declared.Release.TheVariants.{Release6}
use Rattle.entry_rules.specs.declared.entry.Around.{Around}
use Rattle.entry_rules.specs.Entries.{in_track}
use Rattle.layout.specs.declared.track.Track.{Track}
use Rattle.layout.specs.Slots.{slot_in, Lies}
use Rattle.rule.specs.Rule.{all_in}
use Rattle.rule_headers.specs.Forms.{form}
use Rattle.rule_lists.specs.Five.{list_form}
use Rattle.rule_lists.specs.Nine.{url_list}
use Rattle.rule_entries.specs.Ten.{around_of, entries_fine}
use Rattle.rule_all.specs.declared.TrackSays.{TrackSays}
use Rattle.rule_all.specs.All.{all_rules}

-- each box that is asked lies in the file
pub record Inside (xs : List ℕ) (t : Track) : Type 0 where
  pub tkhd : Lies xs t.tkhd
  pub mdhd : Lies xs t.mdhd
  pub hdlr : Lies xs t.hdlr
  pub dref : Lies xs t.dref
  pub stsd : Lies xs t.stsd
  pub stts : Lies xs t.stts
  pub stsc : Lies xs t.stsc
  pub stsz : Lies xs t.stsz
  pub stco : Lies xs t.stco

-- rule 4
unfoldable pub heads_fine : List ℕ → Track → Bool
heads_fine xs t = every (form TRAK TKHD (slot_in xs t.tkhd) ∷ form MDIA MDHD (slot_in xs t.mdhd) ∷ form MDIA HDLR (slot_in xs t.hdlr) ∷ [])

-- rules 5 and 9
unfoldable pub lists_fine : List ℕ → Track → Bool
lists_fine xs t = every (url_list (slot_in xs t.dref) ∷ list_form (slot_in xs t.stsd) ∷ [])

-- rule 6
unfoldable pub forms_fine : List ℕ → Track → Bool
forms_fine xs t =
    every (table_form 8 (slot_in xs t.stts) ∷ table_form 12 (slot_in xs t.stsc) ∷ sizes_form (slot_in xs t.stsz) ∷ table_form 4 (slot_in xs t.stco) ∷ [])

-- rules 7 and 8, in a file with the boxes l
unfoldable pub tables_fine : List Box → List ℕ → Track → Bool
tables_fine l xs t =
    every
    (tables_agree (slot_in xs t.stts) (slot_in xs t.stsc) (slot_in xs t.stsz) (slot_in xs t.stco) (word 4 (slot_in xs t.stsd) 4)
    ∷ chunks_lie l (slot_in xs t.stsc) (slot_in xs t.stsz) (slot_in xs t.stco)
    ∷ [])

-- rule 10
abbrev pub around_in : List ℕ → Track → Option Around
around_in xs t = in_track (word 4 (slot_in xs t.mdhd) 12) (word 4 (slot_in xs t.hdlr) 8) (word 4 (slot_in xs t.dref) 4)

-- an answer of 10 or more says that it meets rules 4 to 9, one of 11 the narrower rule 10 too
pub record AllFine (xs : List ℕ) (t : Track) (r : ℕ) : Type 0 where
  pub most : r ≤ 11
  pub heads : 10 ≤ r → heads_fine xs t ≡ true
  pub lists : 10 ≤ r → lists_fine xs t ≡ true
  pub forms : 10 ≤ r → forms_fine xs t ≡ true
  pub tables : 10 ≤ r → tables_fine (boxes xs) xs t ≡ true
  pub entries : 11 ≤ r → entries_fine (around_in xs t) Release6 (drop FRONT (slot_in xs t.stsd)) ≡ true

-- a track of payload b, in a file with the boxes l: all that its containers and boxes are asked
abbrev pub Good : List Box → List ℕ → Type 0
Good l b = all_in (all_rules l) 4 TRAK b ≡ true

-- its entries meet rule 10, in the narrower release and so in either
abbrev pub EntriesMeet : List ℕ → Type 0
EntriesMeet b = entries_fine (around_of b) Release6 (drop FRONT (follow to_stsd b)) ≡ true

-- what is said of it, by where its boxes stand
pub record SaysOf (xs : List ℕ) (t : Track) (r : TrackSays) : Type 0 where
  pub fine : AllFine xs t r.sure
  pub identity : r.identity ≡ word 4 (slot_in xs t.tkhd) 12
  pub entries : r.entries ≡ word 4 (slot_in xs t.stsd) 4
  pub small : r.entries < 2 ^ 32

-- and by its payload
pub record Judged (l : List Box) (b : List ℕ) (t : TrackSays) : Type 0 where
  pub most : t.sure ≤ 11
  pub good : 10 ≤ t.sure → Good l b
  pub listed : 11 ≤ t.sure → EntriesMeet b
  pub identity : t.identity ≡ word 4 (find TKHD (boxes b)) 12
  pub entries : t.entries ≡ stored_count (follow to_stsd b)
