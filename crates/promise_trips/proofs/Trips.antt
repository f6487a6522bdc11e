-- The round trips: what is written from what was read is what it was read from, and back. Assumes nothing.
use Prim.Native.Nat.{ℕ, ◌-◌, ◌≤◌, ◌<◌}
use mathlib.Core.Path.{◌≡◌, ap}
use mathlib.Core.Bool.{true}
use mathlib.Core.List.{List}
use mathlib.Core.Logic.{◌⊎◌}
use lib.ListN.{length, take, get_or}
use Rattle.codes.specs.Codes.{STSD}
use Rattle.wire.specs.Numbers.{Bytes}
use Rattle.boxes.specs.declared.walk.Form.TheVariants.{Plain}
use Rattle.boxes.specs.Way.{box_by}
use Rattle.movie.specs.Movie.{tracks, track, sample_table}
use Rattle.movie.specs.Stsds.{stsds, standing}
use Rattle.movie.specs.Entries.{Entry, entries}
use Rattle.movie.specs.Named.{stsd_at}
use Rattle.release.specs.declared.Release.{Release}
use Rattle.release.specs.declared.Release.TheVariants.{Release4}
use Rattle.entry_records.specs.declared.field.Record.{Record}
use Rattle.std.specs.Prelude.{Option, None}
use Rattle.entry_records.specs.Fields.{fields_rule}
use Rattle.entry_records.specs.Texts.{text_of}
use Rattle.entry_records.specs.Records.{read_of}
use Rattle.entry_records.proofs.Reading.{written_reads}
use Rattle.entry_records.proofs.Rewriting.{read_writes}
use Rattle.entry_records.proofs.Wider.{read_wider}
use Rattle.rule.specs.Results.{answer_in, left_in}
use Rattle.rule.specs.Results.ToWrite.{gives, refuses}
use Rattle.judge.specs.Acceptance.{Meets}
use Rattle.sheet.specs.Sheet.{SLOTS, edition_for, sheet}
use Rattle.sheet.specs.Reader.{sheet_of, sheet_result}
use Rattle.sheet_table.specs.Form.{unsheet, formed}
use Rattle.sheet_table.specs.Table.{table_result}
use Rattle.sheet_table.proofs.RoundTrip as roundTrip
use Rattle.entry_fields.specs.Numbers.{read_result, write_result}
use Rattle.entry_fields.proofs.Returning.{written_back, read_back}
use Rattle.promise_trips.proofs.Track.{stsd_form, at_place}
use Rattle.promise_trips.proofs.Returned.{own_formed, own_unsheet, standing_box, standing_plain}
use Rattle.promise_trips.proofs.Answered.{no_table, own_table, sheet_meets, sheet_taken}
use Rattle.rule.specs.Answers.{Done}

-- ---- a file that meets the rules

module _ (xs : List ℕ) (v : Bytes xs) (m : Meets xs) where
  -- its own sheet has the form
  pub sheet_formed : formed (sheet_of xs) ≡ true
  sheet_formed = own_formed xs m v

  -- the entries that its sheet says are its own
  pub sheet_entries : unsheet (sheet_of xs) ≡ entries xs
  sheet_entries = own_unsheet xs m v

  module _ (t : ℕ) (h : 1 ≤ t) (k : t ≤ tracks xs) where
    -- what stands in the file as the payload of a track's `stsd`, under a plain header, is that `stsd` as a plain box
    pub stsd_stands : standing xs (stsds xs) (t - 1) ≡ box_by Plain STSD (sample_table STSD (track xs (t - 1)))
    stsd_stands = standing_box xs m v t h k

    -- where its header is plain in the file too, those are the very bytes at its place
    pub stsd_plain : stsd_form (track xs (t - 1)) ≡ Plain → standing xs (stsds xs) (t - 1) ≡ at_place xs (stsd_at xs (t - 1))
    stsd_plain e = standing_plain xs m v t h k e

    -- the table writer gives it from the file's own sheet
    pub table_stands : table_result (sheet_of xs) t ≡ gives (standing xs (stsds xs) (t - 1))
    table_stands = own_table xs m v t h k

  -- of a track that it has not the writer says so
  pub table_none : (t : ℕ) → (t ≡ 0) ⊎ (tracks xs < t) → table_result (sheet_of xs) t ≡ refuses 20 0
  table_none t h = no_table xs m v t h

-- ---- the sheet reader, and then the table writer, on any bytes

-- what the reader gave, given to the writer, gives back what stands in the file as the payload of any track's `stsd`, under a plain header
pub sheet_table : (xs : List ℕ) → Bytes xs → (out : List ℕ) (n : ℕ) → answer_in (sheet_result xs) out ≡ Done n → (t : ℕ) → 1 ≤ t → t ≤ tracks xs
    → table_result (take n (left_in (sheet_result xs) out)) t ≡ gives (standing xs (stsds xs) (t - 1))
sheet_table xs v out n e t h k = rw (sheet_taken xs out n e) (table_stands xs v (sheet_meets xs out n e) t h k)

-- ---- sheets

-- the sheet of entries says those entries
pub unsheet_sheet : (es : List Entry) → length es ≤ SLOTS → roundTrip.AllSmall es → unsheet (sheet es) ≡ es
unsheet_sheet = roundTrip.unsheet_sheet

-- a sheet of the form is the sheet of what it says
pub sheet_unsheet : (xs : List ℕ) → formed xs ≡ true → sheet (unsheet xs) ≡ xs
sheet_unsheet = roundTrip.sheet_unsheet

-- and of the edition that its count asks for
pub formed_edition : (xs : List ℕ) → formed xs ≡ true → get_or xs 0 0 ≡ (edition_for (get_or xs 1 0)).number
formed_edition = roundTrip.formed_edition

-- two sheets of the form that say the same entries at the same places are one, of one edition
pub unsheet_one : (xs ys : List ℕ) → formed xs ≡ true → formed ys ≡ true → unsheet xs ≡ unsheet ys → xs ≡ ys
unsheet_one = roundTrip.unsheet_one

-- and two files with the same entries at the same places have it
pub same_sheet : (xs ys : List ℕ) → entries xs ≡ entries ys → sheet_of xs ≡ sheet_of ys
unfolding sheet_of
same_sheet xs ys e = ap sheet e

-- ---- records

-- a record that the writer takes reads back as itself
pub record_back : (release : Release) (r : Option Record) → fields_rule release r ≡ true → read_of release (text_of r) ≡ r
record_back = written_reads

-- a record that was read is one that the writer takes, and it writes the bytes that it was read from
pub bytes_back : (release : Release) (xs : List ℕ) → Bytes xs → (r : Option Record) → read_of release xs ≡ r → (r ≡ None → ⊥)
    → (fields_rule release r ≡ true) × (text_of r ≡ xs)
bytes_back release xs v r e n = let a = read_writes release xs v r e n in (a.rule, a.text)

-- a record that one release reads, Release 4 reads as the same
pub record_wider : (release : Release) (xs : List ℕ) (r : Option Record) → read_of release xs ≡ r → (r ≡ None → ⊥) → read_of Release4 xs ≡ r
record_wider = read_wider

-- numbers that the writer took: the reader gives them back, of the same release
pub write_read : (release : Release) (ns out : List ℕ) (n : ℕ) → answer_in (write_result release ns) out ≡ Done n → read_result release (take n (left_in (write_result release ns) out)) ≡ gives ns
write_read = written_back

-- bytes that the reader took: the writer gives them back
pub read_write : (release : Release) (xs : List ℕ) → Bytes xs → (out : List ℕ) (n : ℕ) → answer_in (read_result release xs) out ≡ Done n → write_result release (take n (left_in (read_result release xs) out)) ≡ gives xs
read_write release xs v out n e = read_back release xs out n v e
