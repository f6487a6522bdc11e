-- The one entry of the file that frames become: rules 5 and 10, and the record that it reads back as. Assumes nothing.
use Prim.Native.Nat.{ℕ, ◌<◌}
use mathlib.Core.Path.{◌≡◌, refl}
use mathlib.Core.Bool.{true}
use mathlib.Core.List.{List, [], ◌∷◌, ◌++◌}
use mathlib.Core.Logic.{inl, inr}
use lib.ListN.{drop}
use Rattle.wire.specs.Tests.{if_eq, if_le}
use Rattle.wire.specs.Clauses.{is_eq, is_le, is_lt, every, either}
use Rattle.wire.specs.Numbers.{bytes_on, bytes, word}
use Rattle.wire.proofs.Clauses.{is_lt_lem}
use Rattle.codes.specs.Codes.{SOUN}
use Rattle.boxes.specs.Box.{header, write}
use Rattle.boxes.specs.Boxes.{FRONT, form_of, whole, front_box, boxes, total, after}
use Rattle.boxes.specs.Seek.{meant, count, all_plain}
use Rattle.release.specs.declared.Release.TheVariants.{Release6}
use Rattle.entry_heads.specs.Kinds.{kind_of, code_of, handler_of}
use Rattle.entry_heads.specs.Heads.{box_header, common_head, audio_head}
use Rattle.entry_rules.specs.Decoders.{modes_rule, period_rule, frames_rule}
use Rattle.entry_rules.specs.Entries.{in_track, handler_rule, scale_rule, track_rule, entry_rule}
use Rattle.entry_rules.proofs.Speech.{Spoken, speech_is}
use Rattle.std.specs.Prelude.{Some}
use Rattle.entry_records.specs.declared.field.Record.TheVariants.{Speech}
use Rattle.entry_records.specs.Fields.{amr_rule}
use Rattle.entry_records.specs.Texts.{amr_text}
use Rattle.entry_records.specs.Records.{read_of}
use Rattle.entry_records.proofs.Speaking.{amr_at}
use Rattle.entry_records.proofs.Reading.{written_reads}
use Rattle.frames.specs.declared.codec.Codec.{Codec}
use Rattle.frames.specs.declared.codec.Codec.TheVariants.{Amr, Wideband}
use Rattle.rule.specs.Rule.{all_list}
use Rattle.rule_lists.specs.Five.{list_form}
use Rattle.rule_entries.specs.Ten.{entries_fine}
use Rattle.from_amr.specs.Fields.{fields}
use Rattle.from_amr.specs.Boxes.{kind_by, scale_by, entry_by, stsd, dref}

-- ---- the list

abbrev pub entry_text : Codec → ℕ → List ℕ
entry_text k m = amr_text (entry_by k m)

pub listed_stsd : (k : Codec) (m : ℕ) → list_form (stsd k m) ≡ true
unfolding list_form every is_le is_eq word if_le all_plain boxes after total form_of whole count meant if_eq
    stsd fields amr_text audio_head common_head box_header code_of bytes bytes_on
listed_stsd Amr m = refl
listed_stsd Wideband m = refl

pub listed_dref : list_form dref ≡ true
unfolding list_form every is_le is_eq word if_le all_plain boxes after total form_of whole count meant if_eq dref fields write header bytes bytes_on
listed_dref = refl

-- it is one entry, whole
pub one_entry_lem : (k : Codec) (m : ℕ) → boxes (drop FRONT (stsd k m)) ≡ front_box (entry_text k m) ∷ []
unfolding word if_le boxes form_of whole if_eq stsd fields amr_text audio_head common_head box_header code_of bytes bytes_on
one_entry_lem Amr m = refl
one_entry_lem Wideband m = refl

pub entry_bytes : (k : Codec) (m : ℕ) → header (front_box (entry_text k m)) ++ (front_box (entry_text k m)).body ≡ entry_text k m
unfolding word if_le header form_of if_eq amr_text audio_head common_head box_header code_of bytes bytes_on
entry_bytes Amr m = refl
entry_bytes Wideband m = refl

-- ---- its rule

-- modes that the codec has
pub record OwnModes (k : Codec) (m : ℕ) : Type 0 where
  pub fits : m < 65536
  pub own : modes_rule (kind_by k) m ≡ true

spoken : (k : Codec) → Spoken (kind_by k)
spoken Amr = inl refl
spoken Wideband = inr refl

module _ (m : ℕ) where
  fields_rule : (k : Codec) → OwnModes k m → amr_rule Release6 (entry_by k m) ≡ true
  unfolding amr_rule frames_rule period_rule every either is_eq is_lt is_le
  fields_rule Amr f = rw (is_lt_lem m 65536 f.fits, f.own)
  fields_rule Wideband f = rw (is_lt_lem m 65536 f.fits, f.own)

  around : (k : Codec) → track_rule (scale_by k) SOUN 1 (kind_by k) (entry_text k m) ≡ true
  unfolding track_rule handler_rule scale_rule handler_of every is_le is_eq if_eq word if_le amr_text audio_head common_head box_header code_of bytes bytes_on
  around Amr = refl
  around Wideband = refl

  kind_is : (k : Codec) → kind_of (word 4 (entry_text k m) 4) ≡ kind_by k
  unfolding kind_of if_eq word if_le amr_text audio_head common_head box_header code_of bytes bytes_on
  kind_is Amr = refl
  kind_is Wideband = refl

  module _ (k : Codec) (f : OwnModes k m) where
    pub entry_rule_lem : entry_rule (in_track (scale_by k) SOUN 1) Release6 (entry_text k m) ≡ true
    unfolding entry_rule
    entry_rule_lem =
        rw (kind_is k)
        (speech_is (kind_by k) Release6 (entry_text k m) (spoken k) (in_track (scale_by k) SOUN 1)
        (amr_at Release6 (entry_by k m) (spoken k) (fields_rule k f)) (around k))

    pub entries_fine_lem : entries_fine (in_track (scale_by k) SOUN 1) Release6 (drop FRONT (stsd k m)) ≡ true
    unfolding entries_fine all_list
    entries_fine_lem = rw (one_entry_lem k m, entry_bytes k m, entry_rule_lem)

    -- it reads back as the record with these modes
    pub entry_reads : read_of Release6 (entry_text k m) ≡ Some (Speech (entry_by k m))
    entry_reads = written_reads Release6 (Some (Speech (entry_by k m))) (fields_rule k f)
