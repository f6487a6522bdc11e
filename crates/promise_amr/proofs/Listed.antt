-- Rules 5 and 10 of the file that frames become. Assumes nothing.
use Prim.Native.Nat.{ℕ}
use mathlib.Core.Path.{◌≡◌, refl}
use mathlib.Core.List.{List}
use Rattle.wire.specs.Tests.{if_eq, if_le}
use Rattle.wire.specs.Clauses.{is_le, every}
use Rattle.wire.specs.Numbers.{bytes_on, bytes, word}
use Rattle.codes.specs.Codes.{STSD}
use Rattle.boxes.specs.Box.{write}
use Rattle.boxes.specs.Seek.{meant, nth}
use Rattle.movie.specs.Movie.{sample_table}
use Rattle.movie.specs.Stsds.{stsds_from}
use Rattle.movie.specs.Ways.{to_stsd, follow}
use Rattle.release.specs.declared.Release.TheVariants.{Release6}
use Rattle.entry_heads.specs.Heads.{box_header, common_head, audio_head}
use Rattle.entry_heads.specs.Kinds.{code_of}
use Rattle.entry_records.specs.Texts.{amr_text}
use Rattle.frames.specs.declared.codec.Codec.{Codec}
use Rattle.frames.specs.declared.codec.Codec.TheVariants.{Amr, Wideband}
use Rattle.frames.specs.Modes.{mode_set}
use Rattle.rule_lists.specs.Five.{list_form_in, counted_in, five_rule}
use Rattle.rule_entries.specs.Ten.{around_of, stsds_fine, ten_in, ten_rule}
use Rattle.judge.specs.Acceptance.{Holds}
use Rattle.from_amr.specs.Fields.{fields}
use Rattle.from_amr.specs.Boxes.{stsd}
use Rattle.from_amr.specs.File.{trak_boxes, start, file_of}
use Rattle.promise_amr.proofs.Reading.{Reads}
use Rattle.promise_amr.proofs.Ruled.{holds}
use Rattle.promise_amr.proofs.Found.{handler_is, scale_is, references_is, table_is}
use Rattle.promise_amr.proofs.Described.{OwnModes, listed_stsd, listed_dref, entries_fine_lem}

pub one_description : (k : Codec) (m : ℕ) → word 4 (stsd k m) 4 ≡ 1
unfolding stsd fields amr_text audio_head common_head box_header code_of bytes bytes_on word if_le if_eq
one_description Amr m = refl
one_description Wideband m = refl

module _ (k : Codec) (l : List (List ℕ)) (b : Reads k l) where
  pub stsd_there : follow to_stsd (write (trak_boxes k l (start k l))) ≡ stsd k (mode_set l)
  unfolding sample_table nth meant if_eq
  stsd_there = table_is k l b STSD

  pub five : Holds five_rule (file_of k l)
  unfolding every list_form_in counted_in stsds_from if_eq is_le
  five =
      holds k l b five_rule (rw (b.moov.list, stsd_there, one_description k (mode_set l))) (rw (listed_dref, listed_stsd k (mode_set l))) refl

  pub ten : OwnModes k (mode_set l) → Holds (ten_rule Release6) (file_of k l)
  unfolding every ten_in stsds_fine stsds_from around_of if_eq
  ten m =
      holds k l b (ten_rule Release6)
      (rw (b.moov.list, stsd_there, handler_is k l b, scale_is k l b, references_is k l b, entries_fine_lem (mode_set l) k m)) refl refl
