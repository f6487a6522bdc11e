-- Examples, by computation: dumps that become files, and dumps that are refused. Assumes nothing.
use mathlib.Core.Path.{◌≡◌, refl}
use mathlib.Core.List.{[], ◌∷◌, ◌++◌}
use Rattle.wire.specs.Tests.{if_eq, if_le, if_lt}
use Rattle.wire.specs.Clauses.{is_eq, is_le, is_lt, every}
use Rattle.wire.specs.Numbers.{bytes, bytes_on}
use Rattle.wire.specs.Sums.{sum_to}
use Rattle.wire.specs.Text.{text}
use Rattle.boxes.specs.Box.{header, write}
use Rattle.entry_heads.specs.Heads.{audio_head, box_header, common_head}
use Rattle.entry_heads.specs.Kinds.{code_of}
use Rattle.entry_records.specs.Texts.{amr_text}
use Rattle.frames.specs.declared.codec.Codec.TheVariants.{Amr, Wideband}
use Rattle.frames.specs.Codecs.{data_bytes}
use Rattle.frames.specs.Frames.{type_of, frame_size, good, frames_to, frames, joined, rest}
use Rattle.frames.specs.Modes.{seen, type_bit, mode_bit, mode_set}
use Rattle.rule.specs.Results.{asked, answer_in}
use Rattle.rule.specs.Results.ToWrite.{refuses}
use Rattle.from_amr.specs.Fields.{fields}
use Rattle.from_amr.specs.Boxes.{ftyp, mvhd, tkhd, mdhd, hdlr, smhd, dref, stsd, one_for, sizes_of, stsz}
use Rattle.from_amr.specs.File.{start, file_of}
use Rattle.from_amr.specs.Dump.{magic, opens, without_magic, made_of, dump_of, from_amr}
use Rattle.rule.specs.Answers.{Done}

-- no frames; and two without data, of types 14 and 15
made : (answer_in (from_amr (magic Amr)) (bytes 600 0) ≡ Done 526) × (answer_in (from_amr (magic Wideband ++ 0x70 ∷ 0x7C ∷ [])) (bytes 600 0) ≡ Done 560)
unfolding from_amr opens dump_of without_magic frames_to frames rest joined good type_of frame_size data_bytes every is_eq is_le is_lt made_of asked
    answer_in if_eq if_le if_lt
    file_of start write header ftyp mvhd tkhd mdhd hdlr smhd dref stsd stsz one_for sizes_of fields bytes bytes_on amr_text audio_head common_head box_header code_of
    mode_set mode_bit type_bit seen sum_to
made = (refl, refl)

-- several channels; a padding bit in the second frame; a type that AMR doesn't have; a frame that is cut
refused : (from_amr (text "#!AMR_MC1.0\n") ≡ refuses 40 0)
    × (from_amr (magic Amr ++ 0x7C ∷ 0xFC ∷ []) ≡ refuses 41 7)
    × (from_amr (magic Amr ++ 0x70 ∷ []) ≡ refuses 41 6)
    × (from_amr (magic Wideband ++ 0x7C ∷ 0x04 ∷ 1 ∷ []) ≡ refuses 41 10)
unfolding from_amr opens dump_of without_magic frames_to frames rest joined good type_of frame_size data_bytes every is_eq is_le is_lt if_eq if_le if_lt
refused = (refl, refl, refl, refl)

-- type 15 sets bit 15, and 14 none
modes : mode_set (frames Wideband (0x70 ∷ 0x7C ∷ [])) ≡ 0x8000
unfolding frames_to frames good type_of frame_size data_bytes every is_eq is_le is_lt if_eq if_lt mode_set mode_bit type_bit seen sum_to
modes = refl
