-- Examples, by computation: recordings that are saved, with their reports, and what is refused. Assumes nothing.
use Prim.Native.Nat.{ℕ}
use mathlib.Core.Path.{◌≡◌, refl}
use mathlib.Core.List.{List, [], ◌∷◌, ◌++◌}
use Rattle.wire.specs.Tests.{if_eq, if_le, if_lt}
use Rattle.wire.specs.Clauses.{is_eq, is_le, is_lt, every, either}
use Rattle.wire.specs.Numbers.{bytes, bytes_on, word}
use Rattle.wire.specs.Sums.{sum_to}
use Rattle.wire.specs.Text.{text}
use Rattle.boxes.specs.Box.{header, write}
use Rattle.entry_heads.specs.Heads.{audio_head, box_header, common_head}
use Rattle.entry_heads.specs.Kinds.{code_of}
use Rattle.entry_records.specs.Texts.{amr_text}
use Rattle.frames.specs.declared.codec.Codec.TheVariants.{Amr, Wideband}
use Rattle.frames.specs.Codecs.{data_bytes}
use Rattle.frames.specs.Frames.{type_of, frame_size, good, frames_to, joined}
use Rattle.frames.specs.Modes.{seen, type_bit, mode_bit, mode_set}
use Rattle.rule.specs.Results.{asked, answer_in}
use Rattle.rule.specs.Results.ToWrite.{refuses}
use Rattle.from_amr.specs.Fields.{fields}
use Rattle.from_amr.specs.Boxes.{ftyp, mvhd, tkhd, mdhd, hdlr, smhd, dref, stsd, one_for, sizes_of, stsz}
use Rattle.from_amr.specs.File.{start, file_of}
use Rattle.salvage.specs.Unfinished.{endless, unfinished}
use Rattle.salvage.specs.Salvage.{payload_of, kept_frames, dropped, report_of, salvage_result}
use Rattle.rule.specs.Answers.{Done}

-- an empty `ftyp`, an `mdat` with a size field, and a payload
abbrev died : ℕ → List ℕ → List ℕ
died size payload = bytes 4 8 ++ text "ftyp" ++ bytes 4 size ++ text "mdat" ++ payload

-- one frame of type 15, and a byte that is none
saved : answer_in (salvage_result Amr (died 0 (0x7C ∷ 0x04 ∷ [])) 4) (bytes 600 0) ≡ Done 555
unfolding salvage_result unfinished endless every either is_eq is_le is_lt if_eq if_le if_lt word bytes bytes_on payload_of kept_frames dropped
    frames_to joined good type_of frame_size data_bytes asked answer_in file_of start write header ftyp mvhd tkhd mdhd hdlr smhd dref stsd stsz one_for sizes_of fields
    amr_text audio_head common_head box_header code_of mode_set mode_bit type_bit seen sum_to
saved = refl

-- the byte is dropped at place 17; of an `mdat` past the end by one nothing is, and the file's length is told
reported : (report_of Amr (died 0 (0x7C ∷ 0x04 ∷ [])) ≡ 0 ∷ 1 ∷ 1 ∷ 17 ∷ []) × (report_of Wideband (died 11 (0x7C ∷ 0x70 ∷ [])) ≡ 11 ∷ 2 ∷ 0 ∷ 18 ∷ [])
unfolding every is_eq is_le is_lt if_eq if_le if_lt word bytes bytes_on payload_of kept_frames dropped frames_to joined good type_of frame_size data_bytes
reported = (refl, refl)

-- too short; an `mdat` that ends exactly; a `free` between; no payload; a bad frame first
refused : (salvage_result Amr (bytes 7 0) 4 ≡ refuses 1 0)
    × (salvage_result Amr (died 9 (0x7C ∷ [])) 4 ≡ refuses 60 0)
    × (salvage_result Amr (bytes 4 8 ++ text "ftyp" ++ bytes 4 8 ++ text "free" ++ bytes 4 0 ++ text "mdat" ++ 0x7C ∷ []) 4 ≡ refuses 60 0)
    × (salvage_result Amr (died 0 []) 4 ≡ refuses 61 0)
    × (salvage_result Amr (died 0 (0x04 ∷ 0x7C ∷ [])) 4 ≡ refuses 61 0)
unfolding salvage_result unfinished endless asked every either is_eq is_le is_lt if_eq if_le if_lt word bytes bytes_on payload_of kept_frames frames_to good type_of
    frame_size data_bytes
refused = (refl, refl, refl, refl, refl)
