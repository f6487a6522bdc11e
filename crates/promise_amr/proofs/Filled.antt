-- The file that frames become holds bytes, where the frames do. Assumes nothing.
use Prim.Native.Nat.{ℕ}
use native.Mathlib.Omega.{arith}
use mathlib.Core.List.{List, [], ◌∷◌, ◌++◌}
use lib.ListN.{length}
use Rattle.wire.specs.Numbers.{Bytes, bytes}
use Rattle.wire.proofs.Tests.{eq_any}
use Rattle.wire.proofs.Numbers.{bytes_append, bytes_bytes}
use Rattle.codes.specs.Codes.{DAMR}
use Rattle.boxes.specs.Box.{write}
use Rattle.boxes.proofs.Reading.All.{none, some}
use Rattle.boxes.proofs.Rewriting.{bytes_write}
use Rattle.entry_heads.specs.Heads.{box_header, common_head, audio_head}
use Rattle.entry_heads.specs.Kinds.{code_of}
use Rattle.entry_records.specs.declared.field.Amr.{Amr}
use Rattle.entry_records.specs.Texts.{amr_text}
use Rattle.frames.specs.declared.codec.Codec.{Codec}
use Rattle.frames.specs.Frames.{joined}
use Rattle.frames.specs.Modes.{mode_set}
use Rattle.from_amr.specs.Fields.{fields}
use Rattle.from_amr.specs.Boxes.{ftyp, mvhd, tkhd, mdhd, hdlr, smhd, dref, entry_by, stsd, one_for, sizes_of, stsz}
use Rattle.from_amr.specs.File.{stbl_boxes, minf_boxes, trak_boxes, moov_boxes, start, file_of}

bytes_none : Bytes []
bytes_none i = omega arith

-- ---- payloads

bytes_fields : (l : List ℕ) → Bytes (fields l)
unfolding fields
bytes_fields [] = bytes_none
bytes_fields (w ∷ []) = bytes_none
bytes_fields (w ∷ n ∷ l) = bytes_append (bytes w n) (fields l) (bytes_bytes w n) (bytes_fields l)

bytes_one : (n : ℕ) (item : List ℕ) → Bytes (one_for n item)
unfolding one_for
bytes_one n item = eq_any Bytes n 0 _ _ (bytes_fields (4 ∷ 0 ∷ 4 ∷ 0 ∷ [])) (bytes_fields (4 ∷ 0 ∷ 4 ∷ 1 ∷ item))

bytes_sizes : (l : List (List ℕ)) → Bytes (sizes_of l)
unfolding sizes_of
bytes_sizes [] = bytes_none
bytes_sizes (f ∷ l) = bytes_append (bytes 4 (length f)) (sizes_of l) (bytes_bytes 4 (length f)) (bytes_sizes l)

-- bytes, and a number behind them
record Full (p : List ℕ) : Type 0 where
  is : Bytes p

full : (w n : ℕ) → Full (bytes w n)
full w n = record { is = bytes_bytes w n }

also : {p : List ℕ} (w n : ℕ) → Full p → Full (p ++ bytes w n)
also {p} w n h = record { is = bytes_append p (bytes w n) h.is (bytes_bytes w n) }

full_header : (span code : ℕ) → Full (box_header span code)
unfolding box_header
full_header span code = also 4 code (full 4 span)

full_head : (span code reference scale : ℕ) → Full (audio_head span code reference scale)
unfolding audio_head common_head
full_head span code reference scale =
    also 2 0 (also 2 scale (also 4 0 (also 2 16 (also 2 2 (also 8 0 (also 2 reference (also 6 0 (full_header span code))))))))

full_damr : {p : List ℕ} → Full p → Full (p ++ box_header 17 DAMR)
full_damr {p} h = record { is = bytes_append p (box_header 17 DAMR) h.is (full_header 17 DAMR).is }

full_entry : (f : Amr) → Full (amr_text f)
unfolding amr_text
full_entry f =
    also 1 f.frames (also 1 f.period (also 2 f.modes (also 1 f.version (also 4 f.vendor
    (full_damr (full_head 53 (code_of f.kind) f.reference f.scale))))))

-- ---- boxes

module _ (k : Codec) (l : List (List ℕ)) (o : ℕ) where
  dref_filled : Bytes dref
  unfolding dref
  dref_filled = bytes_append (fields (4 ∷ 0 ∷ 4 ∷ 1 ∷ [])) _ (bytes_fields _) (bytes_write (some (bytes_fields (4 ∷ 1 ∷ [])) none))

  stsd_filled : Bytes (stsd k (mode_set l))
  unfolding stsd
  stsd_filled = bytes_append (fields (4 ∷ 0 ∷ 4 ∷ 1 ∷ [])) _ (bytes_fields _) (full_entry (entry_by k (mode_set l))).is

  stsz_filled : Bytes (stsz l)
  unfolding stsz
  stsz_filled = bytes_append (fields (4 ∷ 0 ∷ 4 ∷ 0 ∷ 4 ∷ length l ∷ [])) _ (bytes_fields _) (bytes_sizes l)

  stbl_filled : Bytes (write (stbl_boxes k l o))
  stbl_filled = bytes_write (some stsd_filled (some (bytes_one _ _) (some (bytes_one _ _) (some stsz_filled (some (bytes_one _ _) none)))))

  minf_filled : Bytes (write (minf_boxes k l o))
  unfolding smhd
  minf_filled = bytes_write (some (bytes_fields _) (some (bytes_write (some dref_filled none)) (some stbl_filled none)))

  trak_filled : Bytes (write (trak_boxes k l o))
  unfolding tkhd mdhd hdlr
  trak_filled = bytes_write (some (bytes_fields _) (some (bytes_write (some (bytes_fields _) (some (bytes_fields _) (some minf_filled none)))) none))

  moov_filled : Bytes (write (moov_boxes k l o))
  unfolding mvhd
  moov_filled = bytes_write (some (bytes_fields _) (some trak_filled none))

pub file_filled : (k : Codec) (l : List (List ℕ)) → Bytes (joined l) → Bytes (file_of k l)
unfolding file_of ftyp
file_filled k l v = bytes_write (some (bytes_fields _) (some (moov_filled k l (start k l)) (some v none)))
