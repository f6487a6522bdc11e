-- The 3GP file that frames become: "ftyp with 3gp6 and isom, moov, one mdat; one track, one frame per sample, one chunk if there are
-- frames", boxes in the order of rule 3, and an `smhd` opens `minf`.
use Rattle.std.specs.Prelude.{ℕ, ◌+◌, ◌*◌, ◌≡◌, List, [], ◌∷◌, length}
use Rattle.codes.specs.Codes.{FTYP, MOOV, MVHD, TRAK, TKHD, MDIA, MDHD, HDLR, MINF, SMHD, DINF, DREF, STBL, STSD, STTS, STSC, STSZ, STCO, MDAT}
use Rattle.boxes.specs.Box.{Box, plain_box, write}
use Rattle.boxes.specs.Boxes.{HEAD}
use Rattle.frames.specs.declared.codec.Codec.{Codec}
use Rattle.frames.specs.Frames.{joined}
use Rattle.frames.specs.Modes.{mode_set}
use Rattle.from_amr.specs.Boxes.{scale_by, sample_ticks, ftyp, mvhd, tkhd, mdhd, hdlr, smhd, dref, stsd, stts, stsc, stsz, stco}

-- the track's ticks
abbrev pub ticks_of : Codec → List (List ℕ) → ℕ
ticks_of k l = length l * sample_ticks k

-- the boxes of each container, of a file whose chunk is at an offset
abbrev pub stbl_boxes : Codec → List (List ℕ) → (offset : ℕ) → List Box
stbl_boxes k l offset =
    plain_box STSD (stsd k (mode_set l))
    ∷ plain_box STTS (stts k (length l))
    ∷ plain_box STSC (stsc (length l))
    ∷ plain_box STSZ (stsz l)
    ∷ plain_box STCO (stco (length l) offset)
    ∷ []

abbrev pub dinf_boxes : List Box
dinf_boxes = plain_box DREF dref ∷ []

abbrev pub minf_boxes : Codec → List (List ℕ) → (offset : ℕ) → List Box
minf_boxes k l offset = plain_box SMHD smhd ∷ plain_box DINF (write dinf_boxes) ∷ plain_box STBL (write (stbl_boxes k l offset)) ∷ []

abbrev pub mdia_boxes : Codec → List (List ℕ) → (offset : ℕ) → List Box
mdia_boxes k l offset = plain_box MDHD (mdhd (scale_by k) (ticks_of k l)) ∷ plain_box HDLR hdlr ∷ plain_box MINF (write (minf_boxes k l offset)) ∷ []

abbrev pub trak_boxes : Codec → List (List ℕ) → (offset : ℕ) → List Box
trak_boxes k l offset = plain_box TKHD (tkhd (ticks_of k l)) ∷ plain_box MDIA (write (mdia_boxes k l offset)) ∷ []

abbrev pub moov_boxes : Codec → List (List ℕ) → (offset : ℕ) → List Box
moov_boxes k l offset = plain_box MVHD (mvhd (scale_by k) (ticks_of k l)) ∷ plain_box TRAK (write (trak_boxes k l offset)) ∷ []

abbrev pub ftyp_box : Box
ftyp_box = plain_box FTYP ftyp

abbrev pub moov_box : Codec → List (List ℕ) → (offset : ℕ) → Box
moov_box k l offset = plain_box MOOV (write (moov_boxes k l offset))

-- where the payload of `mdat` starts: past all that stands before it, whose length is the same with any offset, and its header
unfoldable pub start : Codec → List (List ℕ) → ℕ
start k l = HEAD + length (write (ftyp_box ∷ moov_box k l 0 ∷ []))

-- the same for all frames of one number
pub record StartsAt (n r : ℕ) : Type 0 where
  pub is : (k : Codec) (l : List (List ℕ)) → length l ≡ n → r ≡ start k l

abbrev pub file_boxes : Codec → List (List ℕ) → List Box
file_boxes k l = ftyp_box ∷ moov_box k l (start k l) ∷ plain_box MDAT (joined l) ∷ []

unfoldable pub file_of : Codec → List (List ℕ) → List ℕ
file_of k l = write (file_boxes k l)
