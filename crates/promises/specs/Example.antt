-- A file as the paper's printed listing has it, with any one sample entry.
use Rattle.std.specs.Prelude.{ℕ, ◌+◌, List, [], ◌∷◌, ◌++◌, length}
use Rattle.wire.specs.Numbers.{bytes}
use Rattle.codes.specs.Codes.{FTYP, MOOV, MVHD, TRAK, TKHD, MDIA, MDHD, HDLR, MINF, SMHD, DINF, DREF, URL, STBL, STSD, STTS, STSC, STSZ, STCO, MDAT, MP4V, MP4A, SAMR, SAWB, S263, AVC1, DAMR, D263, BITR, ESDS, AVCC, VIDE, SOUN, TEXT, ISOM, GP6, coded}
use Rattle.boxes.specs.Box.{Box, plain_box, write}
use Rattle.entry_heads.specs.Heads.{audio_head, visual_head, common_head}
use Rattle.judge.specs.Judgement.{judged_number, judged}

abbrev pub zeros : ℕ → List ℕ
zeros n = bytes n 0

-- ---- the boxes, in the order of rule 3: one sample of 160 ticks at 8000, in one chunk at a place

abbrev pub stbl_boxes : List ℕ → ℕ → List Box
stbl_boxes entry place =
    plain_box STSD (bytes 8 1 ++ entry)
    ∷ plain_box STTS (bytes 8 1 ++ bytes 4 1 ++ bytes 4 160)
    ∷ plain_box STSC (bytes 8 1 ++ bytes 4 1 ++ bytes 4 1 ++ bytes 4 1)
    ∷ plain_box STSZ (bytes 8 0 ++ bytes 4 1 ++ bytes 4 1)
    ∷ plain_box STCO (bytes 8 1 ++ bytes 4 place)
    ∷ []

-- an `smhd` of 16 bytes opens `minf`
abbrev pub minf_boxes : List ℕ → ℕ → List Box
minf_boxes entry place =
    plain_box SMHD (zeros 8)
    ∷ plain_box DINF (write (plain_box DREF (bytes 8 1 ++ write (plain_box URL (bytes 4 1) ∷ [])) ∷ []))
    ∷ plain_box STBL (write (stbl_boxes entry place))
    ∷ []

-- an `hdlr` of 33 bytes
abbrev pub mdia_boxes : ℕ → List ℕ → ℕ → List Box
mdia_boxes handler entry place =
    plain_box MDHD (zeros 12 ++ bytes 4 8000 ++ zeros 8)
    ∷ plain_box HDLR (zeros 8 ++ bytes 4 handler ++ zeros 13)
    ∷ plain_box MINF (write (minf_boxes entry place))
    ∷ []

-- created at a time
abbrev pub moov_boxes : ℕ → List Box → List Box
moov_boxes time m =
    plain_box MVHD (zeros 4 ++ bytes 4 time ++ zeros 4 ++ bytes 4 8000 ++ zeros 84)
    ∷ plain_box TRAK (write (plain_box TKHD (zeros 12 ++ bytes 4 1 ++ zeros 68) ∷ plain_box MDIA (write m) ∷ []))
    ∷ []

-- compatible `3gp6`, `isom`
abbrev pub ftyp_box : Box
ftyp_box = plain_box FTYP (bytes 4 GP6 ++ zeros 4 ++ bytes 4 GP6 ++ bytes 4 ISOM)

abbrev pub moov_box : ℕ → ℕ → List ℕ → ℕ → Box
moov_box time handler entry place = plain_box MOOV (write (moov_boxes time (mdia_boxes handler entry place)))

abbrev pub mdat_box : Box
mdat_box = plain_box MDAT (60 ∷ [])

-- the payload of `mdat` starts 501 bytes and the entry into the file
abbrev pub file_at : ℕ → ℕ → List ℕ → List ℕ
file_at time handler entry = write (ftyp_box ∷ moov_box time handler entry (501 + length entry) ∷ mdat_box ∷ [])

abbrev pub file_of : ℕ → List ℕ → List ℕ
file_of handler entry = file_at 0 handler entry

-- ---- entries of each kind

abbrev pub speech : ℕ → List ℕ
speech code = audio_head 53 code 1 8000 ++ write (plain_box DAMR (bytes 4 0x5658595A ++ bytes 5 0x0081FF0001) ∷ [])

abbrev pub visual : ℕ → List Box → List ℕ
visual code l = visual_head (86 + length (write l)) code 1 176 144 (zeros 32) ++ write l

abbrev pub esds : Box
esds = plain_box ESDS (zeros 4)

abbrev pub kinds : List (List ℕ)
kinds =
    file_of SOUN (speech SAMR)
    ∷ file_of SOUN (speech SAWB)
    ∷ file_of SOUN (audio_head 48 MP4A 1 8000 ++ write (esds ∷ []))
    ∷ file_of VIDE (visual MP4V (esds ∷ []))
    ∷ file_of VIDE (visual S263 (plain_box D263 (zeros 7) ∷ []))
    ∷ file_of VIDE (visual S263 (plain_box D263 (zeros 7 ++ write (plain_box BITR (zeros 8) ∷ [])) ∷ []))
    ∷ file_of VIDE (visual AVC1 (plain_box AVCC [] ∷ []))
    ∷ file_of TEXT (common_head 16 (coded "tx3g") 1)
    ∷ []

-- the refusals that they get
abbrev pub numbers : List (List ℕ) → List ℕ
numbers [] = []
numbers (xs ∷ l) = judged_number (judged xs) ∷ numbers l
