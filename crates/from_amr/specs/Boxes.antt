-- The payloads of the file that frames become, by their fields: those that are fixed, and those that follow from codec and frames.
use Rattle.std.specs.Prelude.{ℕ, List, [], ◌∷◌, ◌++◌, length}
use Rattle.wire.specs.Tests.{if_eq}
use Rattle.wire.specs.Numbers.{bytes}
use Rattle.codes.specs.Codes.{URL, SOUN, GP6, ISOM}
use Rattle.boxes.specs.Box.{plain_box, write}
use Rattle.entry_heads.specs.Kinds.{SamrKind, SawbKind}
use Rattle.entry_records.specs.declared.field.Amr.{Amr as AmrFields}
use Rattle.entry_records.specs.Texts.{amr_text}
use Rattle.frames.specs.declared.codec.Codec.{Codec}
use Rattle.frames.specs.declared.codec.Codec.TheVariants.{Amr, Wideband}
use Rattle.from_amr.specs.Fields.{fields}

-- ---- by the codec

abbrev pub kind_by : Codec → ℕ
kind_by Amr = SamrKind
kind_by Wideband = SawbKind

-- "each sample lasting 160 ticks of 8000, or 320 of 16000"
abbrev pub scale_by : Codec → ℕ
scale_by Amr = 8000
scale_by Wideband = 16000

abbrev pub sample_ticks : Codec → ℕ
sample_ticks Amr = 160
sample_ticks Wideband = 320

-- ---- headers: "the movie scale is the track's, and all three durations are the track's ticks"

-- major brand, minor version, compatible brands
unfoldable pub ftyp : List ℕ
ftyp = fields (4 ∷ GP6 ∷ 4 ∷ 0 ∷ 4 ∷ GP6 ∷ 4 ∷ ISOM ∷ [])

-- version and flags, two times, scale, duration; rate, volume, reserved; the unit matrix; predefined, next track ID
unfoldable pub mvhd : (scale ticks : ℕ) → List ℕ
mvhd scale ticks =
    fields
    (4 ∷ 0 ∷ 8 ∷ 0 ∷ 4 ∷ scale ∷ 4 ∷ ticks
    ∷ 4 ∷ 0x00010000 ∷ 2 ∷ 0x0100 ∷ 10 ∷ 0
    ∷ 4 ∷ 0x00010000 ∷ 12 ∷ 0 ∷ 4 ∷ 0x00010000 ∷ 12 ∷ 0 ∷ 4 ∷ 0x40000000
    ∷ 24 ∷ 0 ∷ 4 ∷ 2 ∷ [])

-- version and flags, two times, track ID, reserved, duration; reserved, layer and group, volume, reserved; the unit matrix; width and height
unfoldable pub tkhd : (ticks : ℕ) → List ℕ
tkhd ticks =
    fields
    (4 ∷ 7 ∷ 8 ∷ 0 ∷ 4 ∷ 1 ∷ 4 ∷ 0 ∷ 4 ∷ ticks
    ∷ 8 ∷ 0 ∷ 4 ∷ 0 ∷ 2 ∷ 0x0100 ∷ 2 ∷ 0
    ∷ 4 ∷ 0x00010000 ∷ 12 ∷ 0 ∷ 4 ∷ 0x00010000 ∷ 12 ∷ 0 ∷ 4 ∷ 0x40000000
    ∷ 8 ∷ 0 ∷ [])

-- version and flags, two times, scale, duration, language, predefined
unfoldable pub mdhd : (scale ticks : ℕ) → List ℕ
mdhd scale ticks = fields (4 ∷ 0 ∷ 8 ∷ 0 ∷ 4 ∷ scale ∷ 4 ∷ ticks ∷ 2 ∷ 0x55C4 ∷ 2 ∷ 0 ∷ [])

-- version and flags, predefined, type, reserved, an empty name
unfoldable pub hdlr : List ℕ
hdlr = fields (4 ∷ 0 ∷ 4 ∷ 0 ∷ 4 ∷ SOUN ∷ 12 ∷ 0 ∷ 1 ∷ 0 ∷ [])

-- version and flags, balance, reserved
unfoldable pub smhd : List ℕ
smhd = fields (4 ∷ 0 ∷ 2 ∷ 0 ∷ 2 ∷ 0 ∷ [])

-- "one url with flags 1"
unfoldable pub dref : List ℕ
dref = fields (4 ∷ 0 ∷ 4 ∷ 1 ∷ []) ++ write (plain_box URL (fields (4 ∷ 1 ∷ [])) ∷ [])

-- ---- tables

-- the one entry: vendor, decoder version and period 0, one frame per sample
abbrev pub entry_by : Codec → ℕ → AmrFields
entry_by k modes =
    record { kind = kind_by k; reference = 1; scale = scale_by k; vendor = 0; version = 0; modes = modes; period = 0; frames = 1 }

unfoldable pub stsd : Codec → ℕ → List ℕ
stsd k modes = fields (4 ∷ 0 ∷ 4 ∷ 1 ∷ []) ++ amr_text (entry_by k modes)

-- a table of one item for n samples, and of none for no samples
unfoldable pub one_for : ℕ → List ℕ → List ℕ
one_for n item = if_eq n 0 (fields (4 ∷ 0 ∷ 4 ∷ 0 ∷ [])) (fields (4 ∷ 0 ∷ 4 ∷ 1 ∷ item))

-- one run of samples, of chunks, and one chunk
abbrev pub stts : Codec → ℕ → List ℕ
stts k n = one_for n (4 ∷ n ∷ 4 ∷ sample_ticks k ∷ [])

abbrev pub stsc : ℕ → List ℕ
stsc n = one_for n (4 ∷ 1 ∷ 4 ∷ n ∷ 4 ∷ 1 ∷ [])

abbrev pub stco : (n offset : ℕ) → List ℕ
stco n offset = one_for n (4 ∷ offset ∷ [])

-- the sizes of frames
unfoldable pub sizes_of : List (List ℕ) → List ℕ
sizes_of [] = []
sizes_of (f ∷ l) = bytes 4 (length f) ++ sizes_of l

-- "with its table always"
unfoldable pub stsz : List (List ℕ) → List ℕ
stsz l = fields (4 ∷ 0 ∷ 4 ∷ 0 ∷ 4 ∷ length l ∷ []) ++ sizes_of l
