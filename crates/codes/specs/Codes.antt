-- The four-byte codes of the format, as numbers.
use Rattle.std.specs.Prelude.{ℕ}
use Prim.Native.String.{String}
use Rattle.wire.specs.Numbers.{number_on}
use Rattle.wire.specs.Text.{text}

-- the number of a code
abbrev pub coded : String → ℕ
coded s = number_on 0 (text s)

-- ---- the boxes of rule 3, and `mdat`

abbrev pub FTYP : ℕ
FTYP = coded "ftyp"

abbrev pub MOOV : ℕ
MOOV = coded "moov"

abbrev pub MVHD : ℕ
MVHD = coded "mvhd"

abbrev pub TRAK : ℕ
TRAK = coded "trak"

abbrev pub TKHD : ℕ
TKHD = coded "tkhd"

abbrev pub MDIA : ℕ
MDIA = coded "mdia"

abbrev pub MDHD : ℕ
MDHD = coded "mdhd"

abbrev pub HDLR : ℕ
HDLR = coded "hdlr"

abbrev pub MINF : ℕ
MINF = coded "minf"

abbrev pub SMHD : ℕ
SMHD = coded "smhd"

abbrev pub DINF : ℕ
DINF = coded "dinf"

abbrev pub DREF : ℕ
DREF = coded "dref"

abbrev pub STBL : ℕ
STBL = coded "stbl"

abbrev pub STSD : ℕ
STSD = coded "stsd"

abbrev pub STTS : ℕ
STTS = coded "stts"

abbrev pub STSC : ℕ
STSC = coded "stsc"

abbrev pub STSZ : ℕ
STSZ = coded "stsz"

abbrev pub STCO : ℕ
STCO = coded "stco"

abbrev pub MDAT : ℕ
MDAT = coded "mdat"

-- ---- the one kind of data reference

abbrev pub URL : ℕ
URL = coded "url "

-- ---- the kinds of sample entry that have a rule of their own

abbrev pub MP4V : ℕ
MP4V = coded "mp4v"

abbrev pub MP4A : ℕ
MP4A = coded "mp4a"

abbrev pub SAMR : ℕ
SAMR = coded "samr"

abbrev pub SAWB : ℕ
SAWB = coded "sawb"

abbrev pub S263 : ℕ
S263 = coded "s263"

abbrev pub AVC1 : ℕ
AVC1 = coded "avc1"

-- ---- what stands in them

abbrev pub ESDS : ℕ
ESDS = coded "esds"

abbrev pub DAMR : ℕ
DAMR = coded "damr"

abbrev pub D263 : ℕ
D263 = coded "d263"

abbrev pub BITR : ℕ
BITR = coded "bitr"

abbrev pub AVCC : ℕ
AVCC = coded "avcC"

-- ---- handlers

abbrev pub VIDE : ℕ
VIDE = coded "vide"

abbrev pub SOUN : ℕ
SOUN = coded "soun"

abbrev pub TEXT : ℕ
TEXT = coded "text"

-- ---- brands

abbrev pub ISOM : ℕ
ISOM = coded "isom"

abbrev pub GP4 : ℕ
GP4 = coded "3gp4"

abbrev pub GP5 : ℕ
GP5 = coded "3gp5"

abbrev pub GP6 : ℕ
GP6 = coded "3gp6"

abbrev pub GR6 : ℕ
GR6 = coded "3gr6"

-- ---- user data

abbrev pub UDTA : ℕ
UDTA = coded "udta"

-- ---- boxes of files that no edit takes

abbrev pub MOOF : ℕ
MOOF = coded "moof"

abbrev pub MFRA : ℕ
MFRA = coded "mfra"

abbrev pub SIDX : ℕ
SIDX = coded "sidx"

abbrev pub META : ℕ
META = coded "meta"

abbrev pub CO64 : ℕ
CO64 = coded "co64"

abbrev pub SAIO : ℕ
SAIO = coded "saio"
