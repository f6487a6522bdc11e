-- "Kinds: 0 other, 1 mp4v, 2 mp4a, 3 samr, 4 sawb, 5 s263, 6 avc1."
use Rattle.std.specs.Prelude.{ℕ}
use Rattle.wire.specs.Tests.{if_eq}
use Rattle.codes.specs.Codes.{MP4V, MP4A, SAMR, SAWB, S263, AVC1, SOUN, VIDE}

abbrev pub OtherKind : ℕ
OtherKind = 0

abbrev pub Mp4vKind : ℕ
Mp4vKind = 1

abbrev pub Mp4aKind : ℕ
Mp4aKind = 2

abbrev pub SamrKind : ℕ
SamrKind = 3

abbrev pub SawbKind : ℕ
SawbKind = 4

abbrev pub S263Kind : ℕ
S263Kind = 5

abbrev pub Avc1Kind : ℕ
Avc1Kind = 6

-- the kind of a code
unfoldable pub kind_of : ℕ → ℕ
kind_of code =
    if_eq code MP4V Mp4vKind
    (if_eq code MP4A Mp4aKind
    (if_eq code SAMR SamrKind
    (if_eq code SAWB SawbKind
    (if_eq code S263 S263Kind
    (if_eq code AVC1 Avc1Kind OtherKind)))))

-- the code of a kind, 0 where it has none of its own
unfoldable pub code_of : ℕ → ℕ
code_of kind =
    if_eq kind Mp4vKind MP4V
    (if_eq kind Mp4aKind MP4A
    (if_eq kind SamrKind SAMR
    (if_eq kind SawbKind SAWB
    (if_eq kind S263Kind S263
    (if_eq kind Avc1Kind AVC1 0)))))

-- "Audio (mp4a, samr, sawb; handler soun)", "Visual (mp4v, s263, avc1; handler vide)", and 0 for "any other code: .. any handler"
unfoldable pub handler_of : ℕ → ℕ
handler_of kind =
    if_eq kind Mp4vKind VIDE
    (if_eq kind Mp4aKind SOUN
    (if_eq kind SamrKind SOUN
    (if_eq kind SawbKind SOUN
    (if_eq kind S263Kind VIDE
    (if_eq kind Avc1Kind VIDE 0)))))
