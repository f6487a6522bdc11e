-- Rule 10: a sample entry, in the words of the scope document.
use Rattle.std.specs.Prelude.{ℕ, ◌+◌, Bool, true, Option, Some, None, List, [], ◌∷◌, ◌++◌, length, take, drop}
use Rattle.wire.specs.Tests.{if_eq}
use Rattle.wire.specs.Clauses.{is_eq, is_le, every}
use Rattle.wire.specs.Numbers.{bytes, word}
use Rattle.codes.specs.Codes.{ESDS, AVCC, SOUN}
use Rattle.boxes.specs.Boxes.{boxes}
use Rattle.boxes.specs.Seek.{count, plain_tiles}
use Rattle.release.specs.declared.Release.{Release}
use Rattle.entry_heads.specs.Kinds.{OtherKind, Mp4vKind, Mp4aKind, Avc1Kind, kind_of, handler_of}
use Rattle.entry_heads.specs.Heads.{head_size, head_rule}
use Rattle.entry_rules.specs.declared.entry.Around.{Around}
use Rattle.entry_rules.specs.Decoders.{box_rule, record_rule}

-- ---- what a track says of its entries

-- "handler soun", "handler vide", or "any handler"
unfoldable pub handler_rule : ℕ → ℕ → Bool
handler_rule kind handler = if_eq (handler_of kind) 0 true (is_eq (handler_of kind) handler)

-- "TimeScale equal to that of mdhd", of an audio kind
unfoldable pub scale_rule : ℕ → ℕ → List ℕ → Bool
scale_rule kind scale xs = if_eq (handler_of kind) SOUN (is_eq (word 2 xs 32) scale) true

-- "a data reference index, 1 to the dref count"; and these two
unfoldable pub track_rule : ℕ → ℕ → ℕ → ℕ → List ℕ → Bool
track_rule scale handler references kind xs =
    every (is_le 1 (word 2 xs 14) ∷ is_le (word 2 xs 14) references ∷ handler_rule kind handler ∷ scale_rule kind scale xs ∷ [])

-- what a track with a time scale, a handler and a count of data references says
abbrev pub in_track : ℕ → ℕ → ℕ → Option Around
in_track scale handler references = Some (record { scale = scale; handler = handler; references = references })

-- an entry alone, in a sheet or as a record, is judged "apart from TimeScale, data reference and handler"
abbrev pub around_rule : Option Around → ℕ → List ℕ → Bool
around_rule (Some track) kind xs = track_rule track.scale track.handler track.references kind xs
around_rule None kind xs = true

-- ---- what follows the head

-- "exactly one esds and nothing after it, payload at least 4, first four bytes 0, the rest opaque"
unfoldable pub esds_rule : List ℕ → Bool
esds_rule xs = every (box_rule ESDS xs ∷ is_le 12 (length xs) ∷ is_eq (word 4 xs 8) 0 ∷ [])

-- "boxes tile the rest, exactly one is avcC, all opaque"; inside an entry headers are plain
unfoldable pub avc_rule : List ℕ → Bool
avc_rule xs = every (plain_tiles xs ∷ is_eq (count AVCC (boxes xs)) 1 ∷ [])

-- by the kind; after another code's head the "rest [is] opaque"
unfoldable pub inside_rule : ℕ → Release → List ℕ → Bool
inside_rule kind release xs =
    if_eq kind OtherKind true
    (if_eq kind Mp4vKind (esds_rule xs) (if_eq kind Mp4aKind (esds_rule xs) (if_eq kind Avc1Kind (avc_rule xs) (record_rule kind release xs))))

-- ---- the whole

-- the size field is the length, the head that of the kind, and so is what follows it
unfoldable pub rule_as : ℕ → Option Around → Release → List ℕ → Bool
rule_as kind around release xs =
    every
    (is_eq (word 4 xs 0) (length xs)
    ∷ head_rule kind xs
    ∷ around_rule around kind xs
    ∷ inside_rule kind release (drop (head_size kind) xs)
    ∷ [])

unfoldable pub entry_rule : Option Around → Release → List ℕ → Bool
entry_rule around release xs = rule_as (kind_of (word 4 xs 4)) around release xs

-- ---- another decoder record

-- the entry with other bytes behind its head: its size follows
unfoldable pub behind_head : ℕ → List ℕ → List ℕ → List ℕ
behind_head head xs ys = bytes 4 (head + length ys) ++ drop 4 (take head xs) ++ ys
