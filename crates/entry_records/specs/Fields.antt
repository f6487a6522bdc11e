-- The fields of a record, read from where they stand in an entry, and the rule that they meet.
use Rattle.std.specs.Prelude.{ℕ, Bool, false, Option, Some, None, List, [], ◌∷◌, length}
use Rattle.wire.specs.Tests.{if_eq}
use Rattle.wire.specs.Clauses.{is_eq, is_lt, every, either}
use Rattle.wire.specs.Numbers.{word}
use Rattle.release.specs.declared.Release.{Release}
use Rattle.entry_heads.specs.Kinds.{SamrKind, SawbKind, S263Kind}
use Rattle.entry_rules.specs.Decoders.{frames_rule}
use Rattle.entry_records.specs.declared.field.Amr.{Amr}
use Rattle.entry_records.specs.declared.field.Rates.{Rates}
use Rattle.entry_records.specs.declared.field.H263.{H263}
use Rattle.entry_records.specs.declared.field.Record.{Record}
use Rattle.entry_records.specs.declared.field.Record.TheVariants.{Speech, Picture}

-- ---- where they stand

abbrev pub amr_in : ℕ → List ℕ → Amr
amr_in kind xs =
    record {
      kind = kind;
      reference = word 2 xs 14;
      scale = word 2 xs 32;
      vendor = word 4 xs 44;
      version = word 1 xs 48;
      modes = word 2 xs 49;
      period = word 1 xs 51;
      frames = word 1 xs 52;
    }

-- given is 1 where a `bitr` follows; where none does, both rates are 0
abbrev pub rates_in : List ℕ → Rates
rates_in xs = record { given = if_eq (length xs) 117 1 0; average = word 4 xs 109; maximum = word 4 xs 113 }

abbrev pub h263_in : List ℕ → H263
h263_in xs =
    record {
      reference = word 2 xs 14;
      width = word 2 xs 32;
      height = word 2 xs 34;
      vendor = word 4 xs 94;
      version = word 1 xs 98;
      level = word 1 xs 99;
      profile = word 1 xs 100;
      rates = rates_in xs;
    }

-- the record of an entry of a kind: the other kinds have none
unfoldable pub record_in : ℕ → List ℕ → Option Record
record_in kind xs =
    if_eq kind SamrKind (Some (Speech (amr_in kind xs)))
    (if_eq kind SawbKind (Some (Speech (amr_in kind xs))) (if_eq kind S263Kind (Some (Picture (h263_in xs))) None))

-- ---- their rule: every number fits its place, and the decoder record's own rule holds

-- a `samr` or a `sawb`
unfoldable pub amr_rule : Release → Amr → Bool
amr_rule release f =
    every
    (either (is_eq f.kind SamrKind ∷ is_eq f.kind SawbKind ∷ [])
    ∷ is_lt f.reference 65536
    ∷ is_lt f.scale 65536
    ∷ is_lt f.vendor 4294967296
    ∷ is_lt f.version 256
    ∷ is_lt f.modes 65536
    ∷ is_lt f.period 256
    ∷ is_lt f.frames 256
    ∷ frames_rule f.kind release f.modes f.period f.frames
    ∷ [])

-- the rates of a `bitr` fit their places; without one they are 0
unfoldable pub rates_rule : Rates → Bool
rates_rule r =
    either
    (every (is_eq r.given 1 ∷ is_lt r.average 4294967296 ∷ is_lt r.maximum 4294967296 ∷ [])
    ∷ every (is_eq r.given 0 ∷ is_eq r.average 0 ∷ is_eq r.maximum 0 ∷ [])
    ∷ [])

-- an `s263`
unfoldable pub h263_rule : H263 → Bool
h263_rule f =
    every
    (is_lt f.reference 65536
    ∷ is_lt f.width 65536
    ∷ is_lt f.height 65536
    ∷ is_lt f.vendor 4294967296
    ∷ is_lt f.version 256
    ∷ is_lt f.level 256
    ∷ is_lt f.profile 256
    ∷ rates_rule f.rates
    ∷ [])

-- what is no record breaks it
abbrev pub fields_rule : Release → Option Record → Bool
fields_rule release (Some (Speech f)) = amr_rule release f
fields_rule release (Some (Picture f)) = h263_rule f
fields_rule release None = false
