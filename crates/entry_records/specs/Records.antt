-- The record reader and writer.
use Rattle.std.specs.Prelude.{ℕ, Option, Some, None, Result, Ok, Err, List, [], ◌∷◌, ◌++◌, length, drop}
use Rattle.wire.specs.Tests.{pick, if_lt}
use Rattle.wire.specs.Numbers.{word}
use Rattle.release.specs.declared.Release.{Release}
use Rattle.entry_heads.specs.Kinds.{S263Kind, kind_of}
use Rattle.entry_rules.specs.Entries.{entry_rule}
use Rattle.entry_records.specs.declared.field.Record.{Record}
use Rattle.entry_records.specs.declared.field.Record.TheVariants.{Speech, Picture}
use Rattle.entry_records.specs.declared.record.WriteError.{WriteError}
use Rattle.entry_records.specs.declared.record.WriteError.TheVariants.{BadFields, TooShort}
use Rattle.entry_records.specs.Fields.{record_in, fields_rule}
use Rattle.entry_records.specs.Texts.{text_of}

-- ---- the answers, in the paper's numbers and values

-- the fields in order, kind first
abbrev pub fields_of : Option Record → List ℕ
fields_of (Some (Speech f)) = f.kind ∷ f.reference ∷ f.scale ∷ f.vendor ∷ f.version ∷ f.modes ∷ f.period ∷ f.frames ∷ []
fields_of (Some (Picture f)) =
    S263Kind ∷ f.reference ∷ f.width ∷ f.height ∷ f.vendor ∷ f.version ∷ f.level ∷ f.profile
    ∷ f.rates.given ∷ f.rates.average ∷ f.rates.maximum ∷ []
fields_of None = []

-- 0, or the refusal
abbrev pub read_number : Option Record → ℕ
read_number (Some r) = 0
read_number None = 21

-- 0 and the length written, or the refusal and place 0
abbrev pub written_number : Result ℕ WriteError → ℕ
written_number (Ok n) = 0
written_number (Err BadFields) = 21
written_number (Err TooShort) = 25

abbrev pub written_value : Result ℕ WriteError → ℕ
written_value (Ok n) = n
written_value (Err e) = 0

-- ---- the reader

-- the fields of an entry of one of the three kinds that meets its rule alone
unfoldable pub read_of : Release → List ℕ → Option Record
read_of release xs = pick (entry_rule None release xs) (record_in (kind_of (word 4 xs 4)) xs) None

-- ---- the writer

-- fields that break the rule are refused first, then a buffer that is too short
unfoldable pub written_of : Release → Option Record → List ℕ → Result ℕ WriteError
written_of release r out =
    pick (fields_rule release r) (if_lt (length out) (length (text_of r)) (Err TooShort) (Ok (length (text_of r)))) (Err BadFields)

-- a refusal writes nothing; else the entry stands at the front, and what lies past it stays
unfoldable pub out_of : Release → Option Record → List ℕ → List ℕ
out_of release r out =
    pick (fields_rule release r) (if_lt (length out) (length (text_of r)) out (text_of r ++ drop (length (text_of r)) out)) out
