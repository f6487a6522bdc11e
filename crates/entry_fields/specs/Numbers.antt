-- The record reader and writer over lists of numbers: the fields of a record in order, kind first.
use Rattle.std.specs.Prelude.{ℕ, Bool, Option, Some, None, Err, is_some, List, [], ◌∷◌, length, get_or}
use Rattle.wire.specs.Tests.{if_eq}
use Rattle.release.specs.declared.Release.{Release}
use Rattle.entry_heads.specs.Kinds.{S263Kind}
use Rattle.entry_records.specs.declared.field.Amr.{Amr}
use Rattle.entry_records.specs.declared.field.Rates.{Rates}
use Rattle.entry_records.specs.declared.field.H263.{H263}
use Rattle.entry_records.specs.declared.field.Record.{Record}
use Rattle.entry_records.specs.declared.field.Record.TheVariants.{Speech, Picture}
use Rattle.entry_records.specs.declared.record.WriteError.TheVariants.{BadFields}
use Rattle.entry_records.specs.Fields.{fields_rule}
use Rattle.entry_records.specs.Texts.{text_of}
use Rattle.entry_records.specs.Records.{fields_of, read_number, written_number, read_of}
use Rattle.rule.specs.Results.{ToWrite, asked}
use Rattle.rule.specs.Results.ToWrite.{gives}

-- ---- the record of numbers

-- number i, from 0
abbrev pub at : List ℕ → ℕ → ℕ
at ns i = get_or ns i 0

-- of eight numbers
abbrev pub amr_of : List ℕ → Amr
amr_of ns =
    record {
      kind = at ns 0;
      reference = at ns 1;
      scale = at ns 2;
      vendor = at ns 3;
      version = at ns 4;
      modes = at ns 5;
      period = at ns 6;
      frames = at ns 7;
    }

-- of eleven, the first of them the kind of an `s263`
abbrev pub rates_of : List ℕ → Rates
rates_of ns = record { given = at ns 8; average = at ns 9; maximum = at ns 10 }

abbrev pub h263_of : List ℕ → H263
h263_of ns =
    record {
      reference = at ns 1;
      width = at ns 2;
      height = at ns 3;
      vendor = at ns 4;
      version = at ns 5;
      level = at ns 6;
      profile = at ns 7;
      rates = rates_of ns;
    }

-- any other count of numbers is that of no record
unfoldable pub record_of : List ℕ → Option Record
record_of ns = if_eq (length ns) 8 (Some (Speech (amr_of ns))) (if_eq (length ns) 11 (if_eq (at ns 0) S263Kind (Some (Picture (h263_of ns))) None) None)

-- ---- the two calls: each number is that of the answer behind it

abbrev pub is_record : Option Record → Bool
is_record r = is_some r

-- the fields of an entry of a release: 21, 25
unfoldable pub read_result : Release → List ℕ → ToWrite
read_result release xs = asked ((read_number None, is_record (read_of release xs)) ∷ []) (gives (fields_of (read_of release xs)))

-- the entry of fields, of a release: 21, 25
unfoldable pub write_result : Release → List ℕ → ToWrite
write_result release ns = asked ((written_number (Err BadFields), fields_rule release (record_of ns)) ∷ []) (gives (text_of (record_of ns)))
