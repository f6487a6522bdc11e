-- Rule 6: the sample tables of a track have their lengths.
use Rattle.std.specs.Prelude.{ℕ, Bool, true, List}
use Rattle.wire.specs.Tests.{if_eq}
use Rattle.codes.specs.Codes.{STBL, STTS, STSC, STSZ, STCO}
use Rattle.sample_tables.specs.Tables.{table_form}
use Rattle.sample_tables.specs.Sizes.{sizes_form}
use Rattle.rule.specs.Judge.{Judge}
use Rattle.rule.specs.Rule.{Rule, placed}

-- "Payload of stts is 8+8n, stsc 8+12n, stco 8+4n; stsz is 12, with 4n more when its common size is 0"
unfoldable pub table_fine : ℕ → List ℕ → Bool
table_fine c b = if_eq c STTS (table_form 8 b) (if_eq c STSC (table_form 12 b) (if_eq c STCO (table_form 4 b) (if_eq c STSZ (sizes_form b) true)))

unfoldable pub table_in : ℕ → ℕ → List ℕ → Bool
table_in k c b = if_eq k STBL (table_fine c b) true

abbrev pub six_rule : Rule
six_rule = record { leaf = table_in; node = λ k xs. true; end = λ xs. true }

abbrev pub six : Judge
six = placed six_rule
