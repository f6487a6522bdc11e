-- Rule 7: the sample tables of a track agree. Place: the `stbl`.
use Rattle.std.specs.Prelude.{ℕ, Bool, true, List}
use Rattle.wire.specs.Tests.{if_eq}
use Rattle.wire.specs.Numbers.{word}
use Rattle.codes.specs.Codes.{STBL, STSD, STTS, STSC, STSZ, STCO}
use Rattle.boxes.specs.Box.{Box}
use Rattle.boxes.specs.Boxes.{boxes}
use Rattle.boxes.specs.Seek.{find}
use Rattle.sample_tables.specs.Rules.{tables_agree}
use Rattle.rule.specs.Judge.{Judge}
use Rattle.rule.specs.Rule.{Rule, placed}

-- the boxes l of an `stbl` have tables that agree; the entry count is that of the track's own `stsd`
unfoldable pub seven_holds : List Box → Bool
seven_holds l = tables_agree (find STTS l) (find STSC l) (find STSZ l) (find STCO l) (word 4 (find STSD l) 4)

unfoldable pub seven_in : ℕ → List ℕ → Bool
seven_in k xs = if_eq k STBL (seven_holds (boxes xs)) true

abbrev pub seven_rule : Rule
seven_rule = record { leaf = λ k c b. true; node = seven_in; end = λ xs. true }

abbrev pub seven : Judge
seven = placed seven_rule
