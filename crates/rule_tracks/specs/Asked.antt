-- How code asks rules 7 and 8: "rules are read on the assumption that lower ones hold". Rule 7 is read where the tables have the lengths
-- of rule 6, and rule 8 where they agree too; elsewhere the answer is that nothing is broken.
use Rattle.std.specs.Prelude.{ℕ, ◌+◌, Bool, true, List, [], ◌∷◌}
use Rattle.wire.specs.Tests.{pick, if_eq}
use Rattle.wire.specs.Clauses.{every}
use Rattle.codes.specs.Codes.{STBL, STTS, STSC, STSZ, STCO}
use Rattle.boxes.specs.Box.{Box}
use Rattle.boxes.specs.Boxes.{boxes}
use Rattle.boxes.specs.Seek.{find, place_in}
use Rattle.sample_tables.specs.Tables.{table_form}
use Rattle.sample_tables.specs.Sizes.{sizes_form}
use Rattle.rule.specs.Verdict.{unless, Verdict, Fine}
use Rattle.rule.specs.Judge.{Judge}
use Rattle.rule.specs.Rule.{placed}
use Rattle.rule_tracks.specs.Seven.{seven_holds}
use Rattle.rule_tracks.specs.Eight.{eight_holds}

-- rule 6 of the tables that the boxes of an `stbl` have first
unfoldable pub six_holds : List Box → Bool
six_holds l = every (table_form 8 (find STTS l) ∷ table_form 12 (find STSC l) ∷ sizes_form (find STSZ l) ∷ table_form 4 (find STCO l) ∷ [])

unfoldable pub seven_asked : List Box → Bool
seven_asked l = pick (six_holds l) (seven_holds l) true

unfoldable pub eight_asked : List Box → List Box → Bool
eight_asked l m = pick (six_holds m) (pick (seven_holds m) (eight_holds l m) true) true

-- of a container of kind k
unfoldable pub seven_asked_in : ℕ → List ℕ → Bool
seven_asked_in k xs = if_eq k STBL (seven_asked (boxes xs)) true

unfoldable pub eight_asked_at : List Box → ℕ → List ℕ → ℕ → Verdict
eight_asked_at l k xs p = if_eq k STBL (unless (eight_asked l (boxes xs)) (p + place_in STCO 0 (boxes xs))) Fine

abbrev pub asked_seven : Judge
asked_seven = placed (record { leaf = λ k c b. true; node = seven_asked_in; end = λ xs. true })

abbrev pub asked_eight : List Box → Judge
asked_eight l = record { leaf = λ k c b p q. Fine; node = λ k xs home p. eight_asked_at l k xs p; end = λ xs p. Fine }
