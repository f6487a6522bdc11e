-- Rule 8: each chunk of a track lies inside the payload of one top-level `mdat`. Place: the `stco`.
use Rattle.std.specs.Prelude.{ℕ, ◌+◌, Bool, true, List}
use Rattle.wire.specs.Tests.{if_eq}
use Rattle.codes.specs.Codes.{STBL, STSC, STSZ, STCO}
use Rattle.boxes.specs.Box.{Box}
use Rattle.boxes.specs.Boxes.{boxes}
use Rattle.boxes.specs.Seek.{find, place_in}
use Rattle.mdat.specs.Rules.{chunks_lie}
use Rattle.rule.specs.Verdict.{unless, Verdict, Fine}
use Rattle.rule.specs.Judge.{Judge}
use Rattle.rule.specs.Rule.{Rule}

-- of the boxes m of an `stbl` in a file with the boxes l
unfoldable pub eight_holds : List Box → List Box → Bool
eight_holds l m = chunks_lie l (find STSC m) (find STSZ m) (find STCO m)

unfoldable pub eight_at : List Box → ℕ → List ℕ → ℕ → Verdict
eight_at l k xs p = if_eq k STBL (unless (eight_holds l (boxes xs)) (p + place_in STCO 0 (boxes xs))) Fine

unfoldable pub eight_in : List Box → ℕ → List ℕ → Bool
eight_in l k xs = if_eq k STBL (eight_holds l (boxes xs)) true

abbrev pub eight : List Box → Judge
eight l = record { leaf = λ k c b p q. Fine; node = λ k xs home p. eight_at l k xs p; end = λ xs p. Fine }

abbrev pub eight_rule : List Box → Rule
eight_rule l = record { leaf = λ k c b. true; node = eight_in l; end = λ xs. true }
