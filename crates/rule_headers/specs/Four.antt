-- Rule 4, with places and without.
use Rattle.std.specs.Prelude.{ℕ, Bool, true, List}
use Rattle.wire.specs.Tests.{if_eq}
use Rattle.codes.specs.Codes.{MOOV, TRAK}
use Rattle.boxes.specs.Boxes.{boxes}
use Rattle.boxes.specs.Seek.{count}
use Rattle.rule.specs.Verdict.{unless, Verdict, Fine}
use Rattle.rule.specs.Judge.{Judge}
use Rattle.rule.specs.Rule.{Rule}
use Rattle.rule_headers.specs.Forms.{form}
use Rattle.rule_headers.specs.Identities.{fresh_to, different}

-- the IDs are asked of the `moov`, which holds them all
unfoldable pub tracks_in : ℕ → List ℕ → ℕ → Verdict
tracks_in k xs p = if_eq k MOOV (fresh_to (boxes xs) p (count TRAK (boxes xs))) Fine

unfoldable pub tracks_fine : ℕ → List ℕ → Bool
tracks_fine k xs = if_eq k MOOV (different (boxes xs)) true

abbrev pub four : Judge
four = record { leaf = λ k c b p q. unless (form k c b) p; node = λ k xs home p. tracks_in k xs p; end = λ xs p. Fine }

abbrev pub four_rule : Rule
four_rule = record { leaf = form; node = tracks_fine; end = λ xs. true }
