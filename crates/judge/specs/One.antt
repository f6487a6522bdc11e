-- Rule 1: "Length is 8 to 1,048,576. Place 0."
use Rattle.std.specs.Prelude.{ℕ, Bool, true, List}
use Rattle.wire.specs.Tests.{if_eq}
use Rattle.boxes.specs.Containers.{FILE}
use Rattle.rule.specs.Judge.{Judge}
use Rattle.rule.specs.Rule.{Rule, placed}
use Rattle.rule.specs.Results.{length_fine}

-- asked of the file alone, which stands at place 0
unfoldable pub one_in : ℕ → List ℕ → Bool
one_in k xs = if_eq k FILE (length_fine xs) true

abbrev pub one_rule : Rule
one_rule = record { leaf = λ k c b. true; node = one_in; end = λ xs. true }

abbrev pub one : Judge
one = placed one_rule
