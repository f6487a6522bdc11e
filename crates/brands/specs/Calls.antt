-- The brand answer of a file: 1 to 10, else 1 for yes and 0 for no.
use Rattle.std.specs.Prelude.{ℕ, List}
use Rattle.wire.specs.Clauses.{one_if}
use Rattle.judge.specs.Calls.{answer_on}
use Rattle.brands.specs.Brands.{brand_holds}
use Rattle.rule.specs.Answers.{Answer, Done}

unfoldable pub brand_answer : List ℕ → ℕ → Answer
brand_answer xs code = answer_on xs (Done (one_if (brand_holds code xs)))
