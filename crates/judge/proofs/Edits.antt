-- Refusal 23, as code asks. Assumes nothing.
use Prim.Native.Nat.{ℕ}
use mathlib.Core.Path.{◌≡◌, refl, ap, ◌∙◌}
use mathlib.Core.Bool.{true}
use mathlib.Core.List.{List}
use Rattle.wire.specs.Tests.{if_eq}
use Rattle.std.specs.Result.{is_ok}
use Rattle.boxes.specs.Box.{Box}
use Rattle.boxes.specs.Containers.{FILE, DEPTH}
use Rattle.rule.specs.Verdict.{is_fine, Verdict}
use Rattle.rule.specs.Judge.{judge_in}
use Rattle.rule.specs.Rule.{Rule, placed, all_in}
use Rattle.rule.proofs.Places.{placed_says}
use Rattle.rule.proofs.Acceptance.{judge_fine}
use Rattle.rule.proofs.Alike.{no_test}
use Rattle.rule_shape.specs.TwentyThree.{editable_rule}
use Rattle.rule_all.proofs.Answers.{fine_ok}
use Rattle.judge.specs.Asked.{shaped_by, tiled_by, shape_by, formed_by, first_by}
use Rattle.judge.specs.Acceptance.{editable}

same_rule : shape_by 23 ≡ editable_rule
unfolding shaped_by tiled_by if_eq
same_rule = refl

no_form : (k : ℕ) (x : Box) → formed_by 23 k x.form ≡ true
unfolding formed_by if_eq
no_form k x = refl

module _ (xs : List ℕ) {v : Verdict} (e : v ≡ judge_in (first_by 23) DEPTH FILE xs 0 0) where
  is_plain_lem : is_fine v ≡ editable xs
  is_plain_lem = ap is_fine (e ∙ no_test (λ k x. formed_by 23 k x.form) (shape_by 23) no_form DEPTH FILE xs 0 0) ∙ judge_fine (placed (shape_by 23)) (shape_by 23) (placed_says (shape_by 23)) DEPTH FILE xs 0 0 ∙ ap (λ (r : Rule). all_in r DEPTH FILE xs) same_rule

  pub editable_is : is_ok v ≡ editable xs
  editable_is = fine_ok v ∙ is_plain_lem
