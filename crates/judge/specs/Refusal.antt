-- What a refusal says: "The number given is the lowest whose rule is broken", and the place that of the first box which breaks it.
use Rattle.std.specs.Prelude.{ℕ, ◌-◌, ◌≤◌, ◌<◌, ◌≡◌, List, get_or}
use Rattle.boxes.specs.Box.{Box}
use Rattle.boxes.specs.Boxes.{boxes}
use Rattle.rule.specs.Judge.{Judge}
use Rattle.rule.specs.Rule.{Rule}
use Rattle.judge.specs.One.{one, one_rule}
use Rattle.judge.specs.Judgement.{judges, verdict_by}
use Rattle.judge.specs.Acceptance.{rules, Holds}
use Rattle.rule.specs.Verdict.{Bad}

-- rule n, from 1 to 10, with places and without, in a file with the boxes l
abbrev pub judge_of : List Box → ℕ → Judge
judge_of l n = get_or (judges l) (n - 1) one

abbrev pub rule_of : List Box → ℕ → Rule
rule_of l n = get_or (rules l) (n - 1) one_rule

pub record Breaks (xs : List ℕ) (n p : ℕ) : Type 0 where
  pub least : 1 ≤ n
  pub most : n ≤ 10
  pub below : (i : ℕ) → 1 ≤ i → i < n → Holds (rule_of (boxes xs) i) xs
  pub broken : Holds (rule_of (boxes xs) n) xs → ⊥
  pub first : verdict_by (judge_of (boxes xs) n) xs ≡ Bad p
