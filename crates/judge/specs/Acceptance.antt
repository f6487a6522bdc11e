-- Acceptance without places: each rule holds of the whole file.
use Rattle.std.specs.Prelude.{ℕ, ◌≤◌, ◌≡◌, Bool, true, List, [], ◌∷◌, length}
use Rattle.boxes.specs.Box.{Box}
use Rattle.boxes.specs.Boxes.{boxes}
use Rattle.boxes.specs.Containers.{FILE, DEPTH, LONGEST}
use Rattle.release.specs.Releases.{release_of}
use Rattle.rule.specs.Rule.{Rule, all_in}
use Rattle.rule_shape.specs.Two.{two_rule}
use Rattle.rule_shape.specs.Three.{three_rule}
use Rattle.rule_shape.specs.TwentyThree.{editable_rule}
use Rattle.rule_lists.specs.Five.{five_rule}
use Rattle.rule_lists.specs.Nine.{nine_rule}
use Rattle.rule_headers.specs.Four.{four_rule}
use Rattle.rule_tracks.specs.Six.{six_rule}
use Rattle.rule_tracks.specs.Seven.{seven_rule}
use Rattle.rule_tracks.specs.Eight.{eight_rule}
use Rattle.rule_entries.specs.Ten.{ten_rule}
use Rattle.judge.specs.One.{one_rule}

-- a rule holds of a file
abbrev pub Holds : Rule → List ℕ → Type 0
Holds r xs = all_in r DEPTH FILE xs ≡ true

-- rules 1 to 10 in their order, rules 8 and 10 in a file with the boxes l
abbrev pub rules : List Box → List Rule
rules l = one_rule ∷ two_rule ∷ three_rule ∷ four_rule ∷ five_rule ∷ six_rule ∷ seven_rule ∷ eight_rule l ∷ nine_rule ∷ ten_rule (release_of l) ∷ []

-- each of them, rule 1 as the two facts of the length
pub record Meets (xs : List ℕ) : Type 0 where
  pub least : 8 ≤ length xs
  pub most : length xs ≤ LONGEST
  pub two : Holds two_rule xs
  pub three : Holds three_rule xs
  pub four : Holds four_rule xs
  pub five : Holds five_rule xs
  pub six : Holds six_rule xs
  pub seven : Holds seven_rule xs
  pub eight : Holds (eight_rule (boxes xs)) xs
  pub nine : Holds nine_rule xs
  pub ten : Holds (ten_rule (release_of (boxes xs))) xs

-- an edit takes the file: refusal 23 lets it pass
abbrev pub editable : List ℕ → Bool
editable xs = all_in editable_rule DEPTH FILE xs
