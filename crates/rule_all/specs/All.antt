-- Rules 2 to 10 at once.
use Rattle.std.specs.Prelude.{ℕ, ◌≤◌, ◌<◌, ◌≡◌, Bool, true, false, List}
use Rattle.wire.specs.Tests.{pick}
use Rattle.boxes.specs.Box.{Box}
use Rattle.boxes.specs.Boxes.{boxes}
use Rattle.boxes.specs.Containers.{FILE, DEPTH}
use Rattle.release.specs.Releases.{release_of}
use Rattle.rule.specs.Rule.{Rule, all_in}
use Rattle.rule_shape.specs.Two.{two_rule}
use Rattle.rule_shape.specs.Three.{three_rule}
use Rattle.rule_lists.specs.Five.{five_rule}
use Rattle.rule_lists.specs.Nine.{nine_rule}
use Rattle.rule_headers.specs.Four.{four_rule}
use Rattle.rule_tracks.specs.Six.{six_rule}
use Rattle.rule_tracks.specs.Seven.{seven_rule}
use Rattle.rule_tracks.specs.Eight.{eight_rule}
use Rattle.rule_entries.specs.Ten.{ten_rule}

-- two rules as one
abbrev pub also : Rule → Rule → Rule
also r s =
    record {
      leaf = λ k c b. pick (r.leaf k c b) (s.leaf k c b) false;
      node = λ k xs. pick (r.node k xs) (s.node k xs) false;
      end = λ xs. pick (r.end xs) (s.end xs) false;
    }

-- rules 2 to 9 as one, rule 8 in a file with the boxes l
abbrev pub rules_to_nine : List Box → Rule
rules_to_nine l = also two_rule (also three_rule (also four_rule (also five_rule (also six_rule (also seven_rule (also (eight_rule l) nine_rule))))))

-- and with rule 10
abbrev pub all_rules : List Box → Rule
all_rules l = also (rules_to_nine l) (ten_rule (release_of l))

-- a yes says that a test holds
pub record Sure (r t : Bool) : Type 0 where
  pub holds : r ≡ true → t ≡ true

-- an answer of 2, 10 or 11 says that the rules from 2 on and before it hold of a file
pub record SureBefore (xs : List ℕ) (r : ℕ) : Type 0 where
  pub low : r < 10 → r ≡ 2
  pub most : r ≤ 11
  pub nine : 10 ≤ r → all_in (rules_to_nine (boxes xs)) DEPTH FILE xs ≡ true
  pub ten : 11 ≤ r → all_in (ten_rule (release_of (boxes xs))) DEPTH FILE xs ≡ true
