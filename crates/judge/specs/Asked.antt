-- How code asks: rules of containers alone by one traversal, the others by another, by the rule's number.
use Rattle.std.specs.Prelude.{ℕ, ◌+◌, Bool, true, List}
use Rattle.wire.specs.Tests.{if_eq, if_lt}
use Rattle.boxes.specs.declared.walk.Form.{Form}
use Rattle.boxes.specs.Box.{Box}
use Rattle.boxes.specs.Boxes.{boxes}
use Rattle.release.specs.Releases.{release_of}
use Rattle.rule.specs.Verdict.{sooner, unless, Verdict, Fine, Bad}
use Rattle.rule.specs.Judge.{Judge, judge_box, judge_in}
use Rattle.rule.specs.Rule.{Rule, placed_by}
use Rattle.rule_shape.specs.Two.{tiled_rule, may_have}
use Rattle.rule_shape.specs.Three.{three_rule}
use Rattle.rule_shape.specs.TwentyThree.{editable_rule}
use Rattle.rule_lists.specs.Five.{five}
use Rattle.rule_lists.specs.Nine.{nine}
use Rattle.rule_headers.specs.Four.{four}
use Rattle.rule_tracks.specs.Six.{six}
use Rattle.rule_tracks.specs.Asked.{asked_seven, asked_eight}
use Rattle.rule_entries.specs.Ten.{ten}
use Rattle.judge.specs.Judgement.{verdict_by}

-- ---- rules 2 and 3 and refusal 23: what a container holds, and what is past its last whole box

unfoldable pub shaped_by : ℕ → ℕ → List ℕ → Bool
shaped_by n k xs = if_eq n 3 (three_rule.node k xs) (if_eq n 23 (editable_rule.node k xs) true)

unfoldable pub tiled_by : ℕ → List ℕ → Bool
tiled_by n xs = if_eq n 2 (tiled_rule.end xs) true

abbrev pub shape_by : ℕ → Rule
shape_by n = record { leaf = λ k c b. true; node = shaped_by n; end = tiled_by n }

-- and the form of a box in a container of kind k, of which rule 2 alone asks
unfoldable pub formed_by : ℕ → ℕ → Form → Bool
formed_by n k f = if_eq n 2 (may_have k f) true

abbrev pub first_by : ℕ → Judge
first_by n = placed_by (λ k x. formed_by n k x.form) (shape_by n)

-- of a box, its form first
abbrev pub form_first : ℕ → ℕ → ℕ → Box → ℕ → Verdict
form_first n d k x p = sooner (unless (formed_by n k x.form) p) (judge_box (first_by n) (judge_in (first_by n) d) k x p)

-- a verdict as one number: 0, or one more than the place
abbrev pub as_number : Verdict → ℕ
as_number Fine = 0
as_number (Bad p) = p + 1

-- ---- rules 4 to 10

-- rules 4, 5, 6 and 9 look at opaque boxes
unfoldable pub leaf_by : ℕ → ℕ → ℕ → List ℕ → ℕ → ℕ → Verdict
leaf_by n k c b p q =
    if_eq n 4 (four.leaf k c b p q)
    (if_eq n 5 (five.leaf k c b p q)
    (if_eq n 6 (six.leaf k c b p q)
    (if_eq n 9 (nine.leaf k c b p q) Fine)))

-- rules 4, 5, 7, 8 and 10 look at containers, 8 and 10 in a file with the boxes l
unfoldable pub node_by : ℕ → List Box → ℕ → List ℕ → ℕ → ℕ → Verdict
node_by n l k xs home p =
    if_eq n 4 (four.node k xs home p)
    (if_eq n 5 (five.node k xs home p)
    (if_eq n 7 (asked_seven.node k xs home p)
    (if_eq n 8 ((asked_eight l).node k xs home p)
    (if_eq n 10 ((ten (release_of l)).node k xs home p) Fine))))

abbrev pub rule_by : ℕ → List Box → Judge
rule_by n l = record { leaf = leaf_by n; node = node_by n l; end = λ xs p. Fine }

-- ---- each by its number

unfoldable pub judge_by : ℕ → List Box → Judge
judge_by n l = if_lt n 4 (first_by n) (rule_by n l)

-- what rule n says of a file
unfoldable pub verdict_of : ℕ → List ℕ → Verdict
verdict_of n xs = verdict_by (judge_by n (boxes xs)) xs
