-- The judgement of a file: "The number given is the lowest whose rule is broken".
use Rattle.std.specs.Prelude.{ℕ, ◌+◌, List, [], ◌∷◌, Result, Ok, Err}
use Rattle.boxes.specs.Box.{Box}
use Rattle.boxes.specs.Boxes.{boxes}
use Rattle.boxes.specs.Containers.{FILE, DEPTH}
use Rattle.release.specs.Releases.{release_of}
use Rattle.rule.specs.declared.Refusal.{Refusal}
use Rattle.rule.specs.Answers.{Refused}
use Rattle.rule.specs.Verdict.{Verdict, Fine, Bad}
use Rattle.rule.specs.Judge.{Judge, judge_in}
use Rattle.rule_shape.specs.Two.{two}
use Rattle.rule_shape.specs.Three.{three}
use Rattle.rule_lists.specs.Five.{five}
use Rattle.rule_lists.specs.Nine.{nine}
use Rattle.rule_headers.specs.Four.{four}
use Rattle.rule_tracks.specs.Six.{six}
use Rattle.rule_tracks.specs.Seven.{seven}
use Rattle.rule_tracks.specs.Eight.{eight}
use Rattle.rule_entries.specs.Ten.{ten}
use Rattle.judge.specs.One.{one}

-- a file is accepted, or why it is refused
abbrev pub Judgement : Type 0
Judgement = Result (Unit {0}) Refusal

pattern abbrev pub Accepted : Judgement
Accepted = Ok tt

-- the refusal number of the paper, 0 where there is none, and its place
abbrev pub judged_number : Judgement → ℕ
judged_number Accepted = 0
judged_number (Err e) = e.number

abbrev pub judged_place : Judgement → ℕ
judged_place Accepted = 0
judged_place (Err e) = e.place

-- rules 1 to 10 in their order; rules 8 and 10 are asked in a file with the boxes l
abbrev pub judges : List Box → List Judge
judges l = one ∷ two ∷ three ∷ four ∷ five ∷ six ∷ seven ∷ eight l ∷ nine ∷ ten (release_of l) ∷ []

-- what a rule says of a file
abbrev pub verdict_by : Judge → List ℕ → Verdict
verdict_by j xs = judge_in j DEPTH FILE xs 0 0

-- the verdict of rule n, and then the rules after it
unfoldable pub unless_broken : ℕ → Verdict → Judgement → Judgement
unless_broken n Fine j = j
unless_broken n (Bad p) j = Refused n p

-- the rules from n on
unfoldable pub judged_from : ℕ → List Judge → List ℕ → Judgement
judged_from n [] xs = Accepted
judged_from n (j ∷ js) xs = unless_broken n (verdict_by j xs) (judged_from (n + 1) js xs)

-- all of them
unfoldable pub judged : List ℕ → Judgement
judged xs = judged_from 1 (judges (boxes xs)) xs
