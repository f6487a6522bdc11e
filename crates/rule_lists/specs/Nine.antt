-- Rule 9: each `dref` entry is `url ` with payload 4, version 0 and flags 1.
use Rattle.std.specs.Prelude.{ℕ, ◌+◌, Bool, true, List, [], ◌∷◌, length, drop}
use Rattle.wire.specs.Tests.{pick, if_eq}
use Rattle.wire.specs.Numbers.{word}
use Rattle.wire.specs.Clauses.{is_eq, every}
use Rattle.codes.specs.Codes.{DINF, DREF, URL}
use Rattle.boxes.specs.Box.{Box}
use Rattle.boxes.specs.Boxes.{boxes, FRONT}
use Rattle.boxes.specs.Seek.{ANY, count, plain_tiles}
use Rattle.rule.specs.Verdict.{unless, Verdict, Fine}
use Rattle.rule.specs.Judge.{Judge, judge_list}
use Rattle.rule.specs.Rule.{Rule, all_list}
use Rattle.rule_lists.specs.Five.{list_form}

unfoldable pub is_url : ℕ → List ℕ → Bool
is_url c b = every (is_eq c URL ∷ is_eq (length b) 4 ∷ is_eq (word 4 b 0) 1 ∷ [])

-- a box at place p
abbrev pub url_at : Box → ℕ → Verdict
url_at x p = unless (is_url x.code x.body) p

-- boxes from place p on
abbrev pub urls_from : List Box → ℕ → Verdict
urls_from l p = judge_list url_at (λ q. Fine) l p

-- those of a `dref` whose payload starts at place q
abbrev pub urls_of : List ℕ → ℕ → Verdict
urls_of b q = urls_from (boxes (drop FRONT b)) (q + FRONT)

-- asked of a `dref` in `dinf` alone, by its container's kind and its code
abbrev pub urls_in : ℕ → ℕ → List ℕ → ℕ → Verdict
urls_in k c b q = if_eq k DINF (if_eq c DREF (urls_of b q) Fine) Fine

-- the same without places: of a part, and of a `dref`
abbrev pub urls : List ℕ → Bool
urls xs = all_list (λ x. is_url x.code x.body) true (boxes xs)

unfoldable pub all_urls : List ℕ → Bool
all_urls b = urls (drop FRONT b)

unfoldable pub all_urls_in : ℕ → ℕ → List ℕ → Bool
all_urls_in k c b = if_eq k DINF (if_eq c DREF (all_urls b) true) true

-- how many boxes tile a part, where each of them is plain and a `url ` of this file; else 0
abbrev pub urls_tiling : List ℕ → ℕ
urls_tiling xs = pick (urls xs) (pick (plain_tiles xs) (count ANY (boxes xs)) 0) 0

-- rules 5 and 9 of a `dref`
abbrev pub url_list : List ℕ → Bool
url_list b = every (list_form b ∷ all_urls b ∷ [])

-- ---- the rule, with places and without

abbrev pub nine : Judge
nine = record { leaf = λ k c b p q. urls_in k c b q; node = λ k xs home p. Fine; end = λ xs p. Fine }

abbrev pub nine_rule : Rule
nine_rule = record { leaf = λ k c b. all_urls_in k c b; node = λ k xs. true; end = λ xs. true }
