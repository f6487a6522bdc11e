-- Rule 5: the form of an `stsd` and of a `dref`, and at most 32 sample entries in the file.
use Rattle.std.specs.Prelude.{ℕ, ◌+◌, ◌≤◌, ◌≡◌, Bool, true, List, [], ◌∷◌, length, drop}
use Rattle.wire.specs.Tests.{pick, if_eq, if_le}
use Rattle.wire.specs.Numbers.{word}
use Rattle.wire.specs.Clauses.{is_eq, is_le, every}
use Rattle.codes.specs.Codes.{MOOV, STBL, STSD, DINF, DREF}
use Rattle.boxes.specs.Boxes.{FRONT, boxes, after}
use Rattle.boxes.specs.Seek.{ANY, count, all_plain, plain_tiles}
use Rattle.movie.specs.Movie.{stored_count}
use Rattle.movie.specs.Stsds.{Stsd, stsds_from}
use Rattle.rule.specs.Verdict.{unless, Verdict, Fine, Bad}
use Rattle.rule.specs.Judge.{Judge}
use Rattle.rule.specs.Rule.{Rule}

-- ---- one list

-- "payload at least 8, version and flags 0, a count of at least 1 equal to the number of boxes that tile the rest", "only the plain
-- 8-byte header is read"
unfoldable pub list_form : List ℕ → Bool
list_form b =
    every
    (is_le FRONT (length b)
    ∷ is_eq (word 4 b 0) 0
    ∷ is_le 1 (stored_count b)
    ∷ plain_tiles (drop FRONT b)
    ∷ is_eq (count ANY (boxes (drop FRONT b))) (stored_count b)
    ∷ [])

-- the count, where it and what stands before it are there, and version and flags are 0; else 0
unfoldable pub listed : List ℕ → ℕ
listed b = pick (every (is_le FRONT (length b) ∷ is_eq (word 4 b 0) 0 ∷ [])) (stored_count b) 0

-- what it says
pub record Listed (b : List ℕ) : Type 0 where
  pub room : FRONT ≤ length b
  pub front : word 4 b 0 ≡ 0
  pub some : 1 ≤ stored_count b
  pub tiled : length (after (drop FRONT b)) ≡ 0
  pub plain : all_plain (boxes (drop FRONT b)) ≡ true
  pub counted : count ANY (boxes (drop FRONT b)) ≡ stored_count b

-- asked of an `stsd` in `stbl` and of a `dref` in `dinf` alone, of a box of code c in a container of kind k
unfoldable pub list_form_in : ℕ → ℕ → List ℕ → Bool
list_form_in k c b = if_eq k STBL (if_eq c STSD (list_form b) true) (if_eq k DINF (if_eq c DREF (list_form b) true) true)

-- ---- all `stsd`s

-- "At most 8 sample entries in the file"; K6: "Raise the limit to 32 entries."
abbrev pub MOST : ℕ
MOST = 32

unfoldable pub counted_in : List Stsd → ℕ
counted_in [] = 0
counted_in (s ∷ l) = stored_count s.body + counted_in l

-- "place: the `stsd` that passes" the most: n sample entries are counted before these
unfoldable pub passing : ℕ → ℕ → List Stsd → Verdict
passing most n [] = Fine
passing most n (s ∷ l) = if_le (n + stored_count s.body) most (passing most (n + stored_count s.body) l) (Bad s.place)

-- ---- the rule, with places and without; the total is asked of `moov`

abbrev pub most_in : ℕ → List ℕ → ℕ → Verdict
most_in k xs p = if_eq k MOOV (passing MOST 0 (stsds_from 0 (boxes xs) p)) Fine

abbrev pub five : Judge
five = record { leaf = λ k c b p q. unless (list_form_in k c b) p; node = λ k xs home p. most_in k xs p; end = λ xs p. Fine }

abbrev pub five_rule : Rule
five_rule =
    record {
      leaf = λ k c b. list_form_in k c b;
      node = λ k xs. if_eq k MOOV (is_le (counted_in (stsds_from 0 (boxes xs) 0)) MOST) true;
      end = λ xs. true;
    }
