-- Rule 10 of a release: each entry of each `stsd`, judged with its track's scale, handler and data references. Place: the entry.
use Rattle.std.specs.Prelude.{ℕ, ◌+◌, ◌-◌, Bool, true, false, Option, List, [], ◌∷◌, ◌++◌, take, drop}
use Rattle.wire.specs.Tests.{pick, if_eq}
use Rattle.codes.specs.Codes.{MOOV}
use Rattle.boxes.specs.declared.walk.BoxAt.{BoxAt}
use Rattle.boxes.specs.Box.{Box, header}
use Rattle.boxes.specs.Boxes.{FRONT, boxes}
use Rattle.movie.specs.Movie.{scale, handler, references}
use Rattle.movie.specs.Stsds.{Stsd, stsds_from}
use Rattle.release.specs.declared.Release.{Release}
use Rattle.entry_rules.specs.declared.entry.Around.{Around}
use Rattle.entry_rules.specs.Entries.{in_track, entry_rule}
use Rattle.rule.specs.Verdict.{sooner, unless, Verdict, Fine}
use Rattle.rule.specs.Judge.{Judge, judge_list}
use Rattle.rule.specs.Rule.{Rule, all_list}

-- what a track of payload b says of its entries
unfoldable pub around_of : List ℕ → Option Around
around_of b = in_track (scale b) (handler b) (references b)

-- ---- one entry

-- the bytes of a box that was found
abbrev pub bytes_of : List ℕ → BoxAt → List ℕ
bytes_of xs b = take (b.at + b.span - b.at) (drop b.at xs)

-- an entry, header and all, meets its rule
abbrev pub entry_fine : Option Around → Release → Box → Bool
entry_fine a release x = entry_rule a release (header x ++ x.body)

-- ---- the entries that a list has: with places, from place p on, and without

unfoldable pub entries_judged : Option Around → Release → List ℕ → ℕ → Verdict
entries_judged a release xs p = judge_list (λ x q. unless (entry_fine a release x) q) (λ q. Fine) (boxes xs) p

unfoldable pub entries_fine : Option Around → Release → List ℕ → Bool
entries_fine a release xs = all_list (entry_fine a release) true (boxes xs)

-- ---- those of each `stsd`

unfoldable pub stsds_judged : Release → List Stsd → Verdict
stsds_judged release [] = Fine
stsds_judged release (s ∷ l) =
    sooner (entries_judged (around_of s.trak) release (drop FRONT s.body) (s.start + FRONT)) (stsds_judged release l)

unfoldable pub stsds_fine : Release → List Stsd → Bool
stsds_fine release [] = true
stsds_fine release (s ∷ l) = pick (entries_fine (around_of s.trak) release (drop FRONT s.body)) (stsds_fine release l) false

-- ---- the rule, asked of `moov`

unfoldable pub ten_at : Release → ℕ → List ℕ → ℕ → Verdict
ten_at release k xs p = if_eq k MOOV (stsds_judged release (stsds_from 0 (boxes xs) p)) Fine

unfoldable pub ten_in : Release → ℕ → List ℕ → Bool
ten_in release k xs = if_eq k MOOV (stsds_fine release (stsds_from 0 (boxes xs) 0)) true

abbrev pub ten : Release → Judge
ten release = record { leaf = λ k c b p q. Fine; node = λ k xs home p. ten_at release k xs p; end = λ xs p. Fine }

abbrev pub ten_rule : Release → Rule
ten_rule release = record { leaf = λ k c b. true; node = ten_in release; end = λ xs. true }
