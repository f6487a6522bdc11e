-- The sheet reader: the sheet of a file's own entries, into a lent buffer.
use Rattle.std.specs.Prelude.{ℕ, List, []}
use Rattle.movie.specs.Entries.{entries}
use Rattle.rule.specs.Results.{ToWrite}
use Rattle.judge.specs.Calls.{result_on}
use Rattle.sheet.specs.Sheet.{sheet}

unfoldable pub sheet_of : List ℕ → List ℕ
sheet_of xs = sheet (entries xs)

-- "1 to 10, then 25"
unfoldable pub sheet_result : List ℕ → ToWrite
sheet_result xs = result_on xs [] (sheet_of xs)
