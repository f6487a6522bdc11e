-- The table writer: "takes a sheet and a track and gives one stsd box".
use Rattle.std.specs.Prelude.{ℕ, ◌+◌, max, Bool, List, [], ◌∷◌, ◌++◌, length}
use Rattle.wire.specs.Tests.{if_eq}
use Rattle.wire.specs.Clauses.{is_le, every}
use Rattle.wire.specs.Numbers.{bytes}
use Rattle.codes.specs.Codes.{STSD}
use Rattle.movie.specs.Entries.{Entry}
use Rattle.rule.specs.Results.{ToWrite, asked, in_limit}
use Rattle.rule.specs.Results.ToWrite.{gives}
use Rattle.sheet.specs.Sheet.{bodies}
use Rattle.sheet_table.specs.Form.{unsheet, formed}

-- the entries of track t
unfoldable pub own_entries : ℕ → List Entry → List Entry
own_entries t [] = []
own_entries t (e ∷ es) = if_eq e.track t (e ∷ own_entries t es) (own_entries t es)

-- "the sheet's highest" track
unfoldable pub highest : List Entry → ℕ
highest [] = 0
highest (e ∷ es) = max e.track (highest es)

-- not "track 0 or above the sheet's highest"
unfoldable pub has_track : ℕ → List Entry → Bool
has_track t es = every (is_le 1 t ∷ is_le t (highest es) ∷ [])

-- "16 bytes, then that track's bodies": size, `stsd`, version and flags, count
unfoldable pub table : List Entry → List ℕ
table es = bytes 4 (16 + length (bodies es)) ++ bytes 4 STSD ++ bytes 4 0 ++ bytes 4 (length es) ++ bodies es

unfoldable pub track_table : List ℕ → ℕ → List ℕ
track_table xs t = table (own_entries t (unsheet xs))

-- "30, then 20 (track 0 or above the sheet's highest), then 24, then 25"
unfoldable pub table_result : List ℕ → ℕ → ToWrite
table_result xs t =
    asked
    ((30, formed xs)
    ∷ (20, has_track t (unsheet xs))
    ∷ (24, in_limit (track_table xs t))
    ∷ [])
    (gives (track_table xs t))
