-- "Replace decoder record of entry i (from 1, sheet order, samr, sawb, s263 only): its damr or d263 becomes the given one of
-- the same code. Enclosing sizes follow."
use Rattle.std.specs.Prelude.{ℕ, ◌-◌, Bool, true, List, [], ◌∷◌, ◌++◌, map, length, Option, None, Some}
use Rattle.wire.specs.Tests.{if_eq, if_lt}
use Rattle.wire.specs.Clauses.{is_eq, is_lt, every}
use Rattle.wire.specs.Numbers.{word}
use Rattle.codes.specs.Codes.{MOOV, TRAK, DAMR, D263}
use Rattle.boxes.specs.declared.way.Turn.{Turn}
use Rattle.boxes.specs.Boxes.{HEAD, FRONT, boxes}
use Rattle.boxes.specs.Seek.{ANY}
use Rattle.boxes.specs.Way.{edit_way, tail_by}
use Rattle.movie.specs.declared.entry.Spot.{Spot}
use Rattle.movie.specs.Ways.{to_stsd}
use Rattle.movie.specs.Stsds.{stsds}
use Rattle.movie.specs.Entries.{entries}
use Rattle.movie.specs.Named.{spot_in, bytes_at}
use Rattle.entry_heads.specs.Kinds.{OtherKind, SamrKind, SawbKind, S263Kind, kind_of}
use Rattle.entry_heads.specs.Heads.{head_size}
use Rattle.release.specs.Releases.{release_of}
use Rattle.entry_rules.specs.Decoders.{record_rule}
use Rattle.rule.specs.Results.{ToWrite, in_limit}
use Rattle.judge.specs.Calls.{result_on}
use Rattle.judge.specs.Acceptance.{editable}
use Rattle.edit_offsets.specs.Close.{closed}
use Rattle.edit_offsets.specs.Settle.{settled}

-- ---- the entry

-- the kind of entry i, and that of other codes where there is no such entry
unfoldable pub kind_at : List ℕ → ℕ → ℕ
kind_at xs i = if_eq i 0 OtherKind (kind_of (word 4 (bytes_at (i - 1) (entries xs)) 4))

-- the code of the record of a kind, and 0 for a kind that isn't editable
unfoldable pub record_code : ℕ → ℕ
record_code kind = if_eq kind SamrKind DAMR (if_eq kind SawbKind DAMR (if_eq kind S263Kind D263 0))

-- ---- its meaning

abbrev pub turn : ℕ → ℕ → Turn
turn c n = record { skip = 0; code = c; nth = n }

-- the way to entry n of track t, both from 0
abbrev pub way_to : ℕ → ℕ → List Turn
way_to t n = turn MOOV 0 ∷ turn TRAK t ∷ (map (λ c. turn c 0) to_stsd ++ (record { skip = FRONT; code = ANY; nth = n } ∷ []))

-- the record is what stands behind the first `keep` bytes of the entry's payload
abbrev pub record_at : Option Spot → ℕ → List ℕ → List ℕ → List ℕ
record_at (Some s) keep new xs = edit_way (way_to s.track s.nth) (tail_by keep new) xs
record_at None keep new xs = xs

-- in the file with its `moov` closed, where every entry stands as in the file
unfoldable pub record_replaced : List ℕ → ℕ → List ℕ → List ℕ
record_replaced xs i new = record_at (spot_in (stsds xs) (i - 1)) (head_size (kind_at xs i) - HEAD) new (closed xs)

unfoldable pub replace_of : List ℕ → ℕ → List ℕ → List ℕ
replace_of xs i new = settled xs (record_replaced xs i new)

-- ---- its answer

-- 20: "no such entry ..; a kind that isn't editable, or a given record of 8 bytes or more whose code isn't the kind's"
unfoldable pub takes : ℕ → List ℕ → Bool
takes kind new = every (is_lt 0 (record_code kind) ∷ if_lt (length new) HEAD true (is_eq (word 4 new 4) (record_code kind)) ∷ [])

-- "replace 20, 21, 23, 24, 25"
unfoldable pub replace_result : List ℕ → ℕ → List ℕ → ToWrite
replace_result xs i new =
    result_on xs
    ((20, takes (kind_at xs i) new)
    ∷ (21, record_rule (kind_at xs i) (release_of (boxes xs)) new)
    ∷ (23, editable xs)
    ∷ (24, in_limit (replace_of xs i new))
    ∷ [])
    (replace_of xs i new)
