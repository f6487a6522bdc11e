-- The form of a sheet, judged from its bytes alone.
use Rattle.std.specs.Prelude.{ℕ, zero, suc, ◌+◌, Bool, true, false, None, List, [], ◌∷◌, take, drop, get_or}
use Rattle.wire.specs.Tests.{pick}
use Rattle.wire.specs.Clauses.{is_le, every}
use Rattle.wire.specs.Numbers.{word}
use Rattle.std.specs.Str.{bytes_eq}
use Rattle.movie.specs.Entries.{Entry}
use Rattle.release.specs.declared.Release.TheVariants.{Release4}
use Rattle.entry_rules.specs.Entries.{entry_rule}
use Rattle.sheet.specs.Sheet.{SLOTS, SLOT, edition_for, bodies_at, sheet}

-- "at most 4" tracks
abbrev pub TRACKS : ℕ
TRACKS = 4

-- the entry that the first of slots xs says, of bodies ys
abbrev pub first_of : List ℕ → List ℕ → Entry
first_of xs ys = record { track = get_or xs 1 0; place = word 4 xs 4; bytes = take (word 4 xs 8) ys }

-- the n entries that slots xs and bodies ys say
unfoldable pub read : ℕ → List ℕ → List ℕ → List Entry
read zero xs ys = []
read (suc n) xs ys = first_of xs ys ∷ read n (drop SLOT xs) (drop (word 4 xs 8) ys)

-- the entries of a sheet: "byte 1 the count", and the edition is the one that it asks for
unfoldable pub unsheet : List ℕ → List Entry
unsheet xs = read (get_or xs 1 0) (drop 4 xs) (drop (bodies_at (edition_for (get_or xs 1 0))) xs)

-- "track numbers that start at 1 and never fall or skip, at most 4": one of track u after one of track t
unfoldable pub follows : ℕ → ℕ → Bool
follows t u = every (is_le t u ∷ is_le u (t + 1) ∷ is_le 1 u ∷ is_le u TRACKS ∷ [])

unfoldable pub steps : ℕ → List Entry → Bool
steps t [] = true
steps t (e ∷ es) = pick (follows t e.track) (steps e.track es) false

-- "each body must be a box of its kind that meets its entry rule, apart from TimeScale, data reference and handler",
-- "by the wider rule" of the two releases
unfoldable pub all_meet : List Entry → Bool
all_meet [] = true
all_meet (e ∷ es) = pick (entry_rule None Release4 e.bytes) (all_meet es) false

-- "A sheet must have the form above": it is the sheet that its own entries make, whatever their places
unfoldable pub formed : List ℕ → Bool
formed xs =
    every
    (is_le 1 (get_or xs 1 0)
    ∷ is_le (get_or xs 1 0) SLOTS
    ∷ bytes_eq xs (sheet (unsheet xs))
    ∷ steps 0 (unsheet xs)
    ∷ all_meet (unsheet xs)
    ∷ [])
