-- The parts of an `esds`, by their tags, and what each of them has.
use Rattle.std.specs.Prelude.{ℕ, Bool, true, List, [], length, take, drop}
use Rattle.wire.specs.Tests.{if_eq}
use Rattle.wire.specs.Clauses.{is_eq}

-- "ES tag 3, decoder configuration 4 .., specific information 5 .., and SL configuration 6"
abbrev pub ES : ℕ
ES = 3

abbrev pub CONFIGURATION : ℕ
CONFIGURATION = 4

abbrev pub SPECIFIC : ℕ
SPECIFIC = 5

abbrev pub SL : ℕ
SL = 6

-- what holds the descriptors that stand in none, and what a descriptor is that belongs nowhere
abbrev pub TOP : ℕ
TOP = 1

abbrev pub OTHER : ℕ
OTHER = 0

-- the part that a tag belongs into
unfoldable pub holder : ℕ → ℕ
holder tag = if_eq tag ES TOP (if_eq tag CONFIGURATION ES (if_eq tag SPECIFIC CONFIGURATION (if_eq tag SL ES OTHER)))

-- "Opened are tag 3 at the top, 4 and 6 in 3, 5 in 4 ..; any other tag is only skipped": the part that a tag is in the part k
unfoldable pub part_in : (k tag : ℕ) → ℕ
part_in k tag = if_eq (holder tag) k tag OTHER

-- the only one that holds others of the descriptors in the part k
unfoldable pub holding : ℕ → ℕ
holding k = if_eq k TOP ES CONFIGURATION

-- how many bytes of its own a part has before the descriptors that it holds; 0 for one that holds none.
-- 3: the ES number and a flags byte. 13: object type, stream type, buffer size and both bit rates
unfoldable pub fixed_of : ℕ → ℕ
fixed_of j = if_eq j ES 3 (if_eq j CONFIGURATION 13 0)

-- of its contents, the bytes of its own, and those of the descriptors that it holds
unfoldable pub own_of : (j : ℕ) → List ℕ → List ℕ
own_of j xs = if_eq (fixed_of j) 0 xs (take (fixed_of j) xs)

unfoldable pub held_of : (j : ℕ) → List ℕ → List ℕ
held_of j xs = if_eq (fixed_of j) 0 [] (drop (fixed_of j) xs)

-- its own bytes fit: "fixed fields .. too", and "SL configuration 6, one byte"
unfoldable pub own_fits : (j : ℕ) → List ℕ → Bool
own_fits j own = if_eq j SL (is_eq (length own) 1) (if_eq (fixed_of j) 0 true (is_eq (length own) (fixed_of j)))
