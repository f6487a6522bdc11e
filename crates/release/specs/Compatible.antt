-- The compatible list of an `ftyp` payload: the brands after the major brand and the minor version.
use Rattle.std.specs.Prelude.{ℕ, ◌+◌, ◌-◌, ◌*◌, ◌/◌, Bool, not, List, length}
use Rattle.wire.specs.Numbers.{word}
use Rattle.wire.specs.Clauses.{is_eq, is_lt, one_if}
use Rattle.wire.specs.Sums.{sum_to}

-- how many of the first n brands are c, and how many of all
unfoldable pub times_to : ℕ → List ℕ → ℕ → ℕ
times_to c ftyp n = sum_to (λ i. one_if (is_eq (word 4 ftyp (8 + 4 * i)) c)) n

abbrev pub times_listed : ℕ → List ℕ → ℕ
times_listed c ftyp = times_to c ftyp ((length ftyp - 8) / 4)

unfoldable pub brand_listed : ℕ → List ℕ → Bool
brand_listed c ftyp = is_lt 0 (times_listed c ftyp)

unfoldable pub brand_missing : ℕ → List ℕ → Bool
brand_missing c ftyp = not (brand_listed c ftyp)
