-- Big-endian numbers of any width in a list of bytes.
use Rattle.std.specs.Prelude.{ℕ, zero, suc, ◌+◌, ◌*◌, ◌/◌, ◌%◌, ◌<◌, List, [], ◌∷◌, length, get_or, take, drop}
use Rattle.wire.specs.Tests.{if_le}

-- every element is a byte
abbrev pub Bytes : List ℕ → Type 0
Bytes xs = (i : ℕ) → get_or xs i 0 < 256

-- the number n, and then the bytes of xs behind it
abbrev pub number_on : ℕ → List ℕ → ℕ
number_on n [] = n
number_on n (x ∷ xs) = number_on (n * 256 + x) xs

-- the last w bytes of the number n, and then xs
unfoldable pub bytes_on : ℕ → ℕ → List ℕ → List ℕ
bytes_on zero n xs = xs
bytes_on (suc w) n xs = bytes_on w (n / 256) (n % 256 ∷ xs)

-- the w bytes of a number below 256 ^ w, the most significant first
unfoldable pub bytes : ℕ → ℕ → List ℕ
bytes w n = bytes_on w n []

-- the number that stands in the w bytes at a place, and 0 where they don't lie inside
unfoldable pub word : ℕ → List ℕ → ℕ → ℕ
word w xs at = if_le (at + w) (length xs) (number_on 0 (take w (drop at xs))) 0
