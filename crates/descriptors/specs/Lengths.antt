-- "a length of one to four bytes with 7 bits each": the top bit of each byte says that more follow.
use Rattle.std.specs.Prelude.{ℕ, zero, suc, ◌+◌, ◌*◌, ◌/◌, ◌%◌, Option, Some, None, List, [], ◌∷◌}
use Rattle.wire.specs.Tests.{if_lt}
use Rattle.descriptors.specs.declared.length.Length.{Length}

-- ---- bytes to number

-- the number n, which k bytes say
abbrev pub in_bytes : (n k : ℕ) → Option Length
in_bytes n k = Some (record { number = n; span = k })

-- k bytes said n, and at most w more may follow: the number, and how many bytes say it
unfoldable pub length_from : (w n k : ℕ) → List ℕ → Option Length
length_from zero n k xs = None
length_from (suc w) n k [] = None
length_from (suc w) n k (x ∷ xs) = if_lt x 128 (in_bytes (n * 128 + x) (k + 1)) (length_from w (n * 128 + x % 128) (k + 1) xs)

-- the length at the front, "one to four bytes"
unfoldable pub length_at : List ℕ → Option Length
length_at xs = length_from 4 0 0 xs

-- ---- number to bytes

-- w bytes of a number with the top bit set, and then xs
unfoldable pub more_on : (w n : ℕ) → List ℕ → List ℕ
more_on zero n xs = xs
more_on (suc w) n xs = more_on w (n / 128) ((128 + n % 128) ∷ xs)

-- a number below 128 ^ (w + 1) in w bytes and one
unfoldable pub length_bytes : (w n : ℕ) → List ℕ
length_bytes w n = more_on w (n / 128) (n % 128 ∷ [])

-- how many bytes stand before the last of the shortest
unfoldable pub least_more : ℕ → ℕ
least_more n = if_lt n 128 0 (if_lt n 16384 1 (if_lt n 2097152 2 3))

-- "shortest lengths"
unfoldable pub shortest : ℕ → List ℕ
shortest n = length_bytes (least_more n) n

-- "too long for four length bytes" is a number from here on
abbrev pub TOO_LONG : ℕ
TOO_LONG = 268435456
