-- Numbers as they are printed.
use Rattle.std.specs.Prelude.{ℕ, zero, suc, ◌+◌, ◌/◌, ◌%◌, List, [], ◌∷◌, ◌++◌}
use Rattle.wire.specs.Tests.{if_lt}

abbrev pub decimal_by : ℕ → ℕ → List ℕ
decimal_by zero n = []
decimal_by (suc k) n = if_lt n 10 ((48 + n) ∷ []) (decimal_by k (n / 10) ++ (48 + n % 10) ∷ [])

-- a number's digits, with no zeros in front
unfoldable pub decimal : ℕ → List ℕ
decimal n = decimal_by (suc n) n

-- a label, and then a number
unfoldable pub labelled : List ℕ → ℕ → List ℕ
labelled label n = label ++ decimal n
