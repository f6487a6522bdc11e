-- A rule as a list of clauses that all hold. The tests are shut, so that the arguments of a law are found from its goal.
use Rattle.std.specs.Prelude.{ℕ, Bool, true, false, List, [], ◌∷◌, ltb, leb, eqb}
use Rattle.wire.specs.Tests.{pick}

unfoldable pub is_eq : ℕ → ℕ → Bool
is_eq m n = eqb m n

unfoldable pub is_lt : ℕ → ℕ → Bool
is_lt m n = ltb m n

unfoldable pub is_le : ℕ → ℕ → Bool
is_le m n = leb m n

unfoldable pub every : List Bool → Bool
every [] = true
every (t ∷ ts) = pick t (every ts) false

-- at least one holds
unfoldable pub either : List Bool → Bool
either [] = false
either (t ∷ ts) = pick t true (either ts)

-- what code answers to a rule: 1 where it holds, else 0
unfoldable pub one_if : Bool → ℕ
one_if t = pick t 1 0
