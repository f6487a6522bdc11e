-- Rewriting the 32-bit numbers of some kinds of opaque boxes.
use Rattle.std.specs.Prelude.{ℕ, ◌+◌, ◌-◌, ◌≤◌, ◌<◌, ◌^◌, ◌≡◌, List, [], ◌∷◌, ◌++◌, length, take, drop}
use Rattle.wire.specs.Tests.{if_eq, if_lt}
use Rattle.wire.specs.Numbers.{bytes, word}
use Rattle.boxes.specs.declared.words.Target.{Target}
use Rattle.boxes.specs.declared.words.Targets.{Targets}
use Rattle.boxes.specs.declared.words.By.{By}
use Rattle.boxes.specs.Rewrite.{Leaves}

-- each 32-bit number by f; fewer than four bytes at the end stay
unfoldable pub each_word : (ℕ → ℕ) → List ℕ → List ℕ
each_word f [] = []
each_word f (a ∷ []) = a ∷ []
each_word f (a ∷ b ∷ []) = a ∷ b ∷ []
each_word f (a ∷ b ∷ c ∷ []) = a ∷ b ∷ c ∷ []
each_word f (a ∷ b ∷ c ∷ d ∷ xs) = bytes 4 (f (word 4 (a ∷ b ∷ c ∷ d ∷ []) 0)) ++ each_word f xs

-- those in the `span` bytes from place `from` on
unfoldable pub reword : (ℕ → ℕ) → ℕ → ℕ → List ℕ → List ℕ
reword f from span b = take from b ++ (each_word f (take span (drop from b)) ++ drop (from + span) b)

-- in the boxes of one code in one kind of container
unfoldable pub reword_leaf : Target → (ℕ → ℕ) → Leaves
reword_leaf t f k c b = if_eq k t.kind (if_eq c t.code (reword f t.from t.span b) b) b

-- of three targets the first for a kind of container, and the last where none is
unfoldable pub target_in : Targets → ℕ → Target
target_in ts k = if_eq k ts.one.kind ts.one (if_eq k ts.two.kind ts.two ts.three)

-- in each kind of container by the target for it
unfoldable pub reword_each : Targets → (ℕ → ℕ) → Leaves
reword_each ts f k c b = reword_leaf (target_in ts k) f k c b

-- how a number moves: below the limit up by `low`, from it on up by `high` and down by `less`
unfoldable pub moved : By → ℕ → ℕ
moved by o = if_lt o by.limit (o + by.low) (o + by.high - by.less)

-- nothing overflows
pub record Small (by : By) : Type 0 where
  pub low : by.low < 2 ^ 32
  pub high : by.high < 2 ^ 32

-- the numbers of a table that was xs₀ are rewritten before place at
pub record Worded (f : ℕ → ℕ) (xs₀ xs : List ℕ) (at : ℕ) : Type 0 where
  pub inside : at ≤ length xs
  pub same : length xs ≡ length xs₀
  pub left : each_word f xs₀ ≡ take at xs ++ each_word f (drop at xs)
