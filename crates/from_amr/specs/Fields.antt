-- A payload by its fields.
use Rattle.std.specs.Prelude.{ℕ, ◌+◌, List, [], ◌∷◌, ◌++◌}
use Rattle.wire.specs.Numbers.{bytes}

-- numbers one after the other: the width of each in bytes, and then the number
unfoldable pub fields : List ℕ → List ℕ
fields [] = []
fields (w ∷ []) = []
fields (w ∷ n ∷ l) = bytes w n ++ fields l

-- their widths together
abbrev pub span : List ℕ → ℕ
span [] = 0
span (w ∷ []) = 0
span (w ∷ n ∷ l) = w + span l
