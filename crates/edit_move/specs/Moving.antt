-- "Move: moov goes right after ftyp; other top-level boxes keep their order."
use Rattle.std.specs.Prelude.{ℕ, List, [], ◌∷◌, ◌++◌}
use Rattle.wire.specs.Tests.{if_eq}
use Rattle.codes.specs.Codes.{MOOV}
use Rattle.boxes.specs.Box.{Box, write}
use Rattle.boxes.specs.Boxes.{boxes}
use Rattle.rule.specs.Results.{ToWrite}
use Rattle.judge.specs.Calls.{result_on}
use Rattle.judge.specs.Acceptance.{editable}
use Rattle.edit_offsets.specs.Close.{closed}
use Rattle.edit_offsets.specs.Settle.{settled}

-- the boxes of a code, and the others
unfoldable pub just : ℕ → List Box → List Box
just c [] = []
just c (x ∷ l) = if_eq x.code c (x ∷ just c l) (just c l)

unfoldable pub others : ℕ → List Box → List Box
others c [] = []
others c (x ∷ l) = if_eq x.code c (others c l) (x ∷ others c l)

-- `ftyp` is the first box
unfoldable pub moov_second : List Box → List Box
moov_second [] = []
moov_second (x ∷ l) = x ∷ (just MOOV l ++ others MOOV l)

unfoldable pub move_of : List ℕ → List ℕ
move_of xs = settled xs (write (moov_second (boxes (closed xs))))

-- "move 23, 25"
unfoldable pub move_result : List ℕ → ToWrite
move_result xs = result_on xs ((23, editable xs) ∷ []) (move_of xs)
