-- The modes of frames, and what one pass over a part tells.
use Rattle.std.specs.Prelude.{ℕ, ◌*◌, ◌^◌, ◌≡◌, List, [], ◌∷◌, length, get_or}
use Rattle.wire.specs.Tests.{if_eq}
use Rattle.wire.specs.Sums.{sum_to}
use Rattle.frames.specs.declared.run.Run.{Run}
use Rattle.frames.specs.Frames.{type_of, joined}

-- 1 where a frame of type t is among them, else 0
unfoldable pub seen : ℕ → List (List ℕ) → ℕ
seen t [] = 0
seen t (f ∷ l) = if_eq (type_of f) t 1 (seen t l)

-- the mode bit of type t, n times: 14 has none
unfoldable pub type_bit : (t n : ℕ) → ℕ
type_bit t n = if_eq t 14 0 (n * 2 ^ t)

-- "mode_set has the bits of the types seen, without 14"
unfoldable pub mode_bit : List (List ℕ) → ℕ → ℕ
mode_bit l t = type_bit t (seen t l)

unfoldable pub mode_set : List (List ℕ) → ℕ
mode_set l = sum_to (mode_bit l) 16

-- the same by flags of the sixteen types, 1 for one that is seen and 0 for another
unfoldable pub flag_bit : List ℕ → ℕ → ℕ
flag_bit flags t = type_bit t (get_or flags t 0)

unfoldable pub flagged : List ℕ → ℕ
flagged flags = sum_to (flag_bit flags) 16

-- how many they are, how many bytes they take, and their modes
pub record RunOf (l : List (List ℕ)) (r : Run) : Type 0 where
  pub count : r.count ≡ length l
  pub bytes : r.bytes ≡ length (joined l)
  pub modes : r.modes ≡ mode_set l
