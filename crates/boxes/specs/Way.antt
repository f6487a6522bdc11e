-- Rewriting one box, by the way to it.
use Rattle.std.specs.Prelude.{ℕ, ◌+◌, ◌≤◌, ◌≡◌, List, [], ◌∷◌, ◌++◌, length, take, drop}
use Rattle.wire.specs.Tests.{if_eq}
use Rattle.wire.specs.Writing.{put}
use Rattle.boxes.specs.declared.walk.BoxAt.{BoxAt}
use Rattle.boxes.specs.declared.way.Turn.{Turn}
use Rattle.boxes.specs.declared.walk.Form.{Form}
use Rattle.boxes.specs.Box.{Box, head_of, header_by, header, write, remade}
use Rattle.boxes.specs.Boxes.{boxes, after}
use Rattle.boxes.specs.Seek.{meant, by_number}

-- the n-th box that c means, from 0, with its body by f
unfoldable pub nth_by : ℕ → ℕ → (List ℕ → List ℕ) → List Box → List Box
nth_by c n f [] = []
nth_by c n f (x ∷ l) = if_eq (meant c x.code) 0 (x ∷ nth_by c n f l) (by_number n (remade x (f x.body) ∷ l) (λ m. x ∷ nth_by c m f l))

unfoldable pub over_nth : ℕ → ℕ → (List ℕ → List ℕ) → List ℕ → List ℕ
over_nth c n f xs = write (nth_by c n f (boxes xs)) ++ after xs

-- one turn of a way: past the first `skip` bytes, into the n-th box of a code
unfoldable pub over_turn : Turn → (List ℕ → List ℕ) → List ℕ → List ℕ
over_turn t f xs = take t.skip xs ++ over_nth t.code t.nth f (drop t.skip xs)

-- a way of three numbers to a turn
unfoldable pub turns : List ℕ → List Turn
turns [] = []
turns (s ∷ []) = []
turns (s ∷ c ∷ []) = []
turns (s ∷ c ∷ n ∷ l) = record { skip = s; code = c; nth = n } ∷ turns l

-- the body at the end of the way by h
unfoldable pub edit_way : List Turn → (List ℕ → List ℕ) → List ℕ → List ℕ
edit_way [] h xs = h xs
edit_way (t ∷ w) h xs = over_turn t (λ ys. edit_way w h ys) xs

-- what stands in a body past its first n bytes, replaced
abbrev pub tail_by : ℕ → List ℕ → List ℕ → List ℕ
tail_by n new xs = take n xs ++ new

-- a box of a form and a code over a body
unfoldable pub box_by : Form → ℕ → List ℕ → List ℕ
box_by f c ys = header (record { form = f; code = c; body = ys }) ++ ys

-- a part with ys for the body of its box b, whose form stays
unfoldable pub around : List ℕ → BoxAt → List ℕ → List ℕ
around xs b ys = take b.at xs ++ (box_by b.form b.code ys ++ drop (b.at + b.span) xs)

-- a header for a box of n bytes, put at place at before what ends at place r, where that fits
pub record Under (f : Form) (n c : ℕ) (out : List ℕ) (at r : ℕ) (after : List ℕ) : Type 0 where
  pub same : length after ≡ length out
  pub is : r ≤ length out → after ≡ put out at (header_by f n c)

-- a box lies in a part
pub record BoxInside (xs : List ℕ) (b : BoxAt) : Type 0 where
  pub head : b.head ≡ head_of b.form
  pub eight : 8 ≤ b.head
  pub least : b.head ≤ b.span
  pub inside : b.at + b.span ≤ length xs
