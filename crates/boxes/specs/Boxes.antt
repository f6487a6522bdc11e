-- The boxes of a part. This is the one recursion over bytes: all else goes by clauses on the list of boxes.
use Rattle.std.specs.Prelude.{ℕ, zero, suc, ◌+◌, ◌-◌, Bool, true, false, List, [], ◌∷◌, length, take, drop}
use Rattle.wire.specs.Tests.{pick, if_eq, if_le}
use Rattle.wire.specs.Numbers.{word}
use Rattle.wire.specs.Clauses.{is_eq}
use Rattle.boxes.specs.declared.walk.Form.{Form}
use Rattle.boxes.specs.declared.walk.Form.TheVariants.{Plain, Wide, Open}
use Rattle.boxes.specs.Box.{Box, head_of, size}

-- the length of a plain header, and the least of any
abbrev pub HEAD : ℕ
HEAD = 8

-- the length of version, flags and count, which stand before the boxes that an `stsd` or a `dref` lists
abbrev pub FRONT : ℕ
FRONT = 8

-- the form of the box at the front, by its size field
unfoldable pub form_of : List ℕ → Form
form_of xs = if_eq (word 4 xs 0) 0 Open (if_eq (word 4 xs 0) 1 Wide Plain)

-- its size, which each form says in its own way; an open box reaches to the end
abbrev pub size_by : Form → List ℕ → ℕ
size_by Plain xs = word 4 xs 0
size_by Wide xs = word 8 xs 8
size_by Open xs = length xs

abbrev pub head_front : List ℕ → ℕ
head_front xs = head_of (form_of xs)

abbrev pub size_of : List ℕ → ℕ
size_of xs = size_by (form_of xs) xs

-- a whole box stands at the front: its size is at least its header's, and it ends inside
unfoldable pub whole : List ℕ → Bool
whole xs = if_le (head_front xs) (size_of xs) (if_le (size_of xs) (length xs) true false) false

-- the box at the front, where it is whole
abbrev pub front_box : List ℕ → Box
front_box xs = record { form = form_of xs; code = word 4 xs 4; body = take (size_of xs - head_front xs) (drop (head_front xs) xs) }

abbrev pub boxes_by : ℕ → List ℕ → List Box
boxes_by zero xs = []
boxes_by (suc n) xs = pick (whole xs) (front_box xs ∷ boxes_by n (drop (size_of xs) xs)) []

-- the whole boxes that stand one after the other from the front on
unfoldable pub boxes : List ℕ → List Box
boxes xs = boxes_by (length xs) xs

unfoldable pub total : List Box → ℕ
total [] = 0
total (x ∷ l) = size x + total l

-- the bytes past the last of them: none where boxes tile the part
unfoldable pub after : List ℕ → List ℕ
after xs = drop (total (boxes xs)) xs

abbrev pub nothing : List ℕ → Bool
nothing xs = is_eq (length xs) 0

-- boxes tile the part: nothing stands past the last whole one
abbrev pub tiles : List ℕ → Bool
tiles xs = nothing (after xs)
