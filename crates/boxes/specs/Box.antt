-- A box: a header, which says the box's whole size and its four-byte code, and a payload.
use Rattle.std.specs.Prelude.{ℕ, ◌+◌, Bool, true, false, List, [], ◌∷◌, ◌++◌, length}
use Rattle.wire.specs.Numbers.{bytes}
use Rattle.boxes.specs.declared.walk.Form.{Form}
use Rattle.boxes.specs.declared.walk.Form.TheVariants.{Plain, Wide, Open}

-- the length of a header, by its form
abbrev pub head_of : Form → ℕ
head_of Plain = 8
head_of Wide = 16
head_of Open = 8

abbrev pub is_plain : Form → Bool
is_plain Plain = true
is_plain Wide = false
is_plain Open = false

abbrev pub is_open : Form → Bool
is_open Plain = false
is_open Wide = false
is_open Open = true

-- what the size field says of a box of n bytes: its size; "size field 1"; or "size 0 ..., meaning to the end of the file"
abbrev pub field_of : Form → ℕ → ℕ
field_of Plain n = n
field_of Wide n = 1
field_of Open n = 0

-- "eight more header bytes", behind the code
abbrev pub more_of : Form → ℕ → List ℕ
more_of Plain n = []
more_of Wide n = bytes 8 n
more_of Open n = []

-- the header of a box of n bytes and a code
abbrev pub header_by : Form → (n code : ℕ) → List ℕ
header_by f n c = bytes 4 (field_of f n) ++ (bytes 4 c ++ more_of f n)

pub record Box : Type 0 where
  pub form : Form
  pub code : ℕ
  pub body : List ℕ

-- one with a plain header
abbrev pub plain_box : ℕ → List ℕ → Box
plain_box c b = record { form = Plain; code = c; body = b }

-- its header's length
abbrev pub head : Box → ℕ
head x = head_of x.form

-- the size counts the header
abbrev pub size : Box → ℕ
size x = head x + length x.body

unfoldable pub header : Box → List ℕ
header x = header_by x.form (size x) x.code

-- boxes written one after the other
unfoldable pub write : List Box → List ℕ
write [] = []
write (x ∷ l) = header x ++ (x.body ++ write l)

-- the same box with another body: its form stays, its size follows
abbrev pub remade : Box → List ℕ → Box
remade x b = record { form = x.form; code = x.code; body = b }
