-- "a moov of size 0 is given its true size in any edit": every edit starts from the file with its `moov` closed.
use Rattle.std.specs.Prelude.{ℕ, List, ◌++◌, map}
use Rattle.wire.specs.Tests.{pick, if_eq}
use Rattle.wire.specs.Numbers.{bytes}
use Rattle.wire.specs.Writing.{put}
use Rattle.codes.specs.Codes.{MOOV}
use Rattle.boxes.specs.declared.walk.BoxAt.{BoxAt}
use Rattle.boxes.specs.declared.walk.Form.{Form}
use Rattle.boxes.specs.declared.walk.Form.TheVariants.{Plain, Wide, Open}
use Rattle.boxes.specs.Box.{Box, is_open, write}
use Rattle.boxes.specs.Boxes.{boxes, after}

-- a form that says the size
abbrev pub shut_form : Form → Form
shut_form Plain = Plain
shut_form Wide = Wide
shut_form Open = Plain

-- a top-level box: only a `moov` is closed
unfoldable pub form_after : ℕ → Form → Form
form_after c f = if_eq c MOOV (shut_form f) f

abbrev pub shut_box : Box → Box
shut_box x = record { form = form_after x.code x.form; code = x.code; body = x.body }

-- the same boxes
unfoldable pub closed : List ℕ → List ℕ
closed xs = write (map shut_box (boxes xs)) ++ after xs

-- ---- as code does it

-- a `moov` that was found
abbrev pub shut_at : BoxAt → BoxAt
shut_at b = record { at = b.at; form = shut_form b.form; head = b.head; span = b.span; code = b.code }

-- a part with its size where it stands
unfoldable pub closed_at : BoxAt → List ℕ → List ℕ
closed_at b xs = pick (is_open b.form) (put xs b.at (bytes 4 b.span)) xs
