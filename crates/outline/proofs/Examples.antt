-- Lines as they are printed, and a small file whose `moov` holds a box and a byte too many. Assumes nothing.
use mathlib.Core.Path.{◌≡◌, refl}
use mathlib.Core.List.{[], ◌∷◌, ◌++◌}
use Rattle.wire.specs.Tests.{if_eq, if_lt, if_le}
use Rattle.wire.specs.Clauses.{is_eq, is_le, every}
use Rattle.wire.specs.Numbers.{bytes, bytes_on, word}
use Rattle.wire.specs.Text.{text}
use Rattle.codes.specs.Codes.{FTYP, MOOV, UDTA, coded}
use Rattle.decimal.specs.Decimal.{decimal, labelled}
use Rattle.boxes.specs.Boxes.{form_of, whole, boxes, total, after}
use Rattle.boxes.specs.Containers.{parent}
use Rattle.rule_shape.specs.Two.{may_have}
use Rattle.outline.specs.Lines.{digit, hex, code_printed, box_text, broken_text}
use Rattle.outline.specs.Lines.Line.{box, broken}
use Rattle.outline.specs.Outline.{opens_as, row_lines, list_lines, outline}

a_box : box_text FTYP 0 24 1 ≡ text "box ftyp place 0 size 24 depth 1\n"
unfolding box_text code_printed labelled decimal bytes bytes_on every is_le if_lt
a_box = refl

-- a code that starts with the sign of copyright
a_code : box_text 2842583405 8 9 16 ≡ text "box 0xA96E616D place 8 size 9 depth 16\n"
unfolding box_text code_printed hex digit labelled decimal bytes bytes_on every is_le if_lt
a_code = refl

a_break : broken_text 602 ≡ text "broken place 602\n"
unfolding broken_text labelled decimal if_lt
a_break = refl

-- "the parent's list goes on"
goes_on : outline (bytes 4 17 ++ text "moov" ++ bytes 4 8 ++ text "udta" ++ 0 ∷ bytes 4 8 ++ text "free")
    ≡ box MOOV 0 17 1 ∷ box UDTA 8 8 2 ∷ broken 16 ∷ box (coded "free") 17 8 1 ∷ []
unfolding bytes bytes_on word if_le if_eq is_eq form_of whole boxes total after parent may_have opens_as row_lines list_lines
goes_on = refl
