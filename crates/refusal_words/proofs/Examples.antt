-- Refusals as people read them, by computation.
use mathlib.Core.Path.{◌≡◌, refl}
use Rattle.wire.specs.Tests.{if_eq, if_le, if_lt}
use Rattle.wire.specs.Text.{text}
use Rattle.decimal.specs.Decimal.{decimal, labelled}
use Rattle.refusal_words.specs.RefusalWords.{words_in, refusal_words, place_words, refused_text}

read :
    (refused_text 8 412 ≡ text "refused 8 at 412: a chunk lies outside every mdat\n")
    × (refused_text 25 0 ≡ text "refused 25: the room is shorter than the result\n")
    × (refused_text 11 0 ≡ text "refused 11: no such refusal\n")
    × (refused_text 41 19 ≡ text "refused 41 at 19: the frame here has a padding bit set, is of an unknown type or is cut short\n")
    × (refused_text 42 0 ≡ text "refused 42: there are more than 65,536 frames\n")
    × (refused_text 60 0 ≡ text "refused 60: this is not an ftyp and right after it one mdat with size 0 or past the end, and nothing else\n")
    × (refused_text 61 0 ≡ text "refused 61: no whole good frame stands at the start of the mdat\n")
unfolding if_eq if_le if_lt decimal labelled words_in refusal_words place_words refused_text
read = (refl, refl, refl, refl, refl, refl, refl)
