-- The lines of the printed example. Assumes nothing.
use mathlib.Core.Path.{◌≡◌, refl}
use Rattle.wire.specs.Tests.{if_eq, if_lt}
use Rattle.wire.specs.Numbers.{bytes, bytes_on}
use Rattle.wire.specs.Text.{text}
use Rattle.codes.specs.Codes.{SAMR, SOUN, GP4, GP6}
use Rattle.entry_heads.specs.Kinds.{kind_of}
use Rattle.decimal.specs.Decimal.{decimal, labelled}
use Rattle.listing.specs.Lines.{handler_text, code_text, track_line, entry_named, entry_placed, yes_text, brand_line, refused_line}

the_track : track_line 1 SOUN (record { 0 = 160 }) 8000 ≡ text "track 1 soun 160/8000\n"
unfolding track_line labelled decimal handler_text if_eq if_lt
the_track = refl

the_entry : entry_named 1 1 SAMR ≡ text "entry 1 track 1 samr"
unfolding entry_named labelled decimal code_text kind_of bytes bytes_on if_eq if_lt
the_entry = refl

its_place : entry_placed 397 53 ≡ text " place 397 size 53\n"
unfolding entry_placed labelled decimal if_lt
its_place = refl

no_brand : brand_line GP4 0 ≡ text "brand 3gp4 no\n"
unfolding brand_line yes_text bytes bytes_on if_eq
no_brand = refl

a_brand : brand_line GP6 1 ≡ text "brand 3gp6 yes\n"
unfolding brand_line yes_text bytes bytes_on if_eq
a_brand = refl

a_refusal : refused_line 3 24 ≡ text "file 3 at 24\n"
unfolding refused_line labelled decimal if_lt
a_refusal = refl
