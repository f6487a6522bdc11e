-- The lines of the listing, each with its newline.
use Rattle.std.specs.Prelude.{ℕ, List, ◌++◌, length}
use Rattle.wire.specs.Tests.{if_eq}
use Rattle.wire.specs.Numbers.{bytes, word}
use Rattle.wire.specs.Text.{text}
use Rattle.codes.specs.Codes.{VIDE, SOUN, TEXT}
use Rattle.movie.specs.Entries.{Entry}
use Rattle.sample_tables.specs.declared.time.MediaTicks.{MediaTicks}
use Rattle.entry_heads.specs.Kinds.{OtherKind, kind_of}
use Rattle.decimal.specs.Decimal.{labelled}

-- "Handlers but vide, soun, text .. print other"
unfoldable pub handler_text : ℕ → List ℕ
handler_text h = if_eq h VIDE (text "vide") (if_eq h SOUN (text "soun") (if_eq h TEXT (text "text") (text "other")))

-- ".. and codes of kind 0 print other"
unfoldable pub code_text : ℕ → List ℕ
code_text c = if_eq (kind_of c) OtherKind (text "other") (bytes 4 c)

-- "track 1 soun 160/8000"
unfoldable pub track_line : ℕ → ℕ → MediaTicks → ℕ → List ℕ
track_line t h ticks scale = labelled (text "track ") t ++ text " " ++ handler_text h ++ labelled (text " ") ticks.0 ++ labelled (text "/") scale ++ text "\n"

-- "entry 1 track 1 samr"
unfoldable pub entry_named : ℕ → ℕ → ℕ → List ℕ
entry_named i t c = labelled (text "entry ") i ++ labelled (text " track ") t ++ text " " ++ code_text c

-- " place 397 size 53"
unfoldable pub entry_placed : ℕ → ℕ → List ℕ
entry_placed place span = labelled (text " place ") place ++ labelled (text " size ") span ++ text "\n"

-- entry i of a file
unfoldable pub entry_line : ℕ → Entry → List ℕ
entry_line i e = entry_named i e.track (word 4 e.bytes 4) ++ entry_placed e.place (length e.bytes)

-- an answer of 1 is yes
unfoldable pub yes_text : ℕ → List ℕ
yes_text k = if_eq k 0 (text " no\n") (text " yes\n")

-- "brand 3gp4 no"
unfoldable pub brand_line : ℕ → ℕ → List ℕ
brand_line code k = text "brand " ++ bytes 4 code ++ yes_text k

-- "A refused file gives one line, as file 3 at 24."
unfoldable pub refused_line : ℕ → ℕ → List ℕ
refused_line n p = labelled (text "file ") n ++ labelled (text " at ") p ++ text "\n"
