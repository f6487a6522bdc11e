-- The `esds` that values make, and which values have one.
use Rattle.std.specs.Prelude.{ℕ, ◌+◌, ◌*◌, ◌≤◌, ◌≡◌, Bool, List, [], ◌∷◌, ◌++◌, length}
use Rattle.wire.specs.Tests.{if_eq}
use Rattle.wire.specs.Clauses.{is_eq, is_lt, every, either}
use Rattle.wire.specs.Numbers.{bytes}
use Rattle.codes.specs.Codes.{ESDS}
use Rattle.entry_heads.specs.Heads.{box_header}
use Rattle.descriptors.specs.Lengths.{TOO_LONG}
use Rattle.descriptors.specs.Parts.{ES, CONFIGURATION, SPECIFIC, SL}
use Rattle.descriptors.specs.Texts.{descriptor_text}
use Rattle.esds.specs.declared.value.Values.{Values}
use Rattle.esds.specs.declared.text.Sizes.{Sizes}

-- ---- the bytes

-- "specific information 5 if there"
unfoldable pub specific_text : Values → List ℕ → List ℕ
specific_text v s = if_eq v.specific 0 [] (descriptor_text SPECIFIC s)

-- the own bytes of the decoder configuration: the byte of the stream type has upstream bit 0 and reserved bit 1
unfoldable pub configuration_text : Values → List ℕ
configuration_text v = bytes 1 v.object ++ bytes 1 (4 * v.stream + 1) ++ bytes 3 v.buffer ++ bytes 4 v.maximum ++ bytes 4 v.average

-- the contents of the decoder configuration, and of the ES descriptor, with flags 0
unfoldable pub configuration_body : Values → List ℕ → List ℕ
configuration_body v s = configuration_text v ++ specific_text v s

unfoldable pub es_body : Values → List ℕ → List ℕ
es_body v s =
    bytes 2 v.number ++ bytes 1 0 ++ descriptor_text CONFIGURATION (configuration_body v s) ++ descriptor_text SL (bytes 1 2)

unfoldable pub es_text : Values → List ℕ → List ℕ
es_text v s = descriptor_text ES (es_body v s)

-- the box: its header, four zero bytes, and the descriptors
abbrev pub BEFORE : ℕ
BEFORE = 12

unfoldable pub esds_text : Values → List ℕ → List ℕ
esds_text v s = box_header (BEFORE + length (es_text v s)) ESDS ++ bytes 4 0 ++ es_text v s

-- ---- 50

-- specific information is there or not, and has no bytes where it isn't
unfoldable pub specific_rule : Values → List ℕ → Bool
specific_rule v s = either (is_eq v.specific 1 ∷ every (is_eq v.specific 0 ∷ is_eq (length s) 0 ∷ []) ∷ [])

-- every number fits its place, and no contents are "too long for four length bytes"
unfoldable pub values_rule : Values → List ℕ → Bool
values_rule v s =
    every
    (is_lt v.number 65536
    ∷ is_lt v.object 256
    ∷ is_lt v.stream 64
    ∷ is_lt v.buffer 16777216
    ∷ is_lt v.maximum 4294967296
    ∷ is_lt v.average 4294967296
    ∷ specific_rule v s
    ∷ is_lt (length s) TOO_LONG
    ∷ is_lt (length (configuration_body v s)) TOO_LONG
    ∷ is_lt (length (es_body v s)) TOO_LONG
    ∷ [])

-- ---- how long it gets

pub record SizesOf (v : Values) (s : List ℕ) (z : Sizes) : Type 0 where
  pub configuration : z.configuration ≡ length (configuration_body v s)
  pub es : z.es ≡ length (es_body v s)
  pub whole : z.whole ≡ length (esds_text v s)
  pub most : z.whole ≤ length s + 100
