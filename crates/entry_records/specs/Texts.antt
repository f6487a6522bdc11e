-- The bytes that fields make.
use Rattle.std.specs.Prelude.{ℕ, Option, Some, None, List, [], ◌++◌}
use Rattle.wire.specs.Tests.{if_eq}
use Rattle.wire.specs.Numbers.{bytes}
use Rattle.codes.specs.Codes.{S263, DAMR, D263, BITR}
use Rattle.entry_heads.specs.Kinds.{code_of}
use Rattle.entry_heads.specs.Heads.{box_header, audio_head, visual_head}
use Rattle.entry_records.specs.declared.field.Amr.{Amr}
use Rattle.entry_records.specs.declared.field.H263.{H263}
use Rattle.entry_records.specs.declared.field.Record.{Record}
use Rattle.entry_records.specs.declared.field.Record.TheVariants.{Speech, Picture}

-- a head, and a `damr` of 17 bytes
unfoldable pub amr_text : Amr → List ℕ
amr_text f =
    audio_head 53 (code_of f.kind) f.reference f.scale ++ box_header 17 DAMR
    ++ bytes 4 f.vendor ++ bytes 1 f.version ++ bytes 2 f.modes ++ bytes 1 f.period ++ bytes 1 f.frames

-- a head, and a `d263` up to its profile; the two boxes have these sizes
unfoldable pub plain_text : ℕ → ℕ → H263 → List ℕ
plain_text span inner f =
    visual_head span S263 f.reference f.width f.height (bytes 32 0) ++ box_header inner D263
    ++ bytes 4 f.vendor ++ bytes 1 f.version ++ bytes 1 f.level ++ bytes 1 f.profile

-- then nothing, or a `bitr`
unfoldable pub rated_text : H263 → List ℕ
rated_text f = plain_text 117 31 f ++ box_header 16 BITR ++ bytes 4 f.rates.average ++ bytes 4 f.rates.maximum

unfoldable pub h263_text : H263 → List ℕ
h263_text f = if_eq f.rates.given 1 (rated_text f) (plain_text 101 15 f)

abbrev pub text_of : Option Record → List ℕ
text_of (Some (Speech f)) = amr_text f
text_of (Some (Picture f)) = h263_text f
text_of None = []
