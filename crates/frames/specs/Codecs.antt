-- The two codecs: AMR, and wideband AMR.
use Rattle.std.specs.Prelude.{ℕ, List, [], ◌∷◌, length, get_or}
use Rattle.wire.specs.Tests.{if_eq, if_lt}
use Rattle.frames.specs.declared.codec.Codec.{Codec}
use Rattle.frames.specs.declared.codec.Codec.TheVariants.{Amr, Wideband}

-- the codec that a caller names by a number: 0 is AMR, and any other is wideband
unfoldable pub codec_named : ℕ → Codec
codec_named n = if_eq n 0 Amr Wideband

-- "Data bytes after the frame header for types 0 to 8 are 12, 13, 15, 17, 19, 20, 26, 31, 5 in AMR", "for wideband types 0 to 9 they
-- are 17, 23, 32, 36, 40, 46, 50, 58, 60, 5"
abbrev pub sizes : Codec → List ℕ
sizes Amr = 12 ∷ 13 ∷ 15 ∷ 17 ∷ 19 ∷ 20 ∷ 26 ∷ 31 ∷ 5 ∷ []
sizes Wideband = 17 ∷ 23 ∷ 32 ∷ 36 ∷ 40 ∷ 46 ∷ 50 ∷ 58 ∷ 60 ∷ 5 ∷ []

-- "and 0 for 15", "and 0 for 14 and 15": the first type without data
abbrev pub bare : Codec → ℕ
bare Amr = 15
bare Wideband = 14

-- what stands for the data bytes of a type that a codec doesn't have: more than any type has
abbrev pub NONE : ℕ
NONE = 255

-- the data bytes of a type, 0 to 15
unfoldable pub data_bytes : Codec → ℕ → ℕ
data_bytes k t = if_lt t (length (sizes k)) (get_or (sizes k) t 0) (if_lt t (bare k) NONE 0)
