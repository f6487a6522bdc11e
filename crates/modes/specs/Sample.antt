-- One sample of speech: "whole frames, as many as frames_per_sample except fewer in the last sample of the track, never none, each type's
-- bit set (type 14 exempt)".
use Rattle.std.specs.Prelude.{ℕ, ◌/◌, ◌%◌, ◌^◌, Bool, true, false, List, [], ◌∷◌, length, Option, Some, None}
use Rattle.wire.specs.Tests.{pick, if_eq}
use Rattle.wire.specs.Clauses.{is_eq, is_le, every}
use Rattle.wire.specs.Numbers.{word}
use Rattle.frames.specs.declared.codec.Codec.{Codec}
use Rattle.frames.specs.declared.codec.Codec.TheVariants.{Amr, Wideband}
use Rattle.frames.specs.Frames.{type_of, frames, rest}
use Rattle.entry_heads.specs.Kinds.{SamrKind, kind_of}
use Rattle.entry_records.specs.Fields.{amr_in}
use Rattle.modes.specs.declared.reason.Reason.{Reason}
use Rattle.modes.specs.declared.reason.Reason.TheVariants.{BadFrame, WrongCount, BitNotSet}
use Rattle.modes.specs.declared.speech.Speech.{Speech}

-- ---- what its description says, an entry whose bytes are xs

unfoldable pub codec_of : List ℕ → Codec
codec_of xs = if_eq (kind_of (word 4 xs 4)) SamrKind Amr Wideband

-- its mode_set and its frames_per_sample
unfoldable pub speech_of : List ℕ → Speech
speech_of xs = record { codec = codec_of xs; modes = (amr_in SamrKind xs).modes; frames = (amr_in SamrKind xs).frames }

-- ---- what is asked of its bytes xs

-- no byte stands past its good frames
unfoldable pub whole_frames : Codec → List ℕ → Bool
whole_frames k xs = is_eq (length (rest k xs)) 0

-- of the n frames of a sample with so many samples after it
unfoldable pub count_fits : (most left n : ℕ) → Bool
count_fits most left n = every (is_le 1 n ∷ if_eq left 0 (is_le n most) (is_eq n most) ∷ [])

unfoldable pub bit_set : ℕ → ℕ → Bool
bit_set modes t = if_eq t 14 true (is_eq (modes / 2 ^ t % 2) 1)

unfoldable pub all_set : ℕ → List (List ℕ) → Bool
all_set modes [] = true
all_set modes (f ∷ l) = pick (bit_set modes (type_of f)) (all_set modes l) false

-- ---- why it fails

-- 1 "a bad frame (as in 41)", 2 "a wrong count", 3 "a bit not set"
abbrev pub reason_number : Reason → ℕ
reason_number BadFrame = 1
reason_number WrongCount = 2
reason_number BitNotSet = 3

-- the reason of the first test that fails, nothing where all hold
unfoldable pub first_not : List (Reason × Bool) → Option Reason
first_not [] = None
first_not (t ∷ ts) = pick t.1 (first_not ts) (Some t.0)

-- "tested in that order"
unfoldable pub why : Speech → ℕ → List ℕ → Option Reason
why d left xs =
    first_not
    ((BadFrame, whole_frames d.codec xs)
    ∷ (WrongCount, count_fits d.frames left (length (frames d.codec xs)))
    ∷ (BitNotSet, all_set d.modes (frames d.codec xs))
    ∷ [])
