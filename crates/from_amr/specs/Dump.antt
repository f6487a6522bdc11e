-- From a dump: what the call comes to.
use Rattle.std.specs.Prelude.{ℕ, ◌-◌, Bool, nat_eq, List, [], ◌∷◌, length, drop}
use Rattle.std.specs.List.{starts_with}
use Rattle.wire.specs.Tests.{pick}
use Rattle.wire.specs.Text.{text}
use Rattle.wire.specs.Clauses.{is_le}
use Rattle.boxes.specs.Boxes.{nothing}
use Rattle.rule.specs.Results.{ToWrite, asked, in_limit}
use Rattle.rule.specs.Results.ToWrite.{gives, refuses}
use Rattle.frames.specs.declared.codec.Codec.{Codec}
use Rattle.frames.specs.declared.codec.Codec.TheVariants.{Amr, Wideband}
use Rattle.frames.specs.Frames.{frames, rest}
use Rattle.from_amr.specs.File.{file_of}

-- what a dump opens with (RFC 3267, single channel)
abbrev pub magic : Codec → List ℕ
magic Amr = text "#!AMR\n"
magic Wideband = text "#!AMR-WB\n"

unfoldable pub opens : Codec → List ℕ → Bool
opens k xs = starts_with nat_eq xs (magic k)

-- the dump without its magic
unfoldable pub without_magic : Codec → List ℕ → List ℕ
without_magic k xs = drop (length (magic k)) xs

-- "42 over 65,536 frames"
abbrev pub MOST_FRAMES : ℕ
MOST_FRAMES = 65536

-- the file that frames become, "42 ..; then 24, 25"
unfoldable pub made_of : Codec → List (List ℕ) → ToWrite
made_of k l = asked ((42, is_le (length l) MOST_FRAMES) ∷ (24, in_limit (file_of k l)) ∷ []) (gives (file_of k l))

-- "41 a frame with a padding bit set, an unknown type or cut short, with its place": where what is past the good frames starts
unfoldable pub dump_of : Codec → List ℕ → ToWrite
dump_of k xs =
    pick (nothing (rest k (without_magic k xs)))
    (made_of k (frames k (without_magic k xs)))
    (refuses 41 (length xs - length (rest k (without_magic k xs))))

-- "40 wrong magic", and else by the codec that it names
unfoldable pub from_amr : List ℕ → ToWrite
from_amr xs = pick (opens Amr xs) (dump_of Amr xs) (pick (opens Wideband xs) (dump_of Wideband xs) (refuses 40 0))
