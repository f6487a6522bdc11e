-- Salvage: what is kept of a file that wasn't finished, what is dropped of it, what is told of that, and what the call comes to.
use Rattle.std.specs.Prelude.{ℕ, ◌-◌, List, [], ◌∷◌, length, drop}
use Rattle.wire.specs.Clauses.{is_le}
use Rattle.boxes.specs.Boxes.{HEAD}
use Rattle.rule.specs.Results.{ToWrite, asked, length_fine, in_limit, Reports}
use Rattle.rule.specs.Results.ToWrite.{gives}
use Rattle.frames.specs.declared.codec.Codec.{Codec}
use Rattle.frames.specs.Frames.{frames_to, joined}
use Rattle.from_amr.specs.File.{file_of}
use Rattle.from_amr.specs.Dump.{MOST_FRAMES}
use Rattle.salvage.specs.Unfinished.{size_field, behind_ftyp, unfinished}
use Rattle.rule.specs.Answers.{Answer}

-- the payload of the `mdat`
unfoldable pub payload_of : List ℕ → List ℕ
payload_of xs = drop HEAD (behind_ftyp xs)

-- "whole good frames from the payload's start up to the first bad one or 65,536"
unfoldable pub kept_frames : Codec → List ℕ → List (List ℕ)
kept_frames k xs = frames_to MOST_FRAMES k (payload_of xs)

abbrev pub kept : Codec → List ℕ → List ℕ
kept k xs = joined (kept_frames k xs)

-- the bytes of the payload past them
unfoldable pub dropped : Codec → List ℕ → List ℕ
dropped k xs = drop (length (kept k xs)) (payload_of xs)

-- "the place of the first (the file's length if none)": so many bytes before the end
abbrev pub first_dropped : Codec → List ℕ → ℕ
first_dropped k xs = length xs - length (dropped k xs)

-- "old size field, frames kept, bytes dropped and the place of the first"
abbrev pub report_of : Codec → List ℕ → List ℕ
report_of k xs = size_field (behind_ftyp xs) ∷ length (kept_frames k xs) ∷ length (dropped k xs) ∷ first_dropped k xs ∷ []

-- "builds K5's file from them"
abbrev pub salvaged : Codec → List ℕ → List ℕ
salvaged k xs = file_of k (kept_frames k xs)

-- "1 as before, then 60 not such a file, 61 no frame, then 24, 25": the last of either room, that of the report having so many numbers
unfoldable pub salvage_result : Codec → List ℕ → (numbers : ℕ) → ToWrite
salvage_result k xs numbers =
    asked
    ((1, length_fine xs)
    ∷ (60, unfinished xs)
    ∷ (61, is_le 1 (length (kept_frames k xs)))
    ∷ (24, in_limit (salvaged k xs))
    ∷ (25, is_le (length (report_of k xs)) numbers)
    ∷ [])
    (gives (salvaged k xs))

-- what the call promises of both rooms
abbrev pub Salvages : Codec → (file out : List ℕ) → Answer → (left report after : List ℕ) → Type 0
Salvages k xs out r left report after = Reports (salvage_result k xs (length report)) (report_of k xs) out r left report after
