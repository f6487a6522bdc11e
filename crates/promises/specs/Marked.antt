-- The marked cases M1 to M12, as one table.
use Rattle.std.specs.Prelude.{ℕ, Bool, true, ◌&&◌, None, List, [], ◌∷◌, ◌++◌, map, eqb, ℤ, pos}
use Rattle.wire.specs.Clauses.{one_if}
use Rattle.wire.specs.Numbers.{bytes}
use Rattle.codes.specs.Codes.{FTYP, SAMR, SAWB, SOUN, ISOM, GP4, GP5, GP6}
use Rattle.boxes.specs.Box.{plain_box, write}
use Rattle.release.specs.declared.Release.{Release}
use Rattle.release.specs.declared.Release.TheVariants.{Release4, Release6}
use Rattle.entry_rules.specs.Entries.{in_track, entry_rule}
use Rattle.rule.specs.Answers.{answer_number}
use Rattle.rule.specs.Results.{answer_in}
use Rattle.judge.specs.Judgement.{judged, judged_number, judged_place}
use Rattle.edit_shift.specs.Shift.{shift_result}
use Rattle.promises.specs.Example.{zeros, moov_box, mdat_box, file_at, speech}

-- M1 with another code, TimeScale, mode_set, period and frames, and whether it is accepted
pub record Case : Type 0 where
  pub code : ℕ
  pub scale : ℕ
  pub modes : ℕ
  pub period : ℕ
  pub frames : ℕ
  pub fine : ℕ

abbrev pub case : ℕ → ℕ → ℕ → ℕ → ℕ → ℕ → Case
case code scale modes period frames fine = record { code = code; scale = scale; modes = modes; period = period; frames = frames; fine = fine }

-- byte for byte as the paper has it
abbrev pub entry : Case → List ℕ
entry c =
    bytes 4 0x00000035 ++ bytes 4 c.code ++ bytes 6 0x000000000000 ++ bytes 2 0x0001 ++ bytes 8 0x0000000000000000
    ++ bytes 2 0x0002 ++ bytes 2 0x0010 ++ bytes 4 0x00000000 ++ bytes 2 c.scale ++ bytes 2 0x0000
    ++ bytes 4 0x00000011 ++ bytes 4 0x64616D72 ++ bytes 4 0x5658595A ++ bytes 1 0x00
    ++ bytes 2 c.modes ++ bytes 1 c.period ++ bytes 1 c.frames

abbrev pub cases : List Case
cases =
    case SAMR 8000 0x81FF 0 1 1
    ∷ case SAMR 8000 0x83FF 0 1 0
    ∷ case SAWB 16000 0x83FF 0 1 1
    ∷ case SAMR 8000 0x81FF 0 15 1
    ∷ case SAMR 8000 0x81FF 0 16 0
    ∷ case SAMR 8000 0x81FF 0 0 0
    ∷ case SAMR 8000 0x81FF 2 6 1
    ∷ case SAMR 8000 0x81FF 4 6 0
    ∷ case SAMR 8000 0x81FF 6 2 1
    ∷ []

-- M5's entry in the file of the printed listing, with these brands in its list
abbrev pub branded : ℕ → ℕ → List ℕ
branded a b =
    write (plain_box FTYP (bytes 4 GP6 ++ zeros 4 ++ bytes 4 a ++ bytes 4 b) ∷ moov_box 0 SOUN (entry (case SAMR 8000 0x81FF 0 16 0)) 554 ∷ mdat_box ∷ [])

-- an entry, and whether a release accepts it; a file, and its refusal with the place; a file and minutes, and the refusal of that shift
pub data Row : Type 0 where
  of_entry : Release → Case → Row
  of_file : List ℕ → ℕ → ℕ → Row
  of_shift : List ℕ → ℤ → ℕ → Row

-- M1 to M9 are entries, of Release 6; M5 stands again in Release 4, which accepts it, and in a file of each. M10: length 0. M11: eight bytes, size 0, an open box. M12: time 3600, 60 minutes
abbrev pub marked_cases : List Row
marked_cases =
    map (of_entry Release6) cases
    ++ of_entry Release4 (case SAMR 8000 0x81FF 0 16 1)
    ∷ of_file (branded GP4 ISOM) 0 0
    ∷ of_file (branded GP4 GP5) 10 397
    ∷ of_file [] 1 0
    ∷ of_file (bytes 4 0 ++ bytes 4 0x66726565) 3 0
    ∷ of_shift (file_at 3600 SOUN (speech SAMR)) (pos 60) 22
    ∷ []

abbrev pub as_marked : Row → Bool
as_marked (of_entry release c) =
    eqb (one_if (entry_rule (in_track c.scale SOUN 1) release (entry c))) c.fine && eqb (one_if (entry_rule None release (entry c))) c.fine
as_marked (of_file xs n p) = eqb (judged_number (judged xs)) n && eqb (judged_place (judged xs)) p
as_marked (of_shift xs z n) = eqb (answer_number (answer_in (shift_result z xs) [])) n

abbrev pub all_marked : List Row → Bool
all_marked [] = true
all_marked (r ∷ l) = as_marked r && all_marked l
