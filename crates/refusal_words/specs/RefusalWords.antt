-- What a refusal says to people: its number, its place, and what the number means.
use Rattle.std.specs.Prelude.{ℕ, List, [], ◌∷◌, ◌++◌}
use Prim.Native.String.{String}
use Rattle.wire.specs.Tests.{if_eq, if_le}
use Rattle.wire.specs.Text.{text}
use Rattle.decimal.specs.Decimal.{labelled}

-- a number, and what it means
pub record Meaning : Type 0 where
  pub number : ℕ
  pub words : String

abbrev ◌means◌ : ℕ → String → Meaning
n means w = record { number = n; words = w }

infix 60 ◌means◌
-- all refusals: of the file by its rules, of what was asked for, of the result, of the sheet, of the dump and of the recording that broke off
abbrev pub meanings : List Meaning
meanings =
    (1 means "the length is not 8 to 1,048,576 bytes")
    ∷ (2 means "boxes do not tile the file or a container from here on")
    ∷ (3 means "a box that must be here is missing, or is here too often")
    ∷ (4 means "a brand list, a header or a track ID is not as it must be")
    ∷ (5 means "a list of entries is not as its count says, or there are more than 32 sample entries")
    ∷ (6 means "a sample table is not as long as its count says")
    ∷ (7 means "the sample tables of a track do not agree")
    ∷ (8 means "a chunk lies outside every mdat")
    ∷ (9 means "a data reference is not to this very file")
    ∷ (10 means "a sample entry breaks its rule")
    ∷ (20 means "no such entry or track, or one that takes no such record")
    ∷ (21 means "the record is not one whole box that meets its rule")
    ∷ (22 means "minutes outside -840 to 840, or a time that would leave 1 to 4,294,967,295")
    ∷ (23 means "no edit takes this file, for a moof, mfra, sidx, meta, co64 or saio in it")
    ∷ (24 means "the result would pass 1,048,576 bytes")
    ∷ (25 means "the room is shorter than the result")
    ∷ (30 means "the sheet is malformed")
    ∷ (40 means "this is no dump of AMR or wideband AMR with one channel")
    ∷ (41 means "the frame here has a padding bit set, is of an unknown type or is cut short")
    ∷ (42 means "there are more than 65,536 frames")
    ∷ (60 means "this is not an ftyp and right after it one mdat with size 0 or past the end, and nothing else")
    ∷ (61 means "no whole good frame stands at the start of the mdat")
    ∷ []

-- the words of the first row that has a number
unfoldable pub words_in : List Meaning → ℕ → List ℕ
words_in [] n = text "no such refusal"
words_in (row ∷ rows) n = if_eq n row.number (text row.words) (words_in rows n)

unfoldable pub refusal_words : ℕ → List ℕ
refusal_words n = words_in meanings n

-- "Places for 20 and above are 0", and are not told, but for "41 .. with its place"
unfoldable pub place_words : ℕ → ℕ → List ℕ
place_words n p = if_le n 10 (labelled (text " at ") p) (if_eq n 41 (labelled (text " at ") p) (text ""))

-- "refused 8 at 412: a chunk lies outside every mdat"
unfoldable pub refused_text : ℕ → ℕ → List ℕ
refused_text n p = labelled (text "refused ") n ++ place_words n p ++ text ": " ++ refusal_words n ++ text "\n"
