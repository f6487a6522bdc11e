-- Releases 4 and 6 of the format: how many frames a sample may have, and which file is held to which.
use Rattle.std.specs.Prelude.{ℕ, List, [], ◌∷◌}
use Rattle.wire.specs.Tests.{pick, if_eq}
use Rattle.wire.specs.Clauses.{every}
use Rattle.codes.specs.Codes.{FTYP, GP4, GP5, GP6, GR6}
use Rattle.boxes.specs.Box.{Box}
use Rattle.boxes.specs.Seek.{find}
use Rattle.release.specs.declared.Release.{Release}
use Rattle.release.specs.declared.Release.TheVariants.{Release4, Release6}
use Rattle.release.specs.Compatible.{brand_listed, brand_missing}

-- its number, as a caller names it
abbrev pub release_number : Release → ℕ
release_number Release4 = 4
release_number Release6 = 6

-- "anything else reads as 6"
unfoldable pub release_named : ℕ → Release
release_named n = if_eq n (release_number Release4) Release4 Release6

-- "frames_per_sample is 1 to 15", and in Release 4 "1 to 255"
abbrev pub most_frames : Release → ℕ
most_frames Release4 = 255
most_frames Release6 = 15

-- "lists 3gp4 and none of 3gp5, 3gp6, 3gr6"
unfoldable pub release_in : List ℕ → Release
release_in ftyp =
    pick (every (brand_listed GP4 ftyp ∷ brand_missing GP5 ftyp ∷ brand_missing GP6 ftyp ∷ brand_missing GR6 ftyp ∷ [])) Release4 Release6

-- of a file with the boxes l
abbrev pub release_of : List Box → Release
release_of l = release_in (find FTYP l)
