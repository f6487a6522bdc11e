-- The file of the printed listing with headers of other forms, where they may stand and where not.
use Rattle.std.specs.Prelude.{ℕ, ◌+◌, List, [], ◌∷◌}
use Rattle.codes.specs.Codes.{MOOV, SAMR, SOUN}
use Rattle.boxes.specs.declared.walk.Form.{Form}
use Rattle.boxes.specs.declared.walk.Form.TheVariants.{Plain, Wide, Open}
use Rattle.boxes.specs.Box.{Box, plain_box, head_of, write}
use Rattle.promises.specs.Example.{ftyp_box, moov_boxes, mdia_boxes, moov_box, mdat_box, speech}

-- the same box in another form
abbrev pub form_box : Form → Box → Box
form_box f x = record { form = f; code = x.code; body = x.body }

-- a list with its last box open
abbrev pub open_last : List Box → List Box
open_last [] = []
open_last (x ∷ []) = form_box Open x ∷ []
open_last (x ∷ y ∷ l) = x ∷ open_last (y ∷ l)

-- `moov` and `mdat` in forms f and g: the payload of `mdat` starts behind both headers and 538 bytes
abbrev pub file_in : Form → Form → List ℕ
file_in f g = write (ftyp_box ∷ form_box f (moov_box 0 SOUN (speech SAMR) (538 + head_of f + head_of g)) ∷ form_box g mdat_box ∷ [])

-- `mdat` first, its payload 32 bytes into the file, and `moov` last
abbrev pub movie_last : Box → List ℕ
movie_last moov = write (ftyp_box ∷ mdat_box ∷ moov ∷ [])

-- wide boxes, an open `mdat`, an open `moov`; an open `trak`, which rule 2 refuses
abbrev pub other_forms : List (List ℕ)
other_forms =
    file_in Wide Plain
    ∷ file_in Wide Wide
    ∷ file_in Plain Open
    ∷ movie_last (form_box Open (moov_box 0 SOUN (speech SAMR) 32))
    ∷ movie_last (plain_box MOOV (write (open_last (moov_boxes 0 (mdia_boxes SOUN (speech SAMR) 32)))))
    ∷ []
