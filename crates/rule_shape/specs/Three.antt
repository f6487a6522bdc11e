-- Rule 3: which boxes each container has to have, and how many.
use Rattle.std.specs.Prelude.{ℕ, Bool, true, false, List, [], ◌∷◌}
use Rattle.wire.specs.Tests.{pick, if_eq}
use Rattle.wire.specs.Clauses.{is_eq, is_le, every}
use Rattle.codes.specs.Codes.{FTYP, MOOV, MVHD, TRAK, TKHD, MDIA, MDHD, HDLR, MINF, DINF, DREF, STBL, STSD, STTS, STSC, STSZ, STCO}
use Rattle.boxes.specs.Box.{Box}
use Rattle.boxes.specs.Boxes.{boxes}
use Rattle.boxes.specs.Containers.{FILE}
use Rattle.boxes.specs.Seek.{count}
use Rattle.rule.specs.Judge.{Judge}
use Rattle.rule.specs.Rule.{Rule, placed}

-- the codes of which a container of kind k has exactly one
unfoldable pub needed : ℕ → List ℕ
needed k =
    if_eq k FILE (FTYP ∷ MOOV ∷ [])
    (if_eq k MOOV (MVHD ∷ [])
    (if_eq k TRAK (TKHD ∷ MDIA ∷ [])
    (if_eq k MDIA (MDHD ∷ HDLR ∷ MINF ∷ [])
    (if_eq k MINF (DINF ∷ STBL ∷ [])
    (if_eq k DINF (DREF ∷ [])
    (if_eq k STBL (STSD ∷ STTS ∷ STSC ∷ STSZ ∷ STCO ∷ []) []))))))

-- exactly n boxes of each code
unfoldable pub exactly : ℕ → List ℕ → List Box → Bool
exactly n [] l = true
exactly n (c ∷ cs) l = pick (is_eq (count c l) n) (exactly n cs l) false

-- the code of the first box, and 0 where there is none
unfoldable pub first : List Box → ℕ
first [] = 0
first (x ∷ l) = x.code

-- besides: in the file `ftyp` first, in `moov` 1 to 4 `trak`
unfoldable pub besides : ℕ → List Box → Bool
besides k l =
    if_eq k FILE (is_eq (first l) FTYP)
    (if_eq k MOOV (every (is_le 1 (count TRAK l) ∷ is_le (count TRAK l) 4 ∷ [])) true)

-- the boxes l of a container of kind k are those of rule 3
unfoldable pub shape : ℕ → List Box → Bool
shape k l = every (exactly 1 (needed k) l ∷ besides k l ∷ [])

abbrev pub three_rule : Rule
three_rule = record { leaf = λ k c b. true; node = λ k xs. shape k (boxes xs); end = λ xs. true }

abbrev pub three : Judge
three = placed three_rule
