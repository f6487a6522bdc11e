-- Refusal 23: no container has a box that an edit doesn't take.
use Rattle.std.specs.Prelude.{ℕ, true, List, [], ◌∷◌}
use Rattle.wire.specs.Tests.{if_eq}
use Rattle.codes.specs.Codes.{MOOV, TRAK, STBL, MOOF, MFRA, SIDX, META, CO64, SAIO}
use Rattle.boxes.specs.Boxes.{boxes}
use Rattle.boxes.specs.Containers.{FILE}
use Rattle.rule.specs.Judge.{Judge}
use Rattle.rule.specs.Rule.{Rule, placed}
use Rattle.rule_shape.specs.Three.{exactly}

-- the codes of which a container of kind k has none where an edit takes the file: "top-level moof, mfra, sidx or meta, meta
-- directly in moov or trak, or co64 or saio in an stbl"
unfoldable pub barred : ℕ → List ℕ
barred k =
    if_eq k FILE (MOOF ∷ MFRA ∷ SIDX ∷ META ∷ [])
    (if_eq k MOOV (META ∷ [])
    (if_eq k TRAK (META ∷ [])
    (if_eq k STBL (CO64 ∷ SAIO ∷ []) [])))

abbrev pub editable_rule : Rule
editable_rule = record { leaf = λ k c b. true; node = λ k xs. exactly 0 (barred k) (boxes xs); end = λ xs. true }

abbrev pub editable_judge : Judge
editable_judge = placed editable_rule
