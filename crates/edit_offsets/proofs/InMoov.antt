-- Chunk offsets stand in `moov`: who settles that has settled the file. Assumes nothing.
use Prim.Native.Nat.{ℕ}
use native.Mathlib.Omega.{arith}
use mathlib.Core.Path.{◌≡◌, sym, ◌∙◌}
use mathlib.Core.List.{List, ◌++◌}
use Rattle.codes.specs.Codes.{MOOV}
use Rattle.wire.specs.Numbers.{Bytes}
use Rattle.boxes.specs.declared.walk.BoxAt.{BoxAt}
use Rattle.boxes.specs.Containers.{FILE, DEPTH}
use Rattle.boxes.specs.Walk.{payload}
use Rattle.boxes.specs.Rewrite.{edit_in, in_body}
use Rattle.boxes.specs.Words.{reword_leaf}
use Rattle.boxes.proofs.InMoov.{OneMoov, moov_edit}
use Rattle.boxes.proofs.Wording.{leaf_kind, leaf_length}
use Rattle.edit_offsets.specs.Settle.{offsets}

-- of the file zs at the front of what is lent
pub settle_file : (f : ℕ → ℕ) (zs rest : List ℕ) {mid after : List ℕ} {b : BoxAt} → Bytes zs → OneMoov zs b → mid ≡ zs ++ rest
    → after ≡ in_body mid b (edit_in (reword_leaf offsets f) 5 MOOV (payload mid b)) → after ≡ edit_in (reword_leaf offsets f) DEPTH FILE zs ++ rest
settle_file f zs rest {b = b} v o e q =
    rw e at q ∙ moov_edit (reword_leaf offsets f) (λ c d. sym (leaf_kind offsets f FILE c d (λ z. omega arith))) (leaf_length offsets f) zs rest v b o
