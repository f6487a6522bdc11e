use native.Mathlib.Omega.{arith}
use Rattle.boxes.proofs.Meaning.{meant_yes, meant_no}
use Rattle.movie.proofs.entry.one_track.Goals as goal

pub returns-then-code-eq-TRAK : goal.returns-then-code-eq-TRAK
returns-then-code-eq-TRAK c = (meant_yes _ _ (λ z. omega arith) (omega arith), omega arith)

pub returns : goal.returns
returns c = (meant_no _ _ (λ z. omega arith) (omega arith), omega arith)
