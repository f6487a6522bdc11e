use Rattle.mdat.proofs.Indexing.{index_note}
use lib.ListN.{length-set}
use mathlib.Core.Path.{refl}
use native.Mathlib.Omega.{arith}
use Rattle.mdat.proofs.index.note.Goals as goal

pub loop-j-init : goal.loop-j-init
loop-j-init c = (refl, omega arith, λ xs s i. i)

pub overflow_mul-j : goal.overflow_mul-j
overflow_mul-j c = record { fits = omega arith }

pub returns-then-end-j : goal.returns-then-end-j
returns-then-end-j c = let l = c.loop-j in record { same = l.invariant.0; past = λ h. omega arith; kept = l.invariant.2 }

pub overflow_cast-index : goal.overflow_cast-index
overflow_cast-index c = let h = c.requires.1 (omega arith) in record { fits = omega arith }

pub offset_bounds-index-j : goal.offset_bounds-index-j
offset_bounds-index-j c = record { fits = omega arith }

pub loop-j-preserved : goal.loop-j-preserved
loop-j-preserved c = let h = c.requires.1 (omega arith) in let l = c.loop-j in
    (simp length-set l.invariant.0, omega arith, λ xs s i. index_note l.j _ (omega arith) (omega arith) s (l.invariant.2 xs s i))

pub returns : goal.returns
returns c = let l = c.loop-j in record { same = l.invariant.0; past = λ h. omega arith; kept = l.invariant.2 }
