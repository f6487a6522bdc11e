-- Two halves, joined.
use native.Mathlib.Omega.{arith}
use Rattle.wire.proofs.Numbers.{word_join}
use Rattle.wire.proofs.number.word32_in.Goals as goal

pub returns : goal.returns
returns c = (rw (c.word_in.ensures.0, c.word_in-2.ensures.0) (word_join 2 2 _ _ (omega arith)), omega arith)
