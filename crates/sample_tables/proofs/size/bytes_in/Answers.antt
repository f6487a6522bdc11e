-- A common size is taken n times.
use Rattle.sample_tables.proofs.Sizes.{bytes_common}
use Rattle.sample_tables.proofs.Times.{tick_most}
use native.Mathlib.Omega.{arith}
use Rattle.sample_tables.proofs.size.bytes_in.Goals as goal

pub overflow_mul-result : goal.overflow_mul-result
overflow_mul-result c = omega (arith, tick_most c.args.n c.word32-one.ensures.1)

pub returns-then-one-ne0 : goal.returns-then-one-ne0
returns-then-one-ne0 c = (bytes_common _ _ _ c.word32-one.ensures.0 (omega arith), tick_most _ c.word32-one.ensures.1)

pub few_from-requires : goal.few_from-requires
few_from-requires c = let p = c.requires in (omega arith, omega arith, p.listed (omega arith))

pub many_from-requires : goal.many_from-requires
many_from-requires c = let p = c.requires in (omega arith, omega arith, p.listed (omega arith))
