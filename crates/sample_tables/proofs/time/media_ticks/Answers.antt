use borrow.Author.Rules.{rules}
use Rattle.sample_tables.proofs.Times.{ticks_none, ticks_more, ticks_fit}
use mathlib.Core.Path.{◌≡◌}
use native.Mathlib.Omega.{arith}
use Rattle.sample_tables.proofs.time.media_ticks.Goals as goal

pub loop-i-init : goal.loop-i-init
loop-i-init c = (search rules, search rules, ticks_none _)

pub overflow_mul-sum : goal.overflow_mul-sum
overflow_mul-sum c = omega (arith, ticks_fit _ _ c.field-counted.ensures.0 c.field-delta.ensures.0 (λ k. (c.type_inv.stts k).fits) (omega arith) (omega arith))

pub overflow_add-sum : goal.overflow_add-sum
overflow_add-sum c = omega (arith, ticks_fit _ _ c.field-counted.ensures.0 c.field-delta.ensures.0 (λ k. (c.type_inv.stts k).fits) (omega arith) (omega arith))

pub loop-i-preserved : goal.loop-i-preserved
loop-i-preserved c = (search rules, search rules, omega (arith, ticks_more _ _ c.field-counted.ensures.0 c.field-delta.ensures.0))

pub returns : goal.returns
returns c = let e : c.loop-i.i ≡ c.items-n.result = omega arith in cc
