use borrow.Author.Rules.{rules}
use Rattle.sample_tables.proofs.Times.{left_none, left_more, tick_none, tick_more, tick_most}
use mathlib.Core.Path.{◌≡◌}
use native.Mathlib.Omega.{arith}
use Rattle.sample_tables.proofs.time.tick_at.Goals as goal

pub loop-i-init : goal.loop-i-init
loop-i-init c = (search rules, search rules, left_none _ _, tick_none _ _, search rules)

pub overflow_mul-sum : goal.overflow_mul-sum
overflow_mul-sum c = omega (arith, tick_most c.min-counted.result c.field-delta.ensures.1)

pub overflow_add-sum : goal.overflow_add-sum
overflow_add-sum c = omega (arith, tick_most c.min-counted.result c.field-delta.ensures.1)

pub overflow_sub-left : goal.overflow_sub-left
overflow_sub-left c = omega arith

pub loop-i-preserved : goal.loop-i-preserved
loop-i-preserved c = let v = c.loop-i.invariant in let p = c.field.ensures.0 in let q = c.min-counted.ensures in
    (search rules, search rules, left_more _ _ _ v.2 p q, omega (arith, tick_more _ _ _ v.2 p q c.field-delta.ensures.0), omega (arith, tick_most c.min-counted.result c.field-delta.ensures.1))

pub returns : goal.returns
returns c = let e : c.loop-i.i ≡ c.items-n.result = omega arith in cc
