use Rattle.sample_times.proofs.Clocks.{clock_sample, turn_last, turn_behind, turn_at, item_fits, part_fits}
use native.Mathlib.Omega.{arith}
use Rattle.sample_times.proofs.clock.Clock.turn.Goals as goal

pub overflow_sub-over : goal.overflow_sub-over
overflow_sub-over c = let p = c.requires in omega (arith, clock_sample _ _ _ p.1, p.3)

pub overflow_mul-result : goal.overflow_mul-result
overflow_mul-result c = let p = c.requires in
    omega (arith, item_fits _ _ _ p.1 p.3 c.field-counted.ensures.0 c.field-delta.ensures.0 (omega arith) (λ k. (c.type_inv.stts k).fits) p.0)

pub overflow_add-result-then-counted-over-2 : goal.overflow_add-result-then-counted-over-2
overflow_add-result-then-counted-over-2 c = let p = c.requires in
    omega (arith, item_fits _ _ _ p.1 p.3 c.field-counted.ensures.0 c.field-delta.ensures.0 (omega arith) (λ k. (c.type_inv.stts k).fits) p.0)

pub returns-then-counted-over : goal.returns-then-counted-over
returns-then-counted-over c = let p = c.requires in
    turn_behind _ _ _ p.1 p.3 c.field-counted.ensures.0 c.field-delta.ensures.0 (omega arith) (omega arith)

pub overflow_mul-result-then-item-items : goal.overflow_mul-result-then-item-items
overflow_mul-result-then-item-items c = let p = c.requires in
    omega (arith, part_fits _ _ _ p.1 p.3 c.field-counted.ensures.0 c.field-delta.ensures.0 (omega arith) (λ k. (c.type_inv.stts k).fits) p.0 (omega arith))

pub overflow_add-result-then-item-items : goal.overflow_add-result-then-item-items
overflow_add-result-then-item-items c = let p = c.requires in
    omega (arith, part_fits _ _ _ p.1 p.3 c.field-counted.ensures.0 c.field-delta.ensures.0 (omega arith) (λ k. (c.type_inv.stts k).fits) p.0 (omega arith))

pub returns-then-item-items : goal.returns-then-item-items
returns-then-item-items c = let p = c.requires in
    turn_at _ _ _ p.1 p.3 c.field-counted.ensures.0 c.field-delta.ensures.0 (omega arith) (omega arith)

pub returns : goal.returns
returns c = let p = c.requires in turn_last _ _ _ p.1 p.3 p.4 (omega arith)
