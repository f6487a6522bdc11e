-- At most 320 for each.
use native.Mathlib.Omega.{arith}
use native.Mathlib.Nat.{mul-le-mul_left}
use mathlib.Core.Path.{ap}
use Prim.Native.Nat.{ℕ, ◌*◌}
use Rattle.from_amr.proofs.table.ticks_of.Goals as goal

pub overflow_mul-result : goal.overflow_mul-result
overflow_mul-result c = record { fits = omega (arith, mul-le-mul_left c.args.n c.sample_ticks.ensures.1) }

pub returns : goal.returns
returns c = ap (λ (m : ℕ). c.args.n * m) c.sample_ticks.ensures.0
