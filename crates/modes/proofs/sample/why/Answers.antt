-- The three tests in their order.
use native.Mathlib.Omega.{arith}
use Rattle.modes.proofs.Whys.{why_torn, why_count, why_bits, why_none}
use Rattle.modes.proofs.sample.why.Goals as goal

pub returns-then-run-part : goal.returns-then-run-part
returns-then-run-part c = why_torn _ _ _ c.read-run.ensures (omega arith)

pub returns-then-not-count_fits : goal.returns-then-not-count_fits
returns-then-not-count_fits c = why_count _ _ _ c.read-run.ensures (omega arith) c.count_fits.ensures c.if-not-count_fits.true

pub returns-then-not-all_set : goal.returns-then-not-all_set
returns-then-not-all_set c =
    why_bits _ _ _ c.read-run.ensures (omega arith) c.count_fits.ensures c.if-not-count_fits.false
    c.all_set.ensures c.if-not-all_set.true

pub returns : goal.returns
returns c =
    why_none _ _ _ c.read-run.ensures (omega arith) c.count_fits.ensures c.if-not-count_fits.false
    c.all_set.ensures c.if-not-all_set.false
