-- `numbers::put_h263` meets its contract. Assumes nothing.
use mathlib.Core.Path.{refl}
use native.Mathlib.Omega.{arith}
use Rattle.rule.proofs.Results.{exact_short}
use Rattle.entry_fields.proofs.Answering.{front_fits}
use Rattle.entry_fields.proofs.numbers.put_h263.Goals as goal

pub returns-then-out-lt11 : goal.returns-then-out-lt11
returns-then-out-lt11 c = exact_short _ _ (omega arith)

pub returns : goal.returns
returns c = front_fits _ _ refl (omega arith) c.copy_from_slice.ensures.after
