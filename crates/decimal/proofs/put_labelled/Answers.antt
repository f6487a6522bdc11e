-- The label, and then the number.
use Rattle.decimal.proofs.Digits.{put_label}
use native.Mathlib.Omega.{arith}
use Rattle.decimal.proofs.put_labelled.Goals as goal

pub returns : goal.returns
returns c = put_label _ _ c.put_part-m.ensures c.put_decimal.ensures (omega arith)
