-- 20 for another count of numbers and for another kind; the rest is for their values to say.
use native.Mathlib.Omega.{arith}
use Rattle.esds.proofs.Texts.{write_count, write_other, write_kind}
use Rattle.esds.proofs.write.Goals as goal

pub returns-then-fields-ne8 : goal.returns-then-fields-ne8
returns-then-fields-ne8 c = write_count _ _ _ (λ e. omega arith)

pub returns-then-not-has_esds : goal.returns-then-not-has_esds
returns-then-not-has_esds c = write_other _ _ _ c.values_of-v.ensures c.has_esds.ensures c.if-not-has_esds.true

pub returns : goal.returns
returns c =
    write_kind _ _ _ c.values_of-v.ensures c.has_esds.ensures (omega arith) c.if-not-has_esds.false c.write_values.ensures
