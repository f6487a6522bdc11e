use Rattle.wire.proofs.Clauses.{is_eq_lem}
use Rattle.wire.proofs.Numbers.{word_out, zeros_is}
use Prim.Native.Nat.{◌+◌, ◌-◌}
use mathlib.Core.Path.{◌≡◌, sym}
use native.Mathlib.Omega.{arith}
use Rattle.wire.proofs.number.zeros.Goals as goal

pub returns-then-part-at : goal.returns-then-part-at
returns-then-part-at c = sym (is_eq_lem _ _ (word_out _ _ _ (omega arith)))

pub returns-then-part-at-2 : goal.returns-then-part-at-2
returns-then-part-at-2 c = sym (is_eq_lem _ _ (word_out _ _ _ (omega arith)))

pub returns : goal.returns
returns c = let a = c.args in
    let e : a.at + a.n - a.at ≡ a.n = omega arith in
    zeros_is a.n a.part.now a.at (omega arith) (rw e at c.all_zero.ensures)
