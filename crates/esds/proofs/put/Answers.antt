-- Ten numbers at the front.
use native.Mathlib.Omega.{arith}
use mathlib.Core.Path.{refl, ap}
use mathlib.Core.List.{List, ◌++◌}
use Prim.Native.Nat.{ℕ}
use lib.ListN.{drop}
use Rattle.rule.proofs.Results.{exact_short, exact_wrote}
use Rattle.esds.proofs.put.Goals as goal

pub returns-then-out-lt10 : goal.returns-then-out-lt10
returns-then-out-lt10 c = exact_short _ _ (omega arith)

pub returns : goal.returns
returns c = exact_wrote _ _ (omega arith) (record { span = refl; is = ap (λ (xs : List ℕ). xs ++ drop 10 c.args.out.now) c.copy_from_slice.ensures.after })
