-- A box of another code holds nothing; an `mdat` what lies within its payload.
use borrow.Author.Rules.{rules}
use Rattle.mdat.proofs.Searching.{held_other, held_within}
use mathlib.Core.Bool.{true, false}
use native.Mathlib.Omega.{arith}
use Rattle.mdat.proofs.payload.held.Goals as goal

pub returns-then-b-ne-MDAT : goal.returns-then-b-ne-MDAT
returns-then-b-ne-MDAT c = held_other _ _ _ (λ e. omega arith)

pub returns-then-not-within : goal.returns-then-not-within
returns-then-not-within c = held_within _ _ _ {t = false} (omega arith) (search rules)

pub returns : goal.returns
returns c = held_within _ _ _ {t = true} (omega arith) (search rules)
