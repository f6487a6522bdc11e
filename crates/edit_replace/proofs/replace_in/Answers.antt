-- No entry 0, an entry at its place, or none past the last.
use Rattle.edit_replace.proofs.Taking.{kind_zero}
use Rattle.edit_replace.proofs.Finding.{found_at}
use Rattle.edit_replace.proofs.Placing.{within, place_exact, none_exact, nowhere_exact}
use native.Mathlib.Omega.{arith}
use Rattle.edit_replace.proofs.replace_in.Goals as goal

pub returns-then-i-eq0 : goal.returns-then-i-eq0
returns-then-i-eq0 c = none_exact _ _ _ c.requires.1 (kind_zero _ _ (omega arith)) _

pub replace_entry-requires : goal.replace_entry-requires
replace_entry-requires c = (c.requires.0, within _ c.args.i c.args.new.now c.requires.1 (found_at _ _ _ (rw c.body.ensures at c.find.ensures) _ c.in-Some.is))

pub returns : goal.returns
returns c = place_exact _ c.args.i _ c.requires.1 (found_at _ _ _ (rw c.body.ensures at c.find.ensures) _ c.in-Some.is) (λ i. (c.type_inv.file i).fits) c.requires.0 (omega arith) c.replace_entry.ensures

pub returns-in_default : goal.returns-in_default
returns-in_default c = nowhere_exact _ c.args.i _ c.requires.1 _ (rw c.body.ensures at c.find.ensures) c.in_default.is _
