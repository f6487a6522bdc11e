-- The file copied, its `moov` closed, and then one pass over it.
use native.Mathlib.Omega.{arith}
use Rattle.edit_shift.proofs.OnePass.{one_pass}
use Rattle.edit_shift.proofs.put_shifted.Goals as goal

pub close-requires : goal.close-requires
close-requires c = let p = c.requires.3 in omega (arith, p.inside, p.eight, p.least)

pub reword_moov-requires : goal.reword_moov-requires
reword_moov-requires c = (c.requires.3.least, omega (arith, c.requires.3.inside), c.requires.0)

pub returns : goal.returns
returns c =
    one_pass _ _ (λ i. (c.type_inv.file i).fits) c.requires.2 c.requires.3 c.copy.ensures c.close.ensures
    c.headers.ensures c.reword_moov.ensures
