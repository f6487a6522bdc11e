-- The pieces put, and then `moov` closed and the offsets moved where it now stands, are the move that is meant.
use Rattle.edit_move.proofs.Calls.{move_from, move_room, move_done}
use native.Mathlib.Omega.{arith}
use Rattle.edit_move.proofs.shift.Goals as goal

pub arrange-n-requires : goal.arrange-n-requires
arrange-n-requires c = (move_from _ c.requires.0 (λ i. (c.type_inv.file i).fits) c.requires.1 _ c.requires.2, c.requires.1.inside, c.requires.0.most)

pub close-requires : goal.close-requires
close-requires c = omega (arith, (move_room _ c.requires.0 (λ i. (c.type_inv.file i).fits) c.requires.1 _ c.requires.2 c.arrange-n.ensures c.requires.3).1, c.requires.1.eight, c.requires.1.least)

pub overflow_add-b : goal.overflow_add-b
overflow_add-b c = omega (arith, c.requires.1.inside, c.requires.0.most)

pub settle-requires : goal.settle-requires
settle-requires c = (c.requires.1.least, omega (arith, (move_room _ c.requires.0 (λ i. (c.type_inv.file i).fits) c.requires.1 _ c.requires.2 c.arrange-n.ensures c.requires.3).1), record { low = omega (arith, c.requires.1.inside, c.requires.0.most); high = omega arith })

pub returns : goal.returns
returns c = move_done _ c.requires.0 (λ i. (c.type_inv.file i).fits) c.requires.1 _ c.requires.2 c.arrange-n.ensures c.requires.3 c.close.ensures c.settle.ensures
