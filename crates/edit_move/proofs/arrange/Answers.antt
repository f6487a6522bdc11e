use Rattle.boxes.proofs.Putting.{take_size}
use Rattle.edit_move.proofs.Pieces.{second_room, third_room, fourth_room, pieces_put}
use lib.ListN.{length-take}
use native.Mathlib.Omega.{arith}
use Rattle.edit_move.proofs.arrange.Goals as goal

pub slice_bounds-put_part-end : goal.slice_bounds-put_part-end
slice_bounds-put_part-end c = take_size _ _ (omega arith)

pub put_part-i-requires : goal.put_part-i-requires
put_part-i-requires c = rw length-take (omega arith)

pub put_part-j-requires : goal.put_part-j-requires
put_part-j-requires c = let a = c.args in second_room a.f a.b a.file.now c.put_part-i.ensures (omega arith)

pub put_part-k-requires : goal.put_part-k-requires
put_part-k-requires c = let a = c.args in third_room a.f a.b a.file.now c.put_part-i.ensures c.put_part-j.ensures (omega arith)

pub put_part-requires : goal.put_part-requires
put_part-requires c = let a = c.args in fourth_room a.f a.b a.file.now c.put_part-i.ensures c.put_part-j.ensures c.put_part-k.ensures (omega arith)

pub returns : goal.returns
returns c = let a = c.args in pieces_put a.f a.b a.file.now c.put_part-i.ensures c.put_part-j.ensures c.put_part-k.ensures (omega arith) c.put_part.ensures
