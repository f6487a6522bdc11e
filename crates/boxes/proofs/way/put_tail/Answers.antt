use Rattle.boxes.proofs.Putting.{take_size, next_take, tail_put}
use lib.ListN.{length-take}
use native.Mathlib.Omega.{arith}
use Rattle.boxes.proofs.way.put_tail.Goals as goal

pub slice_bounds-put_part-end : goal.slice_bounds-put_part-end
slice_bounds-put_part-end c = take_size _ _ (omega arith)

pub put_part-j-requires : goal.put_part-j-requires
put_part-j-requires c = rw length-take (omega arith)

pub put_part-requires : goal.put_part-requires
put_part-requires c = let h = next_take c.min-n.result c.args.src.now c.put_part-j.ensures in omega arith

pub returns : goal.returns
returns c = tail_put _ _ _ c.min-n.ensures c.put_part-j.ensures c.put_part.ensures
