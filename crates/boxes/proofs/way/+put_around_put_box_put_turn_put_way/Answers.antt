use Rattle.boxes.proofs.Putting.{take_size, around_room, around_end, around_put, turn_room, way_put}
use Rattle.boxes.proofs.Turning.{pen_box, nth_at, nth_missing, way_end, way_length}
use Rattle.boxes.specs.Way.{turns, tail_by, edit_way}
use Rattle.wire.proofs.Writing.{pen_is}
use lib.ListN.{drop, length-take}
use mathlib.Core.Path.{refl}
use native.Mathlib.Omega.{arith}
use Rattle.boxes.proofs.Cutting.{cut_as, none_as}
use Rattle.boxes.proofs.way.+put_around_put_box_put_turn_put_way.Goals as goal

pub put_around-slice_bounds-put_part-end : goal.put_around-slice_bounds-put_part-end
put_around-slice_bounds-put_part-end t c = take_size _ _ (omega arith)

pub put_around-put_part-j-requires : goal.put_around-put_part-j-requires
put_around-put_part-j-requires t c = rw length-take (omega arith)

pub put_around-put_box-k-requires : goal.put_around-put_box-k-requires
put_around-put_box-k-requires t c = let a = c.args in let p = c.requires in let h = around_room a.src.now a.b p.1 p.2 p.3 c.put_part-j.ensures _ c.body.ensures in (omega arith, (omega arith, p.1, omega arith))

pub put_around-put_part-requires : goal.put_around-put_part-requires
put_around-put_part-requires t c = let a = c.args in let p = c.requires in
    let h = around_end a.src.now a.b p.1 p.2 p.3 c.put_part-j.ensures _ c.body.ensures (edit_way (turns (drop a.i a.way.now)) (tail_by a.keep a.new.now) _) _ _ (way_length (turns (drop a.i a.way.now)) a.keep a.new.now _) c.put_box-k.ensures in omega arith

pub put_around-returns : goal.put_around-returns
put_around-returns t c = let a = c.args in around_put a.src.now a.b _ c.put_part-j.ensures (rw c.body.ensures at c.put_box-k.ensures) c.put_part.ensures (omega arith)

pub put_box-put_header-requires : goal.put_box-put_header-requires
put_box-put_header-requires t c = let a = c.args in let h = way_length (turns (drop a.i a.way.now)) a.keep a.new.now a.body.now in let e = c.put_way-r.ensures.next in (omega (arith, c.requires.1), omega arith)

pub put_box-returns : goal.put_box-returns
put_box-returns t c = pen_box c.args.b.form c.args.b.code c.requires.1 c.put_way-r.ensures refl c.put_header.ensures

pub put_turn-put_around-requires : goal.put_turn-put_around-requires
put_turn-put_around-requires t c = let a = c.args in let s = cut_as a.src.now a.t.code a.t.nth _ c.nth.ensures _ c.in-Some.is in (omega arith, (omega arith, s.head, s.least, s.inside, omega arith))

pub put_turn-returns-in-Some : goal.put_turn-returns-in-Some
put_turn-returns-in-Some t c = let a = c.args in let s = cut_as a.src.now a.t.code a.t.nth _ c.nth.ensures _ c.in-Some.is in pen_is (nth_at _ _ _ _ s) c.put_around.ensures

pub put_turn-returns-in-None : goal.put_turn-returns-in-None
put_turn-returns-in-None t c = let a = c.args in pen_is (nth_missing _ _ _ _ (λ i. (c.type_inv.src i).fits) (none_as a.src.now a.t.code a.t.nth _ c.nth.ensures c.in-None.is)) c.put_part.ensures

pub put_way-returns-then-way-i-lt3 : goal.put_way-returns-then-way-i-lt3
put_way-returns-then-way-i-lt3 t c = let a = c.args in pen_is (way_end a.way.now a.i _ _ (omega arith)) c.put_tail.ensures

pub put_way-slice_bounds-put_part-end : goal.put_way-slice_bounds-put_part-end
put_way-slice_bounds-put_part-end t c = take_size _ _ (omega arith)

pub put_way-put_part-j-requires : goal.put_way-put_part-j-requires
put_way-put_part-j-requires t c = rw length-take (omega arith)

pub put_way-put_turn-requires : goal.put_way-put_turn-requires
put_way-put_turn-requires t c = let h = turn_room c.min-n.result c.args.src.now (omega arith) c.put_part-j.ensures in (omega arith, (omega arith, omega arith))

pub put_way-returns : goal.put_way-returns
put_way-returns t c = way_put _ _ c.turn_at-t.ensures _ _ c.min-n.ensures c.put_part-j.ensures c.put_turn.ensures
