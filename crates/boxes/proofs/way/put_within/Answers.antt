-- The box around it, and what is around that.
use Rattle.boxes.proofs.Putting.{take_size, around_most, around_put}
use Rattle.boxes.proofs.Seeking.{payload_length}
use Rattle.boxes.proofs.Turning.{pen_box, way_length}
use Rattle.boxes.specs.Walk.{payload}
use Rattle.boxes.specs.Way.{turns, tail_by, edit_way}
use Rattle.wire.proofs.Lists.{tail_is}
use lib.ListN.{length, length-take, length-drop}
use Prim.Native.Nat.{◌+◌}
use mathlib.Core.Path.{refl, ap}
use native.Mathlib.Omega.{arith}
use Rattle.boxes.proofs.way.put_within.Goals as goal

pub slice_bounds-put_part-end : goal.slice_bounds-put_part-end
slice_bounds-put_part-end c = take_size _ _ (omega arith)

pub put_part-j-requires : goal.put_part-j-requires
put_part-j-requires c = rw length-take (omega arith)

pub overflow_add-j : goal.overflow_add-j
overflow_add-j c =
    omega (arith, c.requires.0.least, c.requires.0.inside, c.put_part-j.ensures.next, length-take c.args.b.at c.args.src.now)

pub put_around-r-requires : goal.put_around-r-requires
put_around-r-requires c =
    let a = c.args in
    let k = c.requires.1 in
    let e = ap length c.body.ensures in
    let i = payload_length a.src.now a.b c.requires.0.least c.requires.0.inside in
    (omega arith, k.head, k.least, omega (arith, k.inside), omega (arith, c.put_part-j.ensures.next, length-take a.b.at a.src.now, c.requires.0.inside, c.requires.0.least))

pub put_header-requires : goal.put_header-requires
put_header-requires c =
    let a = c.args in
    let i = payload_length a.src.now a.b c.requires.0.least c.requires.0.inside in
    let q = rw c.body.ensures at c.put_around-r.ensures in
    let z = payload (payload a.src.now a.b) a.k in
    let h = around_most (payload a.src.now a.b) a.k (edit_way (turns a.way.now) (tail_by a.keep a.new.now) z) (length a.new.now) c.requires.1
    (way_length (turns a.way.now) a.keep a.new.now z) in
    (omega (arith, q.next, c.requires.0.head), omega (arith, q.next, h, c.requires.0.least, c.requires.0.inside, c.put_part-j.ensures.next, length-take a.b.at a.src.now))

pub slice_bounds-put_part-count : goal.slice_bounds-put_part-count
slice_bounds-put_part-count c = omega (arith, c.requires.0.inside)

pub slice_bounds-put_part-start : goal.slice_bounds-put_part-start
slice_bounds-put_part-start c = omega (arith, c.requires.0.inside)

pub put_part-requires : goal.put_part-requires
put_part-requires c =
    let a = c.args in
    let i = payload_length a.src.now a.b c.requires.0.least c.requires.0.inside in
    let q = rw c.body.ensures at c.put_around-r.ensures in
    let z = payload (payload a.src.now a.b) a.k in
    let h = around_most (payload a.src.now a.b) a.k (edit_way (turns a.way.now) (tail_by a.keep a.new.now) z) (length a.new.now) c.requires.1
    (way_length (turns a.way.now) a.keep a.new.now z) in
    rw (tail_is a.src.now (a.b.at + a.b.span) c.requires.0.inside, length-drop)
    (omega (arith, q.next, h, c.requires.0.least, c.requires.0.inside, c.put_part-j.ensures.next, length-take a.b.at a.src.now))

pub returns : goal.returns
returns c =
    let a = c.args in
    let q = rw c.body.ensures at c.put_around-r.ensures in
    around_put a.src.now a.b _ c.put_part-j.ensures (pen_box a.b.form a.b.code c.requires.0.head q refl c.put_header.ensures)
    c.put_part.ensures c.requires.0.inside
