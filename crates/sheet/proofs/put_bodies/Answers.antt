use native.Mathlib.Omega.{arith}
use mathlib.Core.Path.{ap, ◌∙◌}
use lib.ListN.{length}
use Rattle.layout.proofs.Entering.{list_got}
use Rattle.layout.proofs.Slots.{slot_length}
use Rattle.sheet.proofs.Bodies.{bodies_start, bodies_more, bodies_all}
use Rattle.sheet.proofs.put_bodies.Goals as goal

pub loop-t-init : goal.loop-t-init
loop-t-init c = (bodies_start c.args.file.now _ _, omega arith, omega arith, c.requires.2.tracks)

pub bytes-requires : goal.bytes-requires
bytes-requires c = let p = c.requires in
    let i = c.loop-t.invariant in
    (list_got p.2 c.loop-t.t (omega (arith, i.3, p.1.tracks)) c.list_slot-s.ensures).lies

pub put_part-at-requires : goal.put_part-at-requires
put_part-at-requires c = let p = c.requires in
    let i = c.loop-t.invariant in
    let a = list_got p.2 c.loop-t.t (omega (arith, i.3, p.1.tracks)) c.list_slot-s.ensures in
    omega (arith, i.1, i.3, p.1.tracks, ap length c.bytes.ensures, slot_length a.lies, a.lies.order, a.lies.inside, p.1.most)

pub loop-t-preserved : goal.loop-t-preserved
loop-t-preserved c = let p = c.requires in
    let i = c.loop-t.invariant in
    let a = list_got p.2 c.loop-t.t (omega (arith, i.3, p.1.tracks)) c.list_slot-s.ensures in
    let q = c.put_part-at.ensures in (
      bodies_more c.args.file.now c.loop-t.t (λ j. (c.type_inv.file j).fits) (omega arith) (p.1.tiled _ (omega arith))
          (c.bytes.ensures ∙ a.is) i.0 q,
      omega (
        arith,
        q.next,
        i.1,
        ap length c.bytes.ensures,
        slot_length a.lies,
        a.lies.order,
        a.lies.inside,
        p.1.most,
      ),
      omega arith,
      i.3,
    )

pub shape_of-out : goal.shape_of-out
shape_of-out c = c.loop-t.invariant.0.same

pub returns : goal.returns
returns c = let i = c.loop-t.invariant in bodies_all c.args.file.now c.loop-t.t (omega arith) i.0
