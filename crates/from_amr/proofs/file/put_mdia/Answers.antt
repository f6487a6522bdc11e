-- Three boxes, and then the header.
use native.Mathlib.Omega.{arith}
use Rattle.from_amr.specs.Boxes.{mdhd, hdlr}
use Rattle.from_amr.proofs.Writing.{pen_boxes, pen_close}
use Rattle.from_amr.proofs.file.put_mdia.Goals as goal

pub returns : goal.returns
unfolding mdhd hdlr
returns c =
    let q = c.requires.1.told in (
      pen_close _ (pen_boxes _ _ (rw (c.scale_by-scale.ensures, c.ticks_of-ticks.ensures, q.count) at c.put_box-a.ensures.0) (pen_boxes _ _
          c.put_box-b.ensures.0 c.put_minf-r.ensures.0)) c.put_header.ensures,
      omega arith,
      omega arith,
    )
