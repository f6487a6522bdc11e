-- Three boxes, and then the header.
use native.Mathlib.Omega.{arith}
use Rattle.from_amr.specs.Boxes.{smhd}
use Rattle.from_amr.proofs.Writing.{pen_boxes, pen_close}
use Rattle.from_amr.proofs.file.put_minf.Goals as goal

pub returns : goal.returns
unfolding smhd
returns c = (
  pen_close _ (pen_boxes _ _ c.put_box-a.ensures.0 (pen_boxes _ _ c.put_dinf-b.ensures.0 c.put_stbl-r.ensures.0))
      c.put_header.ensures,
  omega arith,
  omega arith,
)
