-- Five boxes, and then the header.
use native.Mathlib.Omega.{arith}
use Rattle.from_amr.proofs.Writing.{pen_boxes, pen_close}
use Rattle.from_amr.proofs.table.put_stbl.Goals as goal

pub returns : goal.returns
returns c =
    let q = c.requires.1.told in (
      pen_close _ (pen_boxes _ _ (rw q.modes at c.put_stsd-a.ensures.0) (pen_boxes _ _ (rw q.count at c.put_stts-b.ensures.0)
          (pen_boxes _ _ (rw q.count at c.put_stsc-c.ensures.0) (pen_boxes _ _ c.put_stsz-d.ensures.0 (rw q.count at
          c.put_stco-r.ensures.0))))) c.put_header.ensures,
      omega arith,
      omega arith,
    )
