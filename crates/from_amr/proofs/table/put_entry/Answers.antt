-- A buffer that the entry fills, copied.
use native.Mathlib.Omega.{arith}
use Rattle.wire.proofs.Writing.{pen_is}
use Rattle.entry_records.proofs.Lengths.{amr_length}
use Rattle.from_amr.specs.Boxes.{entry_by}
use Rattle.from_amr.proofs.Writing.{pen_whole}
use Rattle.from_amr.proofs.table.put_entry.Goals as goal

pub returns : goal.returns
returns c =
    let p = rw (c.kind_by.ensures, c.scale_by.ensures) at c.put_amr.ensures in
    let q = pen_is (pen_whole p (amr_length _)) c.put_part.ensures in
    (q, omega (arith, q.next, amr_length (entry_by c.args.codec c.args.modes)))
