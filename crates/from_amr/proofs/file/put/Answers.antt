-- Three boxes.
use native.Mathlib.Omega.{arith}
use mathlib.Core.Path.{sym}
use Rattle.frames.specs.Frames.{frames}
use Rattle.from_amr.specs.File.{file_of}
use Rattle.from_amr.proofs.Writing.{pen_boxes, pen_body}
use Rattle.from_amr.proofs.file.put.Goals as goal

pub put_moov-b-requires : goal.put_moov-b-requires
put_moov-b-requires c = (omega arith, record { told = c.requires.0; few = c.requires.2 })

pub returns : goal.returns
unfolding file_of
returns c =
    let q = c.requires.0 in
    pen_boxes _ _ c.put_ftyp-a.ensures.0 (pen_boxes _ _ (rw (c.start.ensures.0.is c.args.codec (frames c.args.codec
    c.args.part.now) (sym q.count)) at c.put_moov-b.ensures.0) (pen_body _ (sym c.requires.1) c.put_mdat.ensures))
