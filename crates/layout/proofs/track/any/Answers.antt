-- Thirteen boxes, each looked for in a container that was found before.
use native.Mathlib.Omega.{arith}
use mathlib.Core.Bool.{false≢true}
use Rattle.layout.proofs.Laying.{Standing, laid, listed}
use Rattle.layout.proofs.track.any.Goals as goal

pub first-minf-requires : goal.first-minf-requires
first-minf-requires c = (c.first-mdia.ensures.lies, omega arith)

pub first-dinf-requires : goal.first-dinf-requires
first-dinf-requires c = (c.first-minf.ensures.lies, omega arith)

pub first-stbl-requires : goal.first-stbl-requires
first-stbl-requires c = (c.first-minf.ensures.lies, omega arith)

pub first-requires : goal.first-requires
first-requires c = (c.requires, omega arith)

pub first-requires-2 : goal.first-requires-2
first-requires-2 c = (c.first-mdia.ensures.lies, omega arith)

pub first-requires-3 : goal.first-requires-3
first-requires-3 c = (c.first-mdia.ensures.lies, omega arith)

pub first-requires-4 : goal.first-requires-4
first-requires-4 c = (c.first-dinf.ensures.lies, omega arith)

pub first-requires-5 : goal.first-requires-5
first-requires-5 c = (c.first-stbl.ensures.lies, omega arith)

pub first-requires-6 : goal.first-requires-6
first-requires-6 c = (c.first-stbl.ensures.lies, omega arith)

pub first-requires-7 : goal.first-requires-7
first-requires-7 c = (c.first-stbl.ensures.lies, omega arith)

pub first-requires-8 : goal.first-requires-8
first-requires-8 c = (c.first-stbl.ensures.lies, omega arith)

pub first-requires-9 : goal.first-requires-9
first-requires-9 c = (c.first-stbl.ensures.lies, omega arith)

pub returns : goal.returns
returns c =
    let s : Standing _ _ _ _ _ _ _ = record {
      in_trak = c.first-mdia.ensures;
      in_mdia = c.first-minf.ensures;
      left = c.first-dinf.ensures;
      right = c.first-stbl.ensures;
      tkhd = c.first.ensures;
      mdhd = c.first-2.ensures;
      hdlr = c.first-3.ensures;
      dref = c.first-4.ensures;
      stsd = c.first-5.ensures;
      stts = c.first-6.ensures;
      stsc = c.first-7.ensures;
      stsz = c.first-8.ensures;
      stco = c.first-9.ensures;
    } in
    (laid s (λ z. absurd (false≢true z)), listed s)
