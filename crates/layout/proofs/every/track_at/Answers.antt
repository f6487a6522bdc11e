-- A track that isn't there, and one that is.
use native.Mathlib.Omega.{arith}
use Rattle.layout.proofs.Everything.{blank_at, told_at, track_read}
use Rattle.layout.proofs.every.track_at.Goals as goal

pub returns-then-n-t : goal.returns-then-n-t
returns-then-n-t c = blank_at _ _ c.blank.ensures (omega arith)

pub found-requires : goal.found-requires
found-requires c = c.requires.1.at.lies

pub told-requires : goal.told-requires
told-requires c = let l = c.found.ensures.0 in (l.hdlr.lies, l.mdhd.lies, l.tkhd.lies)

pub returns : goal.returns
returns c = rw c.told.ensures (track_read c.requires.1 (omega arith)
    (told_at c.found.ensures.0 c.found.ensures.1))
