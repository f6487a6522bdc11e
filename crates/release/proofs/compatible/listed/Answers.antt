use native.Mathlib.Omega.{arith}
use Rattle.release.proofs.Listing.{times_none, times_other, listed_here, listed_none, listed_short}
use Rattle.release.proofs.compatible.listed.Goals as goal

pub returns-then-ftyp-lt8 : goal.returns-then-ftyp-lt8
returns-then-ftyp-lt8 c = listed_short _ _ (omega arith)

pub loop-i-init : goal.loop-i-init
loop-i-init c = times_none _ _

pub returns-then-word32_in-c : goal.returns-then-word32_in-c
returns-then-word32_in-c c = listed_here _ _ _ (omega arith) c.word32_in.ensures.0 c.if-word32_in-c.true

pub loop-i-preserved : goal.loop-i-preserved
loop-i-preserved c = times_other _ _ _ c.word32_in.ensures.0 c.if-word32_in-c.false c.loop-i.invariant

pub returns : goal.returns
returns c = listed_none _ _ {n = c.loop-i.i} (omega arith) c.loop-i.invariant
