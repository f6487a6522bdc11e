use Rattle.rule_tracks.proofs.Chunks.{at_bad, at_fine, at_other}
use native.Mathlib.Omega.{arith}
use Rattle.rule_tracks.proofs.eight_at.Goals as goal

pub returns-then-not-eight_holds : goal.returns-then-not-eight_holds
returns-then-not-eight_holds c = at_bad _ _ _ _ (omega arith) c.eight_holds.ensures c.if-not-eight_holds.true c.place.ensures.0

pub returns-then-k-eq-STBL : goal.returns-then-k-eq-STBL
returns-then-k-eq-STBL c = at_fine _ _ _ _ (omega arith) c.eight_holds.ensures c.if-not-eight_holds.false

pub returns : goal.returns
returns c = at_other _ _ _ _ (omega arith)
