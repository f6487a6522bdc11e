use Rattle.rule_headers.proofs.Fresh.{place_is}
use native.Mathlib.Omega.{arith}
use Rattle.boxes.proofs.Numbered.{found_short}
use Rattle.rule_headers.proofs.identities.tkhd_place.Goals as goal

pub overflow_add-result-2 : goal.overflow_add-result-2
overflow_add-result-2 c = let h = found_short _ _ _ c.payload-trak.ensures in let s = c.start.ensures.1 in let p = c.place.ensures.1 in omega arith

pub returns : goal.returns
returns c = place_is _ _ _ c.payload-trak.ensures c.start.ensures.0 c.place.ensures.0
