use Rattle.movie.proofs.Asking.{placed_at, placed_none}
use native.Mathlib.Omega.{arith}
use Rattle.boxes.proofs.Cutting.{cut_as}
use Rattle.movie.proofs.entry.entry_of.Goals as goal

pub overflow_add-result-in-Some : goal.overflow_add-result-in-Some
overflow_add-result-in-Some c = let s = cut_as _ _ _ _ c.nth.ensures _ c.in-Some.is in let h = s.inside in omega arith

pub returns-in-Some : goal.returns-in-Some
returns-in-Some c = placed_at _ _ _ c.track.ensures.0 c.list.ensures.0 _ c.nth.ensures _ c.in-Some.is c.list_start.ensures.0

pub returns-in-None : goal.returns-in-None
returns-in-None c = placed_none _ _ _ c.track.ensures.0 c.list.ensures.0 _ c.nth.ensures c.in-None.is
