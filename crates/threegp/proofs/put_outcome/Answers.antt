-- What was found as four numbers, or the refusal with its file in its number.
use mathlib.Core.List.{[]}
use native.Mathlib.Omega.{arith}
use Rattle.threegp.proofs.Packing.{outcome_found, outcome_refused, outcome_told}
use Rattle.threegp.proofs.put_outcome.Goals as goal

pub overflow_mul-result : goal.overflow_mul-result
overflow_mul-result c = let t = outcome_told _ [] c.in-Err.is c.requires in omega arith

pub overflow_add-result : goal.overflow_add-result
overflow_add-result c = let t = outcome_told _ [] c.in-Err.is c.requires in omega arith

pub returns-in-Ok : goal.returns-in-Ok
returns-in-Ok c = outcome_found _ _ _ c.in-Ok.is c.put_part.ensures

pub returns-in-Err : goal.returns-in-Err
returns-in-Err c = outcome_refused _ _ c.in-Err.is
