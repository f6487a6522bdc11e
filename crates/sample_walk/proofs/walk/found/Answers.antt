-- The sample that stands there, and the walk a sample further.
use native.Mathlib.Omega.{arith}
use Rattle.sample_walk.proofs.Walks.{number_few, place_fits, gives}
use Rattle.sample_walk.proofs.walk.found.Goals as goal

pub size_at-bytes-requires : goal.size_at-bytes-requires
size_at-bytes-requires c = let p = c.requires in number_few _ _ _ p.0 _ p.1 p.2

pub overflow_add-result : goal.overflow_add-result
overflow_add-result c = let p = c.requires in omega (arith, number_few _ _ _ p.0 _ p.1 p.2)

pub overflow_add-result-2 : goal.overflow_add-result-2
overflow_add-result-2 c =
    let p = c.requires in
    let z = c.type_inv.stsz in
    let o = c.type_inv.stco in
    omega (arith, place_fits _ _ _ p.0 _ p.1 p.2 (λ k. (z k).fits) (λ k. (o k).fits))

pub returns : goal.returns
returns c = let p = c.requires in gives _ _ _ p.0 _ p.1 p.2 _ c.size_at-bytes.ensures.0
