-- A step over the tables, where they stand in the file.
use Rattle.sample_walk.proofs.Walks.{step_gives, step_ends}
use Rattle.read_samples.specs.Stands.{NextAs}
use Rattle.read_samples.proofs.Standing.{ready_step, stand_gives, stand_ends}
use Rattle.read_samples.proofs.stand.next_at.Goals as goal

pub step-requires : goal.step-requires
unfolding NextAs
step-requires c =
    let p = c.requires in
    ready_step p c.bytes.ensures c.bytes-2.ensures c.bytes-3.ensures

pub returns-in-Some : goal.returns-in-Some
unfolding NextAs
returns-in-Some c =
    let p = c.requires in
    stand_gives p c.bytes.ensures c.bytes-2.ensures c.bytes-3.ensures
    (step_gives _ _ _ _ c.step.ensures c.in-Some.is)

pub returns-in-None : goal.returns-in-None
unfolding NextAs
returns-in-None c =
    let p = c.requires in
    stand_ends p c.bytes.ensures c.bytes-2.ensures c.bytes-3.ensures
    (step_ends _ _ _ _ c.step.ensures c.in-None.is)
