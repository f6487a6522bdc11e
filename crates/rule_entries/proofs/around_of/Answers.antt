-- What a track says, by its three readers.
use Rattle.rule_entries.specs.Ten.{around_of}
use Rattle.rule_entries.proofs.around_of.Goals as goal

pub returns : goal.returns
unfolding around_of
returns c = rw (c.scale.ensures.0, c.handler.ensures.0, c.references.ensures.0)
