-- The list past the front of the track's `stsd`.
use Rattle.rule_entries.proofs.track_entries.Goals as goal

pub returns : goal.returns
returns c = rw (c.around_of-around.ensures, c.list.ensures.0, c.stsd_start.ensures.0) at c.entries_from.ensures
