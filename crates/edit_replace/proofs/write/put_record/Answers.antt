-- The boxes around the entry, and the way to it.
use Rattle.edit_replace.specs.Places.{record_there}
use Rattle.edit_replace.proofs.write.put_record.Goals as goal

pub returns : goal.returns
unfolding record_there
returns c = rw c.way_to-way.ensures at c.put_within.ensures
