-- All stays but the form.
use Rattle.edit_offsets.proofs.shut.Goals as goal

pub returns : goal.returns
returns c = rw c.shut_form.ensures
