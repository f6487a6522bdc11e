-- By its own description, on its own bytes.
use mathlib.Core.Path.{◌∙◌}
use Rattle.modes.specs.Track.{why_of}
use Rattle.modes.proofs.why_of.Goals as goal

pub returns : goal.returns
unfolding why_of
returns c = c.why.ensures ∙ rw (c.front.ensures, c.rest.ensures, c.described.ensures)
