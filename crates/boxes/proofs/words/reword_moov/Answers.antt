-- What the payload becomes is what the box becomes, and nothing else changes.
use Rattle.boxes.proofs.InPlace.{in_body_lem}
use Rattle.boxes.specs.Rewrite.{in_body}
use mathlib.Core.Path.{ap, ◌∙◌}
use native.Mathlib.Omega.{arith}
use Rattle.boxes.proofs.words.reword_moov.Goals as goal

pub returns : goal.returns
returns c = let a = c.args in in_body_lem a.part.now a.b _ (omega arith) ∙ ap (in_body a.part.now a.b) c.reword_in.ensures
