-- Each field by its box.
use mathlib.Core.Path.{◌∙◌}
use Rattle.rule_all.proofs.track.judge.Goals as goal

pub returns : goal.returns
returns c = record {
  fine = c.all_fine.ensures;
  identity = c.word32.ensures.0 ∙ rw c.bytes.ensures;
  entries = c.word32-2.ensures.0 ∙ rw c.bytes-2.ensures;
  small = c.word32-2.ensures.1;
}
