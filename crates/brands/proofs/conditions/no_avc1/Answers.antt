-- No `avc1` in its list.
use Rattle.layout.proofs.Entering.{list_got}
use Rattle.brands.proofs.Holding.{plain_is}
use mathlib.Core.Path.{refl, ◌∙◌}
use Rattle.brands.proofs.conditions.no_avc1.Goals as goal

pub bytes-requires : goal.bytes-requires
bytes-requires c = let p = c.requires in (list_got p.0 _ p.1 c.list_slot-s.ensures).lies

pub returns : goal.returns
returns c = let p = c.requires in
    plain_is _ (c.bytes.ensures ∙ (list_got p.0 _ p.1 c.list_slot-s.ensures).is) c.count.ensures.0 refl
