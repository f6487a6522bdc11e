-- As many entries as its list counts.
use Rattle.layout.proofs.Entering.{list_got}
use Rattle.brands.proofs.Holding.{one_is}
use mathlib.Core.Path.{refl}
use Rattle.brands.proofs.conditions.one_entry.Goals as goal

pub returns : goal.returns
returns c = let p = c.requires in
    one_is _ (list_got p.0 _ p.1 c.list_slot-s.ensures).counted refl
