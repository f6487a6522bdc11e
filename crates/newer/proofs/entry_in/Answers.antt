-- The entry of a number, or 20.
use mathlib.Core.Path.{refl}
use Rattle.newer.proofs.Asking.{entry_none, entry_missing, entry_found}
use Rattle.newer.proofs.entry_in.Goals as goal

pub returns-then-i-eq0 : goal.returns-then-i-eq0
returns-then-i-eq0 c = entry_none _ _ _ _ c.if-i-eq0.true

pub returns : goal.returns
returns c = entry_found _ _ _ _ c.if-i-eq0.false refl c.entry.ensures _ c.in-Some.is

pub returns-in_default : goal.returns-in_default
returns-in_default c = entry_missing _ _ _ _ c.if-i-eq0.false refl c.entry.ensures c.in_default.is
