-- The slot of that number, where there is an entry.
use Rattle.movie.proofs.Asking.{named_at}
use Rattle.sheet.proofs.Slots.{one_at, one_none, slot_one, slot_none}
use native.Mathlib.Omega.{arith}
use Rattle.sheet.proofs.put_slot_at.Goals as goal

pub put_slot_of-requires : goal.put_slot_of-requires
put_slot_of-requires c = let s = named_at _ _ _ c.entry.ensures _ c.in-Some.is in (omega arith, omega (arith, s.last, c.requires.1.tracks), s.inside)

pub returns-in-Some : goal.returns-in-Some
returns-in-Some c = (slot_one (one_at _ _ _ c.entry.ensures _ c.in-Some.is) c.put_slot_of.ensures.0, omega arith)

pub returns-in-None : goal.returns-in-None
returns-in-None c = (slot_none (one_none _ _ _ c.entry.ensures c.in-None.is) _ _, omega arith)
