-- The entry of that number, printed where there is one.
use native.Mathlib.Omega.{arith}
use Rattle.movie.proofs.Asking.{named_at}
use Rattle.listing.proofs.Listed.{few_tracks, entry_found, entry_missing}
use Rattle.listing.proofs.lines.put_entry.Goals as goal

pub entry-requires : goal.entry-requires
entry-requires c = let p = c.requires in (p.1, few_tracks p.0, p.0.most)

pub put_found-requires : goal.put_found-requires
put_found-requires c = ((named_at _ _ _ c.entry.ensures _ c.in-Some.is).inside, omega arith)

pub returns-in-Some : goal.returns-in-Some
returns-in-Some c = (entry_found _ _ c.entry.ensures _ c.in-Some.is c.put_found.ensures.0, omega arith)

pub returns-in-None : goal.returns-in-None
returns-in-None c = (entry_missing _ _ c.entry.ensures c.in-None.is, omega arith)
