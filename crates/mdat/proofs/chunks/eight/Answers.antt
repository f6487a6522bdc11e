-- Without an index first, and with one where that was given up.
use Rattle.mdat.proofs.Indexing.{index_none}
use Rattle.mdat.proofs.Searching.{looked_in, looked_out}
use borrow.Author.Rules.{rules}
use mathlib.Core.Path.{sym}
use Rattle.mdat.proofs.chunks.eight.Goals as goal

pub all_lie-requires : goal.all_lie-requires
all_lie-requires c = let p = c.requires in (p.0, index_none _ 0, p.1)

pub returns-in-Ok : goal.returns-in-Ok
returns-in-Ok c = (sym (looked_in c.all_lie.ensures _ c.in-Ok.is).0)

pub returns-in-Err-Out : goal.returns-in-Err-Out
returns-in-Err-Out c = (sym (looked_out c.all_lie.ensures (search rules)))
