-- The invariant: entry i is entry `left` from track t on.
use Rattle.layout.proofs.Entering.{Left}
use Rattle.layout.proofs.entries.entry.Given as goal

abbrev pub invariant-loop-t : goal.invariant-loop-t
invariant-loop-t l = Left l.file l.i l.t l.left
