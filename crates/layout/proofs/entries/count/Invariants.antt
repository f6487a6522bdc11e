-- The invariant: the lists of the first t tracks are counted.
use Rattle.layout.proofs.Tallying.{Tally}
use Rattle.layout.proofs.entries.count.Given as goal

abbrev pub invariant-loop-t : goal.invariant-loop-t
invariant-loop-t l = Tally l.file l.t l.sum
