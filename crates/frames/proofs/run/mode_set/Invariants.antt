-- The invariant: the bits of the flags before the t-th are added up.
use Rattle.frames.proofs.Flags.{Summed}
use Rattle.frames.proofs.run.mode_set.Given as goal

abbrev pub invariant-loop-t : goal.invariant-loop-t
invariant-loop-t l = Summed l.seen l.t l.modes
