-- The invariant: of the good frames, those before the place are counted, and their types marked.
use Rattle.frames.proofs.Reading.{Reading}
use Rattle.frames.proofs.run.read.Given as goal

abbrev pub invariant-loop-count : goal.invariant-loop-count
invariant-loop-count l = Reading l.codec l.part l.most l.seen l.count l.at
