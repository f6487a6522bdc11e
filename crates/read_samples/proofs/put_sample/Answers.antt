-- Two numbers, one behind the other.
use native.Mathlib.Omega.{arith}
use lib.ListN.{length-set}
use Rattle.read_samples.proofs.Numbers.{put_two}
use Rattle.read_samples.proofs.put_sample.Goals as goal

pub bounds-out-at-2 : goal.bounds-out-at-2
bounds-out-at-2 c = simp length-set (omega arith)

pub returns : goal.returns
returns c = put_two _ _ _ c.requires
