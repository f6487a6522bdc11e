-- 42, 24, 25, or the file is written.
use native.Mathlib.Omega.{arith}
use mathlib.Core.Path.{refl}
use Rattle.from_amr.proofs.Dumping.{long_as, made_many, made_over, made_short, made_wrote}
use Rattle.from_amr.proofs.made.Goals as goal

pub returns-then-run-gt-MOST_FRAMES : goal.returns-then-run-gt-MOST_FRAMES
returns-then-run-gt-MOST_FRAMES c = made_many _ _ _ (omega arith)

pub returns-then-n-gt-LONGEST : goal.returns-then-n-gt-LONGEST
returns-then-n-gt-LONGEST c = let e = long_as c.args.codec c.args.part.now c.requires.0 c.requires.1 c.start.ensures.0 refl in
    made_over _ _ _ (omega arith) (omega arith)

pub returns-then-out-n : goal.returns-then-out-n
returns-then-out-n c = let e = long_as c.args.codec c.args.part.now c.requires.0 c.requires.1 c.start.ensures.0 refl in
    made_short _ _ _ (omega arith) (omega arith) (omega arith)

pub returns : goal.returns
returns c = let e = long_as c.args.codec c.args.part.now c.requires.0 c.requires.1 c.start.ensures.0 refl in
    made_wrote _ _ _ (omega arith) (omega arith) (omega arith) e c.put.ensures
