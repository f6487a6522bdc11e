-- 41, or what its frames become.
use native.Mathlib.Omega.{arith}
use mathlib.Core.Path.{refl}
use lib.ListN.{length}
use Rattle.from_amr.proofs.Dumping.{run_whole, past_magic, dump_bad, all_joined, dump_good}
use Rattle.from_amr.proofs.dump_of.Goals as goal

pub returns-then-run-part : goal.returns-then-run-part
returns-then-run-part c = let q = c.rest-part in
    let y = past_magic c.args.codec c.args.dump.now c.requires.0 q.ensures in
    let p = run_whole c.args.codec q.result.now (length q.result.now) refl c.read-run.ensures in
    dump_bad c.args.codec c.args.dump.now y p c.args.out.now c.requires.0 c.if-run-part.true

pub made-requires : goal.made-requires
made-requires c = let q = c.rest-part in
    let y = past_magic c.args.codec c.args.dump.now c.requires.0 q.ensures in
    let p = run_whole c.args.codec q.result.now (length q.result.now) refl c.read-run.ensures in
    (p, all_joined c.args.codec c.args.dump.now y p (omega arith))

pub returns : goal.returns
returns c = let q = c.rest-part in
    let y = past_magic c.args.codec c.args.dump.now c.requires.0 q.ensures in
    let p = run_whole c.args.codec q.result.now (length q.result.now) refl c.read-run.ensures in
    dump_good c.args.codec c.args.dump.now y p (omega arith) c.made.ensures
