-- 1, 60, 61, and then the rooms.
use native.Mathlib.Omega.{arith}
use Prim.Native.Nat.{◌≤◌}
use lib.ListN.{length}
use Rattle.wire.proofs.Lists.{tail_is}
use Rattle.rule.proofs.Results.{too_short, too_long, length_fine_lem}
use Rattle.salvage.proofs.Fronts.{not_such, such}
use Rattle.salvage.proofs.Answers.{no_file, another_file, no_frame, run_kept, found}
use Rattle.salvage.proofs.salvage.Goals as goal

pub returns-then-file-lt8 : goal.returns-then-file-lt8
returns-then-file-lt8 c = let xs = c.args.file.now in no_file _ xs _ _ (too_short xs (omega arith))

pub returns-then-file-gt-LONGEST : goal.returns-then-file-gt-LONGEST
returns-then-file-gt-LONGEST c = let xs = c.args.file.now in no_file _ xs _ _ (too_long xs (omega arith))

pub returns-in_default : goal.returns-in_default
returns-in_default c =
    let xs = c.args.file.now in
    another_file _ xs _ _ (length_fine_lem xs (omega arith) (omega arith)) (not_such xs c.payload_at.ensures.0 c.in_default.is)

pub returns-then-run-eq0 : goal.returns-then-run-eq0
returns-then-run-eq0 c =
    let a = c.args in
    let xs = a.file.now in
    let s = c.in-Some.start in
    let l : s ≤ length xs = rw c.in-Some.is at c.payload_at.ensures.1 in
    let q = run_kept a.codec xs c.payload_at.ensures.0 c.in-Some.is (tail_is xs s (omega arith)) c.read-run.ensures in
    no_frame _ xs _ _ (length_fine_lem xs (omega arith) (omega arith)) (such xs c.payload_at.ensures.0 c.in-Some.is).0 (omega (arith, q.count))

pub save-requires : goal.save-requires
save-requires c =
    let a = c.args in
    let xs = a.file.now in
    let s = c.in-Some.start in
    let l : s ≤ length xs = rw c.in-Some.is at c.payload_at.ensures.1 in
    let q = run_kept a.codec xs c.payload_at.ensures.0 c.in-Some.is (tail_is xs s (omega arith)) c.read-run.ensures in
    found a.codec xs (omega arith) (omega arith) c.payload_at.ensures.0 (omega arith) c.in-Some.is q (λ e. omega arith)
