use mir.Syntax.{w64}
use mir.ValLaws.{to_z-of_z}
use native.Mathlib.Omega.{arith}
use Rattle.clocks.proofs.Signed.{low, high, back, on}
use Rattle.clocks.proofs.zone_of.Goals as goal

pub returns-then-z-ltminus840 : goal.returns-then-z-ltminus840
returns-then-z-ltminus840 c = let b = to_z-of_z w64 c.args.z c.ranges.z in low c.args.z (rw b at c.if-z-ltminus840.true)

pub returns-then-z-gt840 : goal.returns-then-z-gt840
returns-then-z-gt840 c = let b = to_z-of_z w64 c.args.z c.ranges.z in high c.args.z (rw b at c.if-z-gt840.true)

pub overflow_sub-behind : goal.overflow_sub-behind
overflow_sub-behind c = let b = to_z-of_z w64 c.args.z c.ranges.z in
    rw b (back c.args.z (rw b at c.if-z-ltminus840.false) (rw b at c.if-z-lt0.true)).0

pub overflow_cast-behind : goal.overflow_cast-behind
overflow_cast-behind c = let b = to_z-of_z w64 c.args.z c.ranges.z in
    let n = back c.args.z (rw b at c.if-z-ltminus840.false) (rw b at c.if-z-lt0.true) in
    rw (b, to_z-of_z w64 _ n.0) n.1

pub overflow_mul-result : goal.overflow_mul-result
overflow_mul-result c = let b = to_z-of_z w64 c.args.z c.ranges.z in
    let n = back c.args.z (rw b at c.if-z-ltminus840.false) (rw b at c.if-z-lt0.true) in
    rw (b, to_z-of_z w64 _ n.0) (omega (arith, n.2))

pub returns-then-z-lt0 : goal.returns-then-z-lt0
returns-then-z-lt0 c = let b = to_z-of_z w64 c.args.z c.ranges.z in
    let n = back c.args.z (rw b at c.if-z-ltminus840.false) (rw b at c.if-z-lt0.true) in
    rw (b, to_z-of_z w64 _ n.0) n.3

pub overflow_cast-ahead : goal.overflow_cast-ahead
overflow_cast-ahead c = let b = to_z-of_z w64 c.args.z c.ranges.z in
    rw b (on c.args.z (rw b at c.if-z-gt840.false) (rw b at c.if-z-lt0.false)).0

pub overflow_mul-result-2 : goal.overflow_mul-result-2
overflow_mul-result-2 c = let b = to_z-of_z w64 c.args.z c.ranges.z in
    let n = on c.args.z (rw b at c.if-z-gt840.false) (rw b at c.if-z-lt0.false) in
    rw b (omega (arith, n.1))

pub returns : goal.returns
returns c = let b = to_z-of_z w64 c.args.z c.ranges.z in
    rw b (on c.args.z (rw b at c.if-z-gt840.false) (rw b at c.if-z-lt0.false)).2
