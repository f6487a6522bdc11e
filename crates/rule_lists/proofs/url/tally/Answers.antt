use native.Mathlib.Omega.{arith}
use Rattle.boxes.proofs.PlainWalking.{plain_ran, plain_ended}
use Rattle.rule_lists.proofs.Urls.{referred_none, referred_more, referred_not, referred_whole, referred_stopped}
use Rattle.rule_lists.proofs.url.tally.Goals as goal

pub loop-b-init : goal.loop-b-init
loop-b-init c = referred_none _

pub body-requires : goal.body-requires
body-requires c = let s = (plain_ran _ _ _ _ _ c.plain_step.ensures c.in-Found.is).0 in (s.least, omega arith)

pub returns-then-not-is_url : goal.returns-then-not-is_url
returns-then-not-is_url c = let s = (plain_ran _ _ _ _ _ c.plain_step.ensures c.in-Found.is).0 in
    referred_not c.loop-b.invariant s (cc)

pub overflow_add-n : goal.overflow_add-n
overflow_add-n c = let i = c.loop-b.invariant.tallied.passed in omega arith

pub loop-b-smaller : goal.loop-b-smaller
loop-b-smaller c = let s = (plain_ran _ _ _ _ _ c.plain_step.ensures c.in-Found.is).0 in omega arith

pub loop-b-preserved : goal.loop-b-preserved
loop-b-preserved c = let s = plain_ran _ _ _ _ _ c.plain_step.ensures c.in-Found.is in
    referred_more c.loop-b.invariant s.0 (λ i. (c.type_inv.part i).fits) s.1
    (cc)

pub returns-in-End : goal.returns-in-End
returns-in-End c = let o = plain_ended _ _ _ c.plain_step.ensures c.in-End.is in referred_whole c.loop-b.invariant o.0 o.1

pub returns-in-Broken : goal.returns-in-Broken
returns-in-Broken c = referred_stopped c.loop-b.invariant _ _ c.plain_step.ensures c.in-Broken.is
