use Rattle.boxes.proofs.Walking.{ran, ended, broke}
use Rattle.boxes.specs.Box.{Box}
use Rattle.rule_lists.specs.Nine.{is_url, url_at}
use Rattle.rule.proofs.Traverse.{found_none}
use Rattle.rule.proofs.Firsts.{listed_more, listed_bad, listed_over}
use Rattle.rule.specs.Verdict.{sooner, Fine}
use mathlib.Core.Bool.{Bool}
use native.Mathlib.Omega.{arith}
use Rattle.rule_lists.proofs.url.urls_from.Goals as goal

abbrev url : Box → Bool
url x = is_url x.code x.body

pub loop-b-init : goal.loop-b-init
unfolding sooner
loop-b-init c = found_none url_at (λ q. Fine) _ _ Fine

pub body-requires : goal.body-requires
unfolding sooner
body-requires c = let s = ran _ _ _ _ _ c.step.ensures c.in-Found.is in (s.least, omega arith)

pub overflow_add-result : goal.overflow_add-result
unfolding sooner
overflow_add-result c = let s = ran _ _ _ _ _ c.step.ensures c.in-Found.is in omega arith

pub returns-then-not-is_url : goal.returns-then-not-is_url
unfolding sooner
returns-then-not-is_url c = listed_bad url c.loop-b.invariant (ran _ _ _ _ _ c.step.ensures c.in-Found.is)
    (cc)

pub loop-b-smaller : goal.loop-b-smaller
unfolding sooner
loop-b-smaller c = let s = ran _ _ _ _ _ c.step.ensures c.in-Found.is in omega arith

pub loop-b-preserved : goal.loop-b-preserved
unfolding sooner
loop-b-preserved c = listed_more url c.loop-b.invariant (ran _ _ _ _ _ c.step.ensures c.in-Found.is)
    (cc)

pub returns-in-End : goal.returns-in-End
unfolding sooner
returns-in-End c = listed_over url c.loop-b.invariant (ended _ _ _ c.step.ensures c.in-End.is).0

pub returns-in-Broken : goal.returns-in-Broken
unfolding sooner
returns-in-Broken c = listed_over url c.loop-b.invariant (broke _ _ _ _ c.step.ensures c.in-Broken.is).0
