-- Each test in turn.
use native.Mathlib.Omega.{arith}
use Rattle.rule_all.proofs.Steps.{no_step}
use Rattle.rule_all.proofs.sure_with.Goals as goal

pub returns-then-t-lt10 : goal.returns-then-t-lt10
returns-then-t-lt10 c = no_step _ _ _

pub returns-then-again : goal.returns-then-again
returns-then-again c = no_step _ _ _

pub overflow_add-p : goal.overflow_add-p
overflow_add-p c = omega arith

pub returns-then-p-t-gt-MOST : goal.returns-then-p-t-gt-MOST
returns-then-p-t-gt-MOST c = no_step _ _ _

pub returns : goal.returns
returns c = let a = c.again.ensures in
    record {
      good = λ z. omega arith;
      least = λ z. c.min.ensures;
      few = λ z. omega arith;
      first = λ z. a.first c.if-again.false;
      second = λ z. a.second c.if-again.false;
      third = λ z. a.third c.if-again.false;
    }
