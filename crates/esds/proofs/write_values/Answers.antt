-- 50, 52 and 25 in this order; past them the whole text has room.
use native.Mathlib.Omega.{arith}
use mathlib.Core.Path.{sym, ◌∙◌}
use Rattle.wire.proofs.Writing.{pen_front}
use Rattle.rule.proofs.Results.{test_not, test_so, test_all, exact_short, exact_wrote}
use Rattle.esds.proofs.Texts.{rule_stream, rule_short}
use Rattle.esds.proofs.write_values.Goals as goal

pub returns-then-not-values_rule : goal.returns-then-not-values_rule
returns-then-not-values_rule c = test_not 50 _ _ _ _ (sym c.values_rule.ensures ∙ c.if-not-values_rule.true)

pub returns-then-not-kind_rule : goal.returns-then-not-kind_rule
returns-then-not-kind_rule c =
    test_so 50 _ _ _ _ (sym c.values_rule.ensures ∙ c.if-not-values_rule.false) (test_not 52 _ _ _ _ (sym c.kind_rule.ensures ∙ c.if-not-kind_rule.true))

pub measure-z-requires : goal.measure-z-requires
measure-z-requires c = rule_short _ _ (sym c.values_rule.ensures ∙ c.if-not-values_rule.false)

pub returns-then-out-z : goal.returns-then-out-z
returns-then-out-z c =
    test_so 50 _ _ _ _ (sym c.values_rule.ensures ∙ c.if-not-values_rule.false) (test_so 52 _ _ _ _ (sym c.kind_rule.ensures ∙ c.if-not-kind_rule.false)
    (test_all _ _ (exact_short _ _ (omega (arith, c.measure-z.ensures.whole)))))

pub put_esds-requires : goal.put_esds-requires
put_esds-requires c =
    (rule_stream _ _ (sym c.values_rule.ensures ∙ c.if-not-values_rule.false), rule_short _ _ (sym c.values_rule.ensures ∙ c.if-not-values_rule.false), c.measure-z.ensures)

pub returns : goal.returns
returns c =
    let w = c.put_esds.ensures in
    test_so 50 _ _ _ _ (sym c.values_rule.ensures ∙ c.if-not-values_rule.false) (test_so 52 _ _ _ _ (sym c.kind_rule.ensures ∙ c.if-not-kind_rule.false)
    (test_all _ _ (exact_wrote _ _ (omega (arith, c.measure-z.ensures.whole)) (pen_front w (omega (arith, w.next, c.measure-z.ensures.whole))))))
