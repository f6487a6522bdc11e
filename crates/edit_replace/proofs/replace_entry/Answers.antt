-- 20, 21, 23, and then as it fits.
use mathlib.Core.Path.{sym, ◌∙◌}
use Rattle.rule.proofs.Results.{test_not, test_so, test_nay, test_yea}
use Rattle.edit_replace.specs.Places.{place_text, place_result}
use Rattle.edit_replace.proofs.Taking.{record_short}
use Rattle.edit_replace.proofs.Written.{head_least}
use native.Mathlib.Omega.{arith}
use Rattle.edit_replace.proofs.replace_entry.Goals as goal

pub returns-then-not-takes : goal.returns-then-not-takes
unfolding place_text place_result
returns-then-not-takes c = test_not _ _ _ _ _ (sym (rw c.of_code-kind.ensures at c.takes.ensures) ∙ c.if-not-takes.true)

pub returns-then-not-record_rule : goal.returns-then-not-record_rule
unfolding place_text place_result
returns-then-not-record_rule c =
    let kind = c.of_code-kind.ensures in
    test_so _ _ _ _ _ (sym (rw kind at c.takes.ensures) ∙ c.if-not-takes.false) (test_not _ _ _ _ _ (sym (rw (kind, c.of_file.ensures) at c.record_rule.ensures) ∙ c.if-not-record_rule.true))

pub editable-requires : goal.editable-requires
unfolding place_text place_result
editable-requires c = c.requires.0.most

pub returns-then-not-editable : goal.returns-then-not-editable
unfolding place_text place_result
returns-then-not-editable c =
    let kind = c.of_code-kind.ensures in
    test_so _ _ _ _ _ (sym (rw kind at c.takes.ensures) ∙ c.if-not-takes.false)
    (test_so _ _ _ _ _ (sym (rw (kind, c.of_file.ensures) at c.record_rule.ensures) ∙ c.if-not-record_rule.false)
    (test_not _ _ _ _ _ (sym c.editable.ensures ∙ c.if-not-editable.true)))

pub overflow_sub-size : goal.overflow_sub-size
unfolding place_text place_result
overflow_sub-size c = omega (arith, c.size.ensures, head_least c.of_code-kind.result)

pub replace_at-requires : goal.replace_at-requires
unfolding place_text place_result
replace_at-requires c = let s = c.requires in (s.0, s.1, (record_short _ _ _ (sym c.record_rule.ensures ∙ c.if-not-record_rule.false)).1)

pub returns : goal.returns
unfolding place_text place_result
returns c =
    let kind = c.of_code-kind.ensures in
    test_so _ _ _ _ _ (sym (rw kind at c.takes.ensures) ∙ c.if-not-takes.false)
    (test_so _ _ _ _ _ (sym (rw (kind, c.of_file.ensures) at c.record_rule.ensures) ∙ c.if-not-record_rule.false)
    (test_so _ _ _ _ _ (sym c.editable.ensures ∙ c.if-not-editable.false)
    (rw (c.size.ensures, kind) at c.replace_at.ensures)))
