-- 22, 23, 25, or the times are shifted by the zone.
use borrow.Author.Rules.{rules}
use native.Mathlib.Omega.{arith}
use mathlib.Core.Path.{sym, ◌∙◌}
use Rattle.boxes.proofs.Cutting.{cut_payload}
use Rattle.rule.proofs.Results.{exact_short, exact_wrote, test_not, test_so, test_nay, test_yea, test_all}
use Rattle.edit_shift.specs.Amount.{zone_text, zone_result}
use Rattle.edit_shift.proofs.Answering.{text_length, zone_wrote}
use Rattle.edit_shift.proofs.Asking.{times_moov}
use Rattle.edit_shift.proofs.shift_by.Goals as goal

pub returns-then-not-all_times : goal.returns-then-not-all_times
unfolding zone_text zone_result
returns-then-not-all_times c = test_not _ _ _ _ _ (sym (times_moov _ c.args.file.now (c.body.ensures ∙ cut_payload _ _ _ _ c.requires.2) c.all_times.ensures) ∙ c.if-not-all_times.true)

pub returns-then-not-editable : goal.returns-then-not-editable
unfolding zone_text zone_result
returns-then-not-editable c = test_so _ _ _ _ _ (sym (times_moov _ c.args.file.now (c.body.ensures ∙ cut_payload _ _ _ _ c.requires.2) c.all_times.ensures) ∙ c.if-not-all_times.false) (test_not _ _ _ _ _ (sym c.editable.ensures ∙ c.if-not-editable.true))

pub returns-then-out-file : goal.returns-then-out-file
unfolding zone_text zone_result
returns-then-out-file c = test_so _ _ _ _ _ (sym (times_moov _ c.args.file.now (c.body.ensures ∙ cut_payload _ _ _ _ c.requires.2) c.all_times.ensures) ∙ c.if-not-all_times.false) (test_so _ _ _ _ _ (sym c.editable.ensures ∙ c.if-not-editable.false) (test_all _ _ (exact_short _ _ (rw text_length (omega arith)))))

pub put_shifted-requires : goal.put_shifted-requires
unfolding zone_text zone_result
put_shifted-requires c = (record { low = omega arith; high = omega arith }, omega arith, c.requires.1, c.requires.2)

pub returns : goal.returns
unfolding zone_text zone_result
returns c = test_so _ _ _ _ _ (sym (times_moov _ c.args.file.now (c.body.ensures ∙ cut_payload _ _ _ _ c.requires.2) c.all_times.ensures) ∙ c.if-not-all_times.false) (test_so _ _ _ _ _ (sym c.editable.ensures ∙ c.if-not-editable.false) (test_all _ _ (exact_wrote _ _ (rw text_length (omega arith)) (zone_wrote _ _ _ (search rules) c.put_shifted.ensures))))
