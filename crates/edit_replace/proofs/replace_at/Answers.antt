-- 24, 25, or the file with another record is written.
use mathlib.Core.Path.{◌∙◌}
use Rattle.edit_replace.proofs.Answering.{settled_over, settled_short, settled_wrote}
use Rattle.edit_replace.proofs.Lengths.{entry_fits, length_in_lem}
use native.Mathlib.Omega.{arith}
use Rattle.edit_replace.proofs.replace_at.Goals as goal

pub result_length-span-requires : goal.result_length-span-requires
result_length-span-requires c = let s = c.requires in let e = entry_fits _ _ _ s.1 in (e.0, e.1, s.0.most, s.2)

pub returns-then-span-gt-LONGEST : goal.returns-then-span-gt-LONGEST
returns-then-span-gt-LONGEST c = settled_over _ _ _ (c.result_length-span.ensures ∙ length_in_lem _ _ _ c.requires.1 _ _) (omega arith)

pub returns-then-out-span : goal.returns-then-out-span
returns-then-out-span c = settled_short _ _ _ (c.result_length-span.ensures ∙ length_in_lem _ _ _ c.requires.1 _ _) (omega arith) (omega arith)

pub replaced-requires : goal.replaced-requires
replaced-requires c = let s = c.requires in let a = c.args in let e = c.result_length-span.ensures ∙ length_in_lem a.file.now a.b a.p s.1 a.keep a.new.now in record { meets = s.0; place = s.1; short = s.2; most = omega (arith, e); room = omega (arith, e) }

pub returns : goal.returns
returns c = settled_wrote _ _ _ (c.result_length-span.ensures ∙ length_in_lem _ _ _ c.requires.1 _ _) (omega arith) (omega arith) c.replaced.ensures
