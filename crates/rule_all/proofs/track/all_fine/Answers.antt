-- Each test in turn; the last decides between 10 and 11.
use borrow.Author.Rules.{rules}
use native.Mathlib.Omega.{arith}
use Rattle.rule_all.proofs.Answers.{no_answer, all_answer}
use Rattle.rule_all.proofs.track.all_fine.Goals as goal

pub returns-then-not-heads_fine : goal.returns-then-not-heads_fine
returns-then-not-heads_fine c = no_answer _ _

pub returns-then-not-lists_fine : goal.returns-then-not-lists_fine
returns-then-not-lists_fine c = no_answer _ _

pub returns-then-not-forms_fine : goal.returns-then-not-forms_fine
returns-then-not-forms_fine c = no_answer _ _

pub tables_fine-requires : goal.tables_fine-requires
tables_fine-requires c = let p = c.requires in (p.0, search rules, p.2)

pub returns-then-not-tables_fine : goal.returns-then-not-tables_fine
returns-then-not-tables_fine c = no_answer _ _

pub returns-then-not-entries_fine : goal.returns-then-not-entries_fine
returns-then-not-entries_fine c = all_answer _ _ _ (omega arith) (search rules) (search rules) (search rules) (search rules) (λ h. absurd (omega arith))

pub returns : goal.returns
returns c = all_answer _ _ _ (omega arith) (search rules) (search rules) (search rules) (search rules) (λ h. search rules)
