-- The judgement, and then the start in an accepted file.
use Rattle.std.specs.Prelude.{Err}
use mathlib.Core.Path.{refl, sym, ◌∙◌}
use Rattle.rule.proofs.SameRefusal.{passed_on}
use Rattle.judge.proofs.Calls.{answer_passed}
use Rattle.read_samples.specs.Stands.{StoodAs}
use Rattle.read_samples.proofs.stand.start.Goals as goal

pub start_in-requires : goal.start_in-requires
unfolding StoodAs
start_in-requires c = sym c.judge.ensures ∙ c.in_ok-judge.was

pub returns-in_err-judge : goal.returns-in_err-judge
unfolding StoodAs
returns-in_err-judge c = rw (passed_on c.from_residual.result c.from_residual.ensures.1) (answer_passed _ c.judge.ensures _ (Err _) c.in_err-judge.was refl)
