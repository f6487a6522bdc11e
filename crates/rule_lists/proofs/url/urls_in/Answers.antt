use Rattle.boxes.specs.Boxes.{FRONT}
use Rattle.wire.proofs.Tests.{eq_yea, eq_nay}
use lib.ListN.{length, length-drop}
use mathlib.Core.Path.{refl, ap, ◌∙◌}
use native.Mathlib.Omega.{arith}
use Rattle.rule_lists.proofs.url.urls_in.Goals as goal

pub returns-then-k-ne-DINF : goal.returns-then-k-ne-DINF
returns-then-k-ne-DINF c = eq_nay _ _ _ _ _ c.if-k-ne-DINF.true refl

pub returns-then-c-ne-DREF : goal.returns-then-c-ne-DREF
returns-then-c-ne-DREF c = eq_yea _ _ _ _ _ (omega arith) (eq_nay _ _ _ _ _ c.if-c-ne-DREF.true refl)

pub urls_from-requires : goal.urls_from-requires
urls_from-requires c = omega (arith, ap length c.rest.ensures ∙ length-drop FRONT c.args.body.now)

pub returns : goal.returns
returns c = eq_yea _ _ _ _ _ (omega arith) (eq_yea _ _ _ _ _ (omega arith) (rw c.rest.ensures at c.urls_from.ensures))
