use Rattle.rule_headers.proofs.Fresh.{fresh_none, fresh_more, fresh_again}
use mathlib.Core.Path.{◌≡◌, sym, ◌∙◌}
use native.Mathlib.Omega.{arith}
use Rattle.rule_headers.proofs.identities.fresh.Goals as goal

pub loop-j-init : goal.loop-j-init
loop-j-init c = (c.identity-own.ensures, fresh_none _ _)

pub returns-then-identity-own : goal.returns-then-identity-own
returns-then-identity-own c = (sym (fresh_again _ _ _ _ (omega arith) (sym c.identity.ensures ∙ c.if-identity-own.true ∙ c.loop-j.invariant.0)))

pub loop-j-preserved : goal.loop-j-preserved
loop-j-preserved c = (c.loop-j.invariant.0, fresh_more _ _ _ c.loop-j.invariant.1 (λ e. c.if-identity-own.false (c.identity.ensures ∙ e ∙ sym c.loop-j.invariant.0)))

pub returns : goal.returns
returns c = let e : c.loop-j.j ≡ c.args.i = omega arith in (sym (rw e at c.loop-j.invariant.1))
