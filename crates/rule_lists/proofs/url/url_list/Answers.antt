-- By the count that is listed and that of the `url `s.
use borrow.Author.Tests.{eq-eqb, ne_eqb}
use Rattle.wire.proofs.Clauses.{fails}
use Rattle.wire.proofs.Tests.{eq_or}
use Rattle.rule_lists.proofs.Forms.{form_none}
use Rattle.rule_lists.proofs.Urls.{urls_yea, urls_nay}
use mathlib.Core.Bool.{not}
use mathlib.Core.Path.{◌≡◌, sym, ap, ◌∙◌}
use native.Mathlib.Omega.{arith}
use Rattle.rule_lists.proofs.url.url_list.Goals as goal

pub returns-then-n-ne0 : goal.returns-then-n-ne0
returns-then-n-ne0 c =
    eq_or c.tally.result c.listed-n.result
    (λ q. eq-eqb _ _ q ∙ urls_yea _ c.listed-n.ensures (omega arith) (rw c.rest.ensures at c.tally.ensures) q)
    (λ q. ne_eqb _ _ q ∙ urls_nay _ c.listed-n.ensures (omega arith) (rw c.rest.ensures at c.tally.ensures) q)

pub returns-else-n-ne0 : goal.returns-else-n-ne0
returns-else-n-ne0 c = let z : c.listed-n.result ≡ 0 = omega arith in ap not (eq-eqb _ _ z) ∙ fails 0 _ (sym (form_none _ c.listed-n.ensures z))
