-- None of four boxes, and then the `moov`.
use native.Mathlib.Omega.{arith}
use Prim.Native.Nat.{ℕ, ◌≤◌}
use mathlib.Core.Path.{sym, ap, subst, ◌∙◌}
use Rattle.layout.specs.declared.gather.Want.{Want}
use Rattle.codes.specs.Codes.{MOOV, MOOF, MFRA, SIDX, META}
use Rattle.layout.specs.Slots.{first_with, Gathered}
use Rattle.layout.proofs.Gathering.{gathered_as}
use Rattle.layout.proofs.LayingOut.{all_is}
use Rattle.rule_all.proofs.Editing.{file_edits}
use Rattle.rule_all.proofs.All.{sure_none}
use Rattle.rule_all.proofs.edit.edits_hold.Goals as goal

pub wanted-g-requires : goal.wanted-g-requires
wanted-g-requires c =
    let a = ap (λ (w : Want). w.code) c.first.ensures in
    let b = ap (λ (w : Want). w.code) c.first-2.ensures in
    let d = ap (λ (w : Want). w.code) c.first-3.ensures in
    let e = ap (λ (w : Want). w.code) c.first-4.ensures in
    let f = ap (λ (w : Want). w.code) c.first-5.ensures in
    (c.whole.ensures.1, omega arith, omega arith, omega arith, omega arith, omega arith)

pub returns-then-g-gt1 : goal.returns-then-g-gt1
returns-then-g-gt1 c = sure_none _

pub returns-then-g-ne0 : goal.returns-then-g-ne0
returns-then-g-ne0 c = sure_none _

pub returns-then-g-ne0-2 : goal.returns-then-g-ne0-2
returns-then-g-ne0-2 c = sure_none _

pub returns-then-g-ne0-3 : goal.returns-then-g-ne0-3
returns-then-g-ne0-3 c = sure_none _

pub returns-then-g-ne0-4 : goal.returns-then-g-ne0-4
returns-then-g-ne0-4 c = sure_none _

pub moov_edits-requires : goal.moov_edits-requires
moov_edits-requires c = c.wanted-g.ensures.first.lies

pub returns : goal.returns
returns c = let g : Gathered _ _ (first_with MOOV) (first_with MOOF) (first_with MFRA) (first_with SIDX) (first_with META) _ =
    gathered_as (c.first.ensures, c.first-2.ensures, c.first-3.ensures, c.first-4.ensures, c.first-5.ensures) c.wanted-g.ensures in
    record {
      holds = λ z.
          file_edits (all_is c.whole.ensures.0)
          (subst (λ (n : ℕ). n ≤ 1) g.first.counted (omega (arith, c.if-g-gt1))) (sym g.second.counted ∙ omega (arith, c.if-g-ne0))
          (sym g.third.counted ∙ omega (arith, c.if-g-ne0-2)) (sym g.fourth.counted ∙ omega (arith, c.if-g-ne0-3)) (sym g.fifth.counted ∙ omega (arith, c.if-g-ne0-4))
          (rw g.first.is at (c.moov_edits.ensures.holds z));
    }
