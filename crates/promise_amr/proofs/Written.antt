-- Plain boxes with short bodies are read as they were written, and what a rule asks of them is asked of each. Assumes nothing.
use Prim.Native.Nat.{ℕ, suc, ◌≤◌, ◌<◌}
use native.Mathlib.Omega.{arith}
use mathlib.Core.Path.{◌≡◌, sym, ap, ◌∙◌}
use mathlib.Core.Bool.{Bool, true, false, false≢true}
use mathlib.Core.List.{List, [], ◌∷◌, ◌++◌}
use lib.Dec.{ltb}
use lib.ListN.{length, length-append}
use borrow.Author.Tests.{ltb-true}
use Rattle.wire.specs.Tests.{pick}
use Rattle.wire.proofs.Tests.{both, eq_yea, eq_nay}
use Rattle.boxes.specs.declared.walk.Form.{Form}
use Rattle.boxes.specs.declared.walk.Form.TheVariants.{Open}
use Rattle.boxes.specs.Box.{Box, is_plain, plain_box, write}
use Rattle.boxes.specs.Boxes.{boxes, after}
use Rattle.boxes.specs.Containers.{kind_in}
use Rattle.boxes.proofs.Whole.{Good}
use Rattle.boxes.proofs.Reading.{All, Shut, length_cons, write_append}
use Rattle.boxes.proofs.Reading.All.{none, some}
use Rattle.boxes.proofs.Reading.Shut.{end, next}
use Rattle.boxes.proofs.Written.{boxes_all, after_all}
use Rattle.rule.specs.Rule.{Rule, all_box, all_in}
use Rattle.rule.proofs.Opened.{each_list}

-- each is plain, and its code fits a header
abbrev pub plainly : List Box → Bool
plainly [] = true
plainly (x ∷ l) = pick (is_plain x.form) (pick (ltb x.code 4294967296) (plainly l) false) false

not_open : (f : Form) {A : Type 0} → is_plain f ≡ true → f ≡ Open → A
not_open f p o = absurd (false≢true (ap is_plain (sym o) ∙ p))

all_good : (l : List Box) → plainly l ≡ true → All Good l
all_good [] e = none
all_good (x ∷ l) e =
    let u = both (is_plain x.form) _ e in
    let v = both (ltb x.code 4294967296) (plainly l) u.1 in
    some (record { code = ltb-true _ _ v.0 }) (all_good l v.1)

all_shut : (l : List Box) → plainly l ≡ true → Shut [] l
all_shut [] e = end
all_shut (x ∷ l) e =
    let u = both (is_plain x.form) _ e in
    let v = both (ltb x.code 4294967296) (plainly l) u.1 in
    next {l = l} (λ o. not_open x.form u.0 o) (all_shut l v.1)

-- what was written is read back, and nothing stands past it
pub record ReadBack (l : List Box) : Type 0 where
  pub list : boxes (write l) ≡ l
  pub past : after (write l) ≡ []

pub read_back : (l : List Box) → plainly l ≡ true → length (write l) < 4294967296 → ReadBack l
read_back l e s = record { list = boxes_all (all_good l e) (all_shut l e) s; past = after_all (all_good l e) (all_shut l e) s }

-- a box's body is shorter than what it is written with
pub body_short : (p : List Box) (x : Box) (q : List Box) → length x.body ≤ length (write (p ++ x ∷ q))
body_short p x q = rw (write_append p (x ∷ q), length-append) (omega (arith, length_cons x q))

-- ---- a rule of such boxes

module _ (r : Rule) where
  pub of_list : (d kind : ℕ) {l : List Box} → ReadBack l → r.node kind (write l) ≡ true → r.end [] ≡ true
      → All (λ x. all_box r (λ i ys. all_in r d i ys) kind x ≡ true) l → all_in r (suc d) kind (write l) ≡ true
  unfolding all_in
  of_list d kind b n e a = rw (n, b.list, b.past) (each_list _ _ a e)

  module _ (d kind c : ℕ) (b : List ℕ) where
    pub of_leaf : kind_in kind c ≡ 0 → r.leaf kind c b ≡ true → all_box r (λ i ys. all_in r d i ys) kind (plain_box c b) ≡ true
    unfolding all_box
    of_leaf z e = sym (eq_yea _ _ _ _ _ z (sym e))

    pub of_node : kind_in kind c ≡ c → (c ≡ 0 → ⊥) → all_in r d c b ≡ true → all_box r (λ i ys. all_in r d i ys) kind (plain_box c b) ≡ true
    unfolding all_box
    of_node z n e = rw z (sym (eq_nay _ _ _ _ _ n (sym e)))
