-- A rule that holds of a file holds of the boxes that an edit relates. Assumes nothing.
use Prim.Native.Nat.{ℕ, zero, suc, ◌≤◌}
use native.Mathlib.Omega.{arith}
use mathlib.Core.Path.{◌≡◌, refl}
use mathlib.Core.Bool.{true}
use mathlib.Core.List.{List, [], ◌∷◌}
use lib.ListN.{length}
use Rattle.wire.specs.Clauses.{is_le}
use Rattle.wire.proofs.Clauses.{is_le_lem}
use Rattle.boxes.specs.Box.{Box, write}
use Rattle.boxes.specs.Boxes.{boxes}
use Rattle.boxes.specs.Containers.{kind_in}
use Rattle.boxes.specs.Kin.{All2, Leaf, Kin}
use Rattle.boxes.specs.Kin.All2.{nil, cons}
use Rattle.boxes.proofs.Reading.{lengths, length_cons, All}
use Rattle.boxes.proofs.Reading.All.{none, some}
use Rattle.boxes.proofs.Every.{all_map}
use Rattle.rule.specs.Rule.{Rule, all_in}
use Rattle.rule.proofs.Opened.{opened, closed}

-- ---- with the rule known of every opaque box of the first file

-- G, and the rule of the first body
abbrev pub With : Rule → Leaf → Leaf
With r G k c b b' = G k c b b' × (r.leaf k c b ≡ true)

list_with : {R S : Box → Box → Type 0} {P Q : Box → Type 0} → ((x y : Box) → R x y → P x → Q x → S x y) → {l m : List Box} → All2 R l m → All P l → All Q l → All2 S l m
list_with h nil none none = nil
list_with h (cons {x} {y} r a) (some p b) (some q c) = cons (h x y r p q) (list_with h a b c)

module _ (r : Rule) (G : Leaf) where
  -- an edit of a file of which a rule holds
  pub kin_with : (d k : ℕ) (xs ys : List ℕ) → Kin G d k xs ys → all_in r d k xs ≡ true → Kin (With r G) d k xs ys
  kin_with zero k xs ys e q = e
  kin_with (suc d) k xs ys (a, e) q = let o = opened r d k xs q in (
    list_with (λ x y s f g. record {
      form = s.form;
      code = s.code;
      leaf = λ z. (s.leaf z, f z);
      node = λ z. kin_with d (kind_in k x.code) x.body y.body (s.node z) (g z);
    }) a o.leaves o.inside,
    e,
  )

-- ---- no box is longer than the file

-- the rule that no opaque box is longer than n
abbrev pub short : ℕ → Rule
short n = record { leaf = λ k c b. is_le (length b) n; node = λ k xs. true; end = λ xs. true }

module _ (n : ℕ) where
  each_short : (l : List Box) → length (write l) ≤ n → All (λ x. length x.body ≤ n) l
  each_short [] k = none
  each_short (x ∷ l) k = let e = length_cons x l in some {x = x} (omega arith) (each_short l (omega arith))

  -- it holds of a file of n bytes at most
  pub short_all : (d k : ℕ) (xs : List ℕ) → length xs ≤ n → all_in (short n) d k xs ≡ true
  unfolding all_in
  short_all zero k xs h = refl
  short_all (suc d) k xs h =
      let a = each_short (boxes xs) (omega (arith, lengths xs)) in
      closed (short n) d k xs (record { node = refl; leaves = all_map (λ x p z. is_le_lem _ _ p) a; inside = all_map (λ x p z. short_all d (kind_in k x.code) x.body p) a; end = refl })
