-- Laws of the order that a move makes. Assumes nothing.
use native.Mathlib.Omega.{arith}
use mathlib.Core.Path.{◌≡◌, refl, sym, ap}
use mathlib.Core.List.{List, [], ◌∷◌, ◌++◌}
use lib.ListN.{length}
use Rattle.codes.specs.Codes.{MOOV}
use Rattle.wire.proofs.Tests.{eq_yea, eq_nay}
use Rattle.boxes.specs.Box.{Box, write}
use Rattle.boxes.specs.Seek.{count}
use Rattle.boxes.proofs.Reading.{length_cons}
use Rattle.boxes.proofs.Meaning.{meant_yes}
use Rattle.edit_move.specs.Moving.{just, others, moov_second}
use Rattle.edit_move.proofs.Sifting.{seconded}

-- ---- a list without a `moov`

module _ (x : Box) (l : List Box) (n : count MOOV (x ∷ l) ≡ 0) where
  other : x.code ≡ MOOV → ⊥
  unfolding count
  other e = omega (arith, meant_yes MOOV x.code (λ z. omega arith) e)

  rest : count MOOV l ≡ 0
  unfolding count
  rest = omega arith

just_none : (l : List Box) → count MOOV l ≡ 0 → just MOOV l ≡ []
unfolding just
just_none [] n = refl
just_none (x ∷ l) n = sym (eq_nay _ _ _ _ _ (other x l n) (sym (just_none l (rest x l n))))

others_none : (l : List Box) → count MOOV l ≡ 0 → others MOOV l ≡ l
unfolding others
others_none [] n = refl
others_none (x ∷ l) n = sym (eq_nay _ _ _ _ _ (other x l n) (ap (λ (m : List Box). x ∷ m) (sym (others_none l (rest x l n)))))

-- ---- all boxes are there, however many are `moov`

pub second_length : (l : List Box) → length (write (moov_second l)) ≡ length (write l)
second_length =
    seconded (λ l. length (write l)) (λ y l m e. omega (arith, length_cons y l, length_cons y m))
    (λ x y l h n. omega (arith, length_cons x (y ∷ l), length_cons y l, length_cons y (x ∷ l), length_cons x l))

-- ---- a list with one

module _ (x : Box) (q : List Box) (e : x.code ≡ MOOV) (k : count MOOV q ≡ 0) where
  just_one : (m : List Box) → count MOOV m ≡ 0 → just MOOV (m ++ x ∷ q) ≡ x ∷ []
  unfolding just
  just_one [] n = sym (eq_yea _ _ _ _ _ e (ap (λ (l : List Box). x ∷ l) (sym (just_none q k))))
  just_one (y ∷ m) n = sym (eq_nay _ _ _ _ _ (other y m n) (sym (just_one m (rest y m n))))

  others_one : (m : List Box) → count MOOV m ≡ 0 → others MOOV (m ++ x ∷ q) ≡ m ++ q
  unfolding others
  others_one [] n = sym (eq_yea _ _ _ _ _ e (sym (others_none q k)))
  others_one (y ∷ m) n = sym (eq_nay _ _ _ _ _ (other y m n) (ap (λ (l : List Box). y ∷ l) (sym (others_one m (rest y m n)))))

  pub second_is : (y : Box) (m : List Box) → count MOOV m ≡ 0 → moov_second (y ∷ (m ++ x ∷ q)) ≡ y ∷ (x ∷ (m ++ q))
  unfolding moov_second
  second_is y m n = rw (just_one m n, others_one m n)
