-- Rule 4: acceptance without places, and what keeps it. Assumes nothing.
use Prim.Native.Nat.{ℕ, zero, suc}
use native.Mathlib.Omega.{arith}
use mathlib.Core.Path.{◌≡◌, refl, ap, ◌∙◌}
use mathlib.Core.Bool.{true}
use mathlib.Core.List.{List}
use Rattle.wire.specs.Tests.{if_eq}
use Rattle.wire.specs.Numbers.{word}
use Rattle.codes.specs.Codes.{MOOV, TRAK, TKHD}
use Rattle.wire.proofs.Sums.{all_of, all_at}
use Rattle.wire.proofs.Tests.{through}
use Rattle.boxes.specs.Boxes.{boxes}
use Rattle.boxes.specs.Seek.{count, find}
use Rattle.boxes.specs.Containers.{kind_in, parent}
use Rattle.boxes.specs.Kin.{Leaf, Kin}
use Rattle.boxes.proofs.Kin.{kin_count, kin_find, kin_child}
use Rattle.rule.specs.Verdict.{is_fine, Fine}
use Rattle.rule.specs.Rule.{all_in, Says}
use Rattle.rule.proofs.Keeping.{keep, kept_at}
use Rattle.rule.proofs.Places.{unless_fine}
use Rattle.rule_headers.specs.Forms.{form}
use Rattle.rule_headers.specs.Identities.{identity, fresh, fresh_to, different}
use Rattle.rule_headers.specs.Four.{tracks_in, tracks_fine, four, four_rule}
use Rattle.rule_headers.proofs.Fresh.{different_fine}

pub four_says : Says four four_rule
unfolding tracks_in tracks_fine
four_says =
    record {
      leaf = λ k c b p q. unless_fine (form k c b) p;
      node = λ k xs home p. through is_fine k MOOV (fresh_to (boxes xs) p (count TRAK (boxes xs))) Fine ∙ rw (different_fine (boxes xs) p);
      end = λ xs p. refl;
    }

-- two files related box by box keep rule 4 where the forms of its boxes and the IDs are kept
module _ (G : Leaf) (forms : (k c : ℕ) (b b' : List ℕ) → kind_in k c ≡ 0 → G k c b b' → form k c b ≡ true → form k c b' ≡ true)
    (same : (b b' : List ℕ) → G TRAK TKHD b b' → word 4 b 12 ≡ word 4 b' 12) where
  identity_in : (d : ℕ) (b b' : List ℕ) → Kin G d TRAK b b' → word 4 (find TKHD (boxes b)) 12 ≡ word 4 (find TKHD (boxes b')) 12
  unfolding kind_in parent if_eq
  identity_in zero b b' e = ap (λ (u : List ℕ). word 4 (find TKHD (boxes u)) 12) e
  identity_in (suc d) b b' k = kin_find G d TRAK b b' k TKHD (λ z. omega arith) (λ u v. word 4 u 12 ≡ word 4 v 12) refl refl same 0

  identity_kept : (d : ℕ) (xs ys : List ℕ) → Kin G (suc d) MOOV xs ys → (i : ℕ) → identity (boxes xs) i ≡ identity (boxes ys) i
  unfolding identity kind_in parent if_eq
  identity_kept d xs ys a i =
      kin_child G d MOOV xs ys a TRAK (λ z. omega arith) (λ u v. word 4 (find TKHD (boxes u)) 12 ≡ word 4 (find TKHD (boxes v)) 12) refl (λ z. omega arith) (identity_in d) i

  different_kept : (d : ℕ) (xs ys : List ℕ) → Kin G (suc d) MOOV xs ys → different (boxes xs) ≡ true → different (boxes ys) ≡ true
  unfolding different fresh
  different_kept d xs ys a q =
      rw (← kin_count G d MOOV xs ys a TRAK)
      (all_of _ _ (λ i h. all_of _ _ (λ j g. rw (← identity_kept d xs ys a j, ← identity_kept d xs ys a i) (all_at _ _ (all_at _ _ q i h) j g))))

  tracks_kept : (d k : ℕ) (xs ys : List ℕ) → Kin G (suc d) k xs ys → tracks_fine k xs ≡ true → tracks_fine k ys ≡ true
  unfolding tracks_fine
  tracks_kept d k xs ys = kept_at G MOOV (λ zs. different (boxes zs)) (λ zs. different (boxes zs)) d k xs ys (different_kept d xs ys)

  pub kin_4 : (d k : ℕ) (xs ys : List ℕ) → Kin G d k xs ys → all_in four_rule d k xs ≡ true → all_in four_rule d k ys ≡ true
  kin_4 = keep four_rule four_rule G forms tracks_kept (λ xs q. q)
