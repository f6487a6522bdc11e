-- What keeps rules 5 and 9. Assumes nothing.
use Prim.Native.Nat.{ℕ, suc}
use mathlib.Core.Path.{◌≡◌, refl, subst}
use mathlib.Core.Bool.{true}
use mathlib.Core.List.{List}
use Rattle.codes.specs.Codes.{MOOV, STBL, STSD, DINF, DREF}
use Rattle.wire.proofs.Tests.{eq_kept}
use Rattle.boxes.specs.Kin.{Leaf, Kin}
use Rattle.movie.specs.Ways.{to_stsd, follow}
use Rattle.movie.specs.Movie.{stored_count}
use Rattle.movie.specs.Stsds.{Stsd}
use Rattle.movie.proofs.Stsds.{Pairs, kin_stsds}
use Rattle.movie.proofs.Stsds.Pairs.{nil, cons}
use Rattle.movie.proofs.Kept.{kin_stsd}
use Rattle.rule.specs.Rule.{all_in}
use Rattle.rule.proofs.Keeping.{keep}
use Rattle.rule_lists.specs.Five.{list_form, list_form_in, counted_in, five_rule}
use Rattle.rule_lists.specs.Nine.{all_urls, all_urls_in, nine_rule}

-- ---- the same total

same_total : {l m : List Stsd} → Pairs (λ b b'. stored_count (follow to_stsd b) ≡ stored_count (follow to_stsd b')) l m → counted_in l ≡ counted_in m
unfolding counted_in
same_total nil = refl
same_total (cons t u p q e a) = rw (e, same_total a)

-- ---- what an edit keeps

-- of `stsd` its form and its count, of `dref` its form
module _ (G : Leaf)
    (stsd : (b b' : List ℕ) → G STBL STSD b b' → list_form b ≡ true → list_form b' ≡ true)
    (counts : (b b' : List ℕ) → G STBL STSD b b' → stored_count b ≡ stored_count b')
    (dref : (b b' : List ℕ) → G DINF DREF b b' → list_form b ≡ true → list_form b' ≡ true) where
  form_keep : (k c : ℕ) (b b' : List ℕ) → G k c b b' → list_form_in k c b ≡ true → list_form_in k c b' ≡ true
  unfolding list_form_in
  form_keep k c b b' g =
      eq_kept k STBL _ _ _ _ (λ e. eq_kept c STSD _ _ _ _ (λ f. stsd b b' (rw (e, f) at g)) (λ t. t))
      (eq_kept k DINF _ _ _ _ (λ e. eq_kept c DREF _ _ _ _ (λ f. dref b b' (rw (e, f) at g)) (λ t. t)) (λ t. t))

  pub kin_5 : (d k : ℕ) (xs ys : List ℕ) → Kin G d k xs ys → all_in five_rule d k xs ≡ true → all_in five_rule d k ys ≡ true
  kin_5 = keep five_rule five_rule G (λ k c b b' z g. form_keep k c b b' g)
      (λ d k xs ys a. eq_kept k MOOV _ _ _ _ (λ e t. rw (← same_total (kin_stsds _ G d (kin_stsd G (λ b b'. stored_count b ≡ stored_count b') (λ b. refl) counts d) xs ys (subst (λ (i : ℕ). Kin G (suc d) i xs ys) e a) 0 0)) t) (λ t. t))
      (λ xs t. t)

-- of `dref` that its entries are of this file
module _ (G : Leaf) (dref : (b b' : List ℕ) → G DINF DREF b b' → all_urls b ≡ true → all_urls b' ≡ true) where
  urls_keep : (k c : ℕ) (b b' : List ℕ) → G k c b b' → all_urls_in k c b ≡ true → all_urls_in k c b' ≡ true
  unfolding all_urls_in
  urls_keep k c b b' g = eq_kept k DINF _ _ _ _ (λ e. eq_kept c DREF _ _ _ _ (λ f. dref b b' (rw (e, f) at g)) (λ t. t)) (λ t. t)

  pub kin_9 : (d k : ℕ) (xs ys : List ℕ) → Kin G d k xs ys → all_in nine_rule d k xs ≡ true → all_in nine_rule d k ys ≡ true
  kin_9 = keep nine_rule nine_rule G (λ k c b b' z g. urls_keep k c b b' g) (λ d k xs ys a t. t) (λ xs t. t)
