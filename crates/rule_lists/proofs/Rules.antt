-- Rules 5 and 9 with places say what they say without. Assumes nothing.
use Prim.Native.Nat.{ℕ, ◌+◌, ◌≤◌, ◌<◌}
use native.Mathlib.Omega.{arith}
use native.Mathlib.Nat.{zero-add}
use mathlib.Core.Path.{◌≡◌, refl, sym, ap, ◌∙◌}
use mathlib.Core.Bool.{Bool, true, false}
use mathlib.Core.List.{List, [], ◌∷◌}
use lib.Dec.{leb}
use borrow.Author.Tests.{leb-true, leb-false}
use Rattle.wire.specs.Tests.{pick, if_eq, if_le}
use Rattle.wire.specs.Clauses.{is_le}
use Rattle.codes.specs.Codes.{TRAK, MOOV, DINF, DREF}
use Rattle.wire.proofs.Clauses.{is_le_lem, not_le}
use Rattle.wire.proofs.Tests.{through}
use Rattle.boxes.specs.Box.{Box, size}
use Rattle.boxes.specs.Boxes.{boxes}
use Rattle.boxes.proofs.Meaning.{meant_or}
use Rattle.movie.specs.Movie.{stored_count}
use Rattle.movie.specs.Stsds.{Stsd, stsds_from}
use Rattle.movie.proofs.Boxed.{stsds_hit, stsds_miss}
use Rattle.rule.specs.Verdict.{is_fine, Fine, Bad}
use Rattle.rule.specs.Rule.{Says}
use Rattle.rule.proofs.Places.{unless_fine}
use Rattle.rule.proofs.Acceptance.{list_fine}
use Rattle.rule_lists.specs.Five.{MOST, list_form_in, counted_in, passing, five, five_rule}
use Rattle.rule_lists.specs.Nine.{is_url, url_at, urls_of, urls_in, all_urls, all_urls_in, nine, nine_rule}

-- ---- the total

pub passing_fine : (most n : ℕ) (l : List Stsd) → n ≤ most → is_fine (passing most n l) ≡ is_le (n + counted_in l) most
unfolding passing counted_in if_le
passing_fine most n [] h = sym (is_le_lem (n + 0) most (omega arith))
passing_fine most n (s ∷ l) h = go (leb (n + stored_count s.body) most) refl (passing_fine most (n + stored_count s.body) l)
  where
    go : (t : Bool) → leb (n + stored_count s.body) most ≡ t
        → (n + stored_count s.body ≤ most → is_fine (passing most (n + stored_count s.body) l) ≡ is_le (n + stored_count s.body + counted_in l) most)
        → is_fine (pick t (passing most (n + stored_count s.body) l) (Bad s.place)) ≡ is_le (n + (stored_count s.body + counted_in l)) most
    go true e ih = ih (leb-true _ _ e) ∙ ap (λ (m : ℕ). is_le m most) (omega arith)
    go false e ih = let k : most < n + stored_count s.body = leb-false _ _ e in sym (not_le _ _ (omega arith))

-- it is the same wherever the boxes of `moov` start
pub counted_anywhere : (l : List Box) (t u p q : ℕ) → counted_in (stsds_from t l p) ≡ counted_in (stsds_from u l q)
unfolding stsds_from counted_in
counted_anywhere [] t u p q = refl
counted_anywhere (x ∷ l) t u p q =
    meant_or TRAK x.code
    (λ e. rw (stsds_hit x e l t p, stsds_hit x e l u q, counted_anywhere l (t + 1) (u + 1) (p + size x) (q + size x)))
    (λ e. rw (stsds_miss x e l t p, stsds_miss x e l u q) (counted_anywhere l t u (p + size x) (q + size x)))

-- ---- the rules

pub five_says : Says five five_rule
five_says =
    record {
      leaf = λ k c b p q. unless_fine (list_form_in k c b) p;
      node = λ k xs home p. through is_fine k MOOV (passing MOST 0 (stsds_from 0 (boxes xs) p)) Fine ∙ rw (passing_fine MOST 0 (stsds_from 0 (boxes xs) p) (omega arith), zero-add, counted_anywhere (boxes xs) 0 0 p 0);
      end = λ xs p. refl;
    }

urls_fine : (b : List ℕ) (q : ℕ) → is_fine (urls_of b q) ≡ all_urls b
unfolding all_urls
urls_fine b q = list_fine url_at (λ p. Fine) (λ x. is_url x.code x.body) true (λ x p. unless_fine (is_url x.code x.body) p) (λ p. refl) _ _

urls_in_fine : (k c : ℕ) (b : List ℕ) (q : ℕ) → is_fine (urls_in k c b q) ≡ all_urls_in k c b
unfolding all_urls_in
urls_in_fine k c b q = through is_fine k DINF (if_eq c DREF (urls_of b q) Fine) Fine ∙ rw (through is_fine c DREF (urls_of b q) Fine, urls_fine b q)

pub nine_says : Says nine nine_rule
nine_says = record { leaf = λ k c b p q. urls_in_fine k c b q; node = λ k xs home p. refl; end = λ xs p. refl }
