-- Rule 6 is kept where the tables are. Assumes nothing.
use Prim.Native.Nat.{ℕ}
use mathlib.Core.Path.{◌≡◌, sym, ap, subst, ◌∙◌}
use mathlib.Core.Bool.{Bool, true}
use mathlib.Core.List.{List}
use Rattle.codes.specs.Codes.{STBL, STTS, STSC, STSZ, STCO}
use Rattle.wire.proofs.Tests.{eq_kept}
use Rattle.boxes.specs.Kin.{Leaf}
use Rattle.sample_tables.specs.Tables.{table_form}
use Rattle.sample_tables.specs.Sizes.{sizes_form}
use Rattle.rule_tracks.specs.Six.{table_fine, table_in}
use Rattle.rule_tracks.proofs.Kept.{Tables}

module _ (G : Leaf) (t : Tables G) where
  -- a table that is kept has what it had
  same_form : (c : ℕ) (T : List ℕ → Bool) {d : ℕ} {b b' : List ℕ} → ((b b' : List ℕ) → G STBL c b b' → T b ≡ T b') → d ≡ c → G STBL d b b' → T b ≡ true → T b' ≡ true
  same_form c T {d} {b} {b'} h e g q = sym (h b b' (subst (λ (i : ℕ). G STBL i b b') e g)) ∙ q

  table_kept : (c : ℕ) (b b' : List ℕ) → G STBL c b b' → table_fine c b ≡ true → table_fine c b' ≡ true
  unfolding table_fine
  table_kept c b b' g =
      eq_kept c STTS _ _ _ _ (λ e. same_form STTS (table_form 8) (λ u v r. ap (table_form 8) (t.stts u v r)) e g)
      (eq_kept c STSC _ _ _ _ (λ e. same_form STSC (table_form 12) (λ u v r. ap (table_form 12) (t.stsc u v r)) e g)
      (eq_kept c STCO _ _ _ _ (λ e. same_form STCO (table_form 4) (λ u v r. (t.stco u v r).1) e g)
      (eq_kept c STSZ _ _ _ _ (λ e. same_form STSZ sizes_form (λ u v r. ap sizes_form (t.stsz u v r)) e g) (λ q. q))))

  -- each table that had its form has it
  pub six_forms : (k c : ℕ) (b b' : List ℕ) → G k c b b' → table_in k c b ≡ true → table_in k c b' ≡ true
  unfolding table_in
  six_forms k c b b' g = eq_kept k STBL _ _ _ _ (λ e. table_kept c b b' (subst (λ (i : ℕ). G i c b b') e g)) (λ q. q)
