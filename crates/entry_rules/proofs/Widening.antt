-- What meets the rule of a release meets that of any wider one, which takes more frames. Assumes nothing.
use Prim.Native.Nat.{ℕ, ◌≤◌}
use native.Mathlib.Omega.{arith}
use mathlib.Core.Path.{◌≡◌, sym}
use mathlib.Core.Bool.{true}
use mathlib.Core.List.{List}
use lib.ListN.{drop}
use Rattle.wire.specs.Numbers.{word}
use Rattle.wire.proofs.Tests.{eq_kept}
use Rattle.wire.proofs.Clauses.{is_le_lem, le_is, holds, done, clause}
use Rattle.release.specs.declared.Release.{Release}
use Rattle.release.specs.Releases.{most_frames}
use Rattle.entry_heads.specs.Kinds.{kind_of}
use Rattle.entry_heads.specs.Heads.{head_size}
use Rattle.std.specs.Prelude.{Option}
use Rattle.entry_rules.specs.declared.entry.Around.{Around}
use Rattle.entry_rules.specs.Decoders.{frames_rule, damr_rule, record_rule}
use Rattle.entry_rules.specs.Entries.{inside_rule, entry_rule}
use Rattle.entry_rules.proofs.Judging.{rule_met, rule_is}

module _ (release wider : Release) (more : most_frames release ≤ most_frames wider) where
  pub frames_wider : (kind modes period frames : ℕ) → frames_rule kind release modes period frames ≡ true → frames_rule kind wider modes period frames ≡ true
  unfolding frames_rule
  frames_wider kind modes period frames e =
      sym
      (holds _ _ (clause 0 _ e) (holds _ _ (clause 1 _ e)
      (holds _ _ (is_le_lem _ _ (omega (arith, le_is _ _ (clause 2 _ e)))) (holds _ _ (clause 3 _ e) done))))

  damr_wider : (kind : ℕ) (xs : List ℕ) → damr_rule kind release xs ≡ true → damr_rule kind wider xs ≡ true
  unfolding damr_rule
  damr_wider kind xs e = sym (holds _ _ (clause 0 _ e) (holds _ _ (clause 1 _ e) (holds _ _ (frames_wider kind _ _ _ (clause 2 _ e)) done)))

  -- a decoder record
  pub record_wider : (kind : ℕ) (xs : List ℕ) → record_rule kind release xs ≡ true → record_rule kind wider xs ≡ true
  unfolding record_rule
  record_wider kind xs = eq_kept _ _ _ _ _ _ (λ k. damr_wider kind xs) (eq_kept _ _ _ _ _ _ (λ k. damr_wider kind xs) (λ e. e))

  inside_wider : (kind : ℕ) (xs : List ℕ) → inside_rule kind release xs ≡ true → inside_rule kind wider xs ≡ true
  unfolding inside_rule
  inside_wider kind xs =
      eq_kept _ _ _ _ _ _ (λ k e. e) (eq_kept _ _ _ _ _ _ (λ k e. e) (eq_kept _ _ _ _ _ _ (λ k e. e) (eq_kept _ _ _ _ _ _ (λ k e. e) (record_wider kind xs))))

  -- an entry
  pub entry_wider : (around : Option Around) (xs : List ℕ) → entry_rule around release xs ≡ true → entry_rule around wider xs ≡ true
  unfolding entry_rule
  entry_wider around xs e =
      let kind = kind_of (word 4 xs 4) in
      let m = rule_met kind around release xs e in
      rule_is kind around wider xs (record { span = m.span; head = m.head; fits = m.fits; inside = inside_wider kind (drop (head_size kind) xs) m.inside })
