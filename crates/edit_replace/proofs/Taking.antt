-- The kind of an entry, and whether it takes a record. Assumes nothing.
use Prim.Native.Nat.{ℕ, ◌-◌, ◌≤◌}
use native.Mathlib.Omega.{arith}
use mathlib.Core.Path.{◌≡◌, refl, sym, ap, ◌∙◌}
use mathlib.Core.Bool.{true, false}
use mathlib.Core.List.{List, [], ◌++◌, append_assoc}
use lib.ListN.{length}
use Rattle.wire.specs.Tests.{if_eq}
use Rattle.wire.specs.Numbers.{bytes, word}
use Rattle.wire.proofs.Clauses.{not_lt, fails}
use Rattle.wire.proofs.Numbers.{length_bytes_lem, word_out, word_right, word_bytes}
use Rattle.wire.proofs.Tests.{eq_yea, eq_nay, eq_or}
use Rattle.boxes.specs.Box.{Box, field_of, more_of, size, header}
use Rattle.boxes.proofs.Whole.{Good}
use Rattle.movie.specs.Entries.{entries}
use Rattle.movie.proofs.Spots.{bytes_none}
use Rattle.release.specs.declared.Release.{Release}
use Rattle.entry_heads.specs.Kinds.{SamrKind, kind_of}
use Rattle.entry_rules.specs.Decoders.{record_rule}
use Rattle.entry_rules.proofs.Kept.{recorded}
use Rattle.edit_replace.specs.Replace.{kind_at, record_code, takes}

-- ---- the kind

-- the bytes of a box tell its code
pub code_told : (x : Box) → Good x → word 4 (header x ++ x.body) 4 ≡ x.code
unfolding header
code_told x g =
    let n : ℕ = field_of x.form (size x) in
    let more : List ℕ = more_of x.form (size x) ++ x.body in
    rw (append_assoc, append_assoc) (word_right 4 (bytes 4 n) (bytes 4 x.code ++ more) 4 0 (length_bytes_lem 4 n) ∙ word_bytes 4 x.code more g.code)

none_known : 0 ≡ kind_of 0
unfolding kind_of if_eq
none_known = refl

module _ (xs : List ℕ) (i : ℕ) where
  pub kind_zero : i ≡ 0 → 0 ≡ kind_at xs i
  unfolding kind_at
  kind_zero e = eq_yea _ _ _ _ _ e refl

  pub kind_none : length (entries xs) ≤ i - 1 → 0 ≡ kind_at xs i
  unfolding kind_at
  kind_none h =
      eq_or i 0 (λ e. eq_yea _ _ _ _ _ e refl)
      (λ e. eq_nay _ _ _ _ _ e (none_known ∙ ap kind_of (sym (ap (λ (ys : List ℕ). word 4 ys 4) (bytes_none (i - 1) (entries xs) h) ∙ word_out 4 [] 4 (omega arith)))))

-- ---- a record that meets its rule

-- is short, and its kind is editable
pub record_short : (kind : ℕ) (release : Release) (new : List ℕ) → record_rule kind release new ≡ true → (SamrKind ≤ kind) × (length new ≤ 31)
record_short kind release new e = let d = recorded kind release new e in (d.least, d.short)

-- so there is such an entry
pub record_first : (xs : List ℕ) (i : ℕ) (release : Release) (kind : ℕ) (new : List ℕ) → kind ≡ kind_at xs i → record_rule kind release new ≡ true → 1 ≤ i
record_first xs i release kind new k e = eq_or i 0 (λ z. absurd (omega (arith, kind_zero xs i z, (record_short kind release new e).0))) (λ z. omega arith)

-- ---- whether a kind takes a record

module _ (kind : ℕ) (new : List ℕ) {code : ℕ} (e : code ≡ record_code kind) where
  pub takes_none : code ≡ 0 → takes kind new ≡ false
  unfolding takes
  takes_none z = sym (fails 0 _ (not_lt _ _ (omega arith)))
