-- A plain entry with another decoder record behind its head still meets its rule. Assumes nothing.
use Prim.Native.Nat.{ℕ, ◌+◌, ◌-◌, ◌≤◌}
use native.Mathlib.Omega.{arith}
use mathlib.Core.Path.{◌≡◌, ap, ◌∙◌}
use mathlib.Core.Bool.{true}
use mathlib.Core.List.{List, ◌++◌, append_assoc, append-nil}
use lib.ListN.{length, take, drop, length-append}
use lib.Seq.{drop_at, length-take-le}
use Rattle.wire.specs.Numbers.{bytes, word}
use Rattle.wire.proofs.Lists.{take_past}
use Rattle.wire.proofs.Numbers.{length_bytes_lem}
use Rattle.boxes.specs.declared.walk.Form.{Form}
use Rattle.boxes.specs.declared.walk.Form.TheVariants.{Plain}
use Rattle.boxes.specs.Box.{Box, head_of, header_by, header, remade}
use Rattle.boxes.specs.Boxes.{HEAD}
use Rattle.boxes.specs.Way.{tail_by}
use Rattle.boxes.proofs.Whole.{Good, length_header}
use Rattle.entry_heads.specs.Kinds.{kind_of}
use Rattle.entry_heads.specs.Heads.{head_size}
use Rattle.release.specs.declared.Release.{Release}
use Rattle.std.specs.Prelude.{Option}
use Rattle.entry_rules.specs.declared.entry.Around.{Around}
use Rattle.entry_rules.specs.Decoders.{record_rule}
use Rattle.entry_rules.specs.Entries.{behind_head}
use Rattle.entry_rules.proofs.Kept.{recorded, entry_head, entry_kept}
use Rattle.rule_entries.specs.Ten.{entry_fine}
use Rattle.edit_replace.proofs.Taking.{code_told}

-- ---- the box

module _ (x : Box) (g : Good x) (p : x.form ≡ Plain) where
  plain_header : (b : List ℕ) → header (remade x b) ≡ bytes 4 (8 + length b) ++ bytes 4 x.code
  unfolding header
  plain_header b = ap (λ (f : Form). header_by f (head_of f + length b) x.code) p ∙ ap (λ (c : List ℕ). bytes 4 (8 + length b) ++ c) (append-nil (bytes 4 x.code))

  -- other bytes behind its head
  tail_is : (keep : ℕ) (new : List ℕ) → keep ≤ length x.body → header (remade x (tail_by keep new x.body)) ++ tail_by keep new x.body ≡ behind_head (8 + keep) (header x ++ x.body) new
  unfolding behind_head
  tail_is keep new h =
      let b = x.body in
      let l : length (header x) ≡ 8 = length_header x ∙ ap head_of p in
      let t : take (8 + keep) (header x ++ b) ≡ header x ++ take keep b = take_past (header x) b 8 keep l in
      let d : drop 4 (header x ++ take keep b) ≡ bytes 4 x.code ++ take keep b =
      ap (λ (k : List ℕ). drop 4 (k ++ take keep b)) (plain_header b) ∙ rw append_assoc (drop_at (bytes 4 (8 + length b)) (bytes 4 x.code ++ take keep b) 4 (length_bytes_lem 4 (8 + length b))) in
      let n : 8 + length (take keep b ++ new) ≡ 8 + keep + length new = rw (length-append, length-take-le keep b h) (omega arith) in
      rw (t, d, plain_header (take keep b ++ new), n) (simp append_assoc)

  -- a given record that meets its rule, in the place of the entry's own
  pub entry_changed : (a : Option Around) (release : Release) (kind : ℕ) (new : List ℕ) → kind_of x.code ≡ kind → record_rule kind release new ≡ true → entry_fine a release x ≡ true → entry_fine a release (remade x (tail_by (head_size kind - HEAD) new x.body)) ≡ true
  entry_changed a release kind new k r e =
      let c : kind_of (word 4 (header x ++ x.body) 4) ≡ kind = ap kind_of (code_told x g) ∙ k in
      let d = recorded kind release new r in
      let i = entry_head a release kind (header x ++ x.body) c e in
      let n : 8 + (head_size kind - HEAD) ≡ head_size kind = omega arith in
      rw (tail_is (head_size kind - HEAD) new (omega (arith, length-append (header x) x.body, length_header x, ap head_of p)), n) (entry_kept a release kind (header x ++ x.body) new c e r)
