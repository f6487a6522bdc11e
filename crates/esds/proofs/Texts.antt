-- The texts of an `esds`: how long each of them is, how it is written, and what the rules say of its values. Assumes nothing.
use Prim.Native.Nat.{ℕ, ◌+◌, ◌≤◌, ◌<◌}
use native.Mathlib.Omega.{arith}
use mathlib.Core.Path.{◌≡◌, refl, sym, ◌∙◌}
use mathlib.Core.List.{List, [], ◌∷◌}
use lib.ListN.{length, length-append}
use Rattle.wire.specs.Tests.{if_lt}
use mathlib.Core.Bool.{Bool, true, false}
use Rattle.wire.specs.Numbers.{bytes}
use Rattle.wire.specs.Writing.{Put}
use Rattle.wire.proofs.Numbers.{length_bytes_lem}
use Rattle.wire.proofs.Tests.{eq_yea, eq_nay}
use Rattle.wire.proofs.Clauses.{lt_is, is_eq_lem, not_eq, fails, holds, done, clause}
use Rattle.wire.proofs.Writing.{pen_then}
use Rattle.entry_heads.specs.Heads.{box_header}
use Rattle.descriptors.specs.Lengths.{shortest, least_more, TOO_LONG}
use Rattle.descriptors.specs.Parts.{ES, CONFIGURATION, SPECIFIC, SL}
use Rattle.descriptors.specs.Texts.{head_text, descriptor_text}
use Rattle.descriptors.proofs.Written.{length_text}
use Rattle.rule.specs.Results.{Exact, asked}
use Rattle.rule.specs.Results.ToWrite.{gives}
use Rattle.rule.proofs.Results.{test_not, test_so}
use Rattle.esds.specs.declared.value.Values.{Values}
use Rattle.esds.specs.Values.{has_esds, kind_rule}
use Rattle.esds.specs.Texts.{specific_text, configuration_text, configuration_body, es_body, es_text, esds_text, values_rule, SizesOf}
use Rattle.esds.specs.Calls.{values_of, esds_write}
use Rattle.rule.specs.Answers.{Answer, Refused}

-- ---- a descriptor

-- its length, from that of its contents
pub text_around : (tag : ℕ) (xs : List ℕ) {n r : ℕ} → n ≡ length xs → r ≡ 1 + length (shortest n) + n → r ≡ length (descriptor_text tag xs)
unfolding descriptor_text head_text
text_around tag xs e g = rw (length-append, length-append, length_bytes_lem) (rw e at g)

-- its header, and then its contents
pub pen_text : (tag : ℕ) {xs out mid after : List ℕ} {n at m r : ℕ} → n ≡ length xs → Put (head_text tag n) out at m mid → Put xs mid m r after
    → Put (descriptor_text tag xs) out at r after
unfolding descriptor_text
pen_text tag e p q = pen_then (rw e at p) q

-- ---- the parts

length_sl : length (descriptor_text SL (bytes 1 2)) ≡ 3
unfolding least_more if_lt
length_sl = length_text SL (bytes 1 2) ∙ rw (length_bytes_lem 1 2)

module _ (v : Values) (s : List ℕ) where
  pub specific_none : v.specific ≡ 0 → [] ≡ specific_text v s
  unfolding specific_text
  specific_none e = eq_yea _ _ _ _ _ e refl

  pub specific_given : (v.specific ≡ 0 → ⊥) → descriptor_text SPECIFIC s ≡ specific_text v s
  unfolding specific_text
  specific_given e = eq_nay _ _ _ _ _ e refl

  length_configuration : length (configuration_body v s) ≡ 13 + length (specific_text v s)
  unfolding configuration_body configuration_text
  length_configuration = simp (length-append, length_bytes_lem)

  length_es : length (es_body v s) ≡ 3 + length (descriptor_text CONFIGURATION (configuration_body v s)) + 3
  unfolding es_body
  length_es = rw (length-append, length-append, length-append, length_bytes_lem, length_bytes_lem, length_sl)

  pub length_esds : length (esds_text v s) ≡ 12 + length (es_text v s)
  unfolding esds_text box_header
  length_esds = simp (length-append, length_bytes_lem)

  -- how long it gets, from the specific information to the whole
  pub sizes_of : {a b c : ℕ} → (a ≡ length (specific_text v s)) × (a ≤ length s + 5)
      → (b ≡ 1 + length (shortest (13 + a)) + (13 + a)) × (b ≤ 13 + a + 5)
      → (c ≡ 1 + length (shortest (3 + b + 3)) + (3 + b + 3)) × (c ≤ 3 + b + 3 + 5)
      → SizesOf v s (record { configuration = 13 + a; es = 3 + b + 3; whole = 12 + c })
  unfolding es_text
  sizes_of {a} {b} {c} p q r =
      let k : 13 + a ≡ length (configuration_body v s) = omega (arith, length_configuration, p.0) in
      let f = text_around CONFIGURATION (configuration_body v s) k q.0 in
      let e : 3 + b + 3 ≡ length (es_body v s) = omega (arith, length_es, f) in
      let g = text_around ES (es_body v s) e r.0 in
      record { configuration = k; es = e; whole = omega (arith, length_esds, g); most = omega (arith, p.1, q.1, r.1) }

  -- what code may count on where the values have their `esds`
  module _ (e : values_rule v s ≡ true) where
    pub rule_stream : v.stream < 64
    unfolding values_rule
    rule_stream = lt_is _ _ (clause 2 _ e)

    pub rule_short : length s < TOO_LONG
    unfolding values_rule
    rule_short = lt_is _ _ (clause 7 _ e)

-- ---- the writer, which is given numbers

pub write_count : (ns s out : List ℕ) → (length ns ≡ 8 → ⊥) → Exact (esds_write ns s) out (Refused 20 0) out
unfolding esds_write
write_count ns s out h = test_not 20 _ _ _ out (sym (fails 0 _ (not_eq _ _ h)))

module _ (ns s out : List ℕ) {v : Values} (e : v ≡ values_of ns) {i : Bool} (g : i ≡ has_esds v.kind) where
  pub write_other : i ≡ false → Exact (esds_write ns s) out (Refused 20 0) out
  unfolding esds_write
  write_other z = test_not 20 _ _ _ out (sym (fails 1 _ (sym (rw e at g) ∙ z)))

  pub write_kind : length ns ≡ 8 → i ≡ true → {r : Answer} {left : List ℕ}
      → Exact (asked ((50, values_rule v s) ∷ (52, kind_rule v) ∷ []) (gives (esds_text v s))) out r left → Exact (esds_write ns s) out r left
  unfolding esds_write
  write_kind l z x =
      test_so 20 _ _ _ out (sym (holds _ _ (is_eq_lem _ _ l) (holds _ _ (sym (rw e at g) ∙ z) done))) (rw e at x)
