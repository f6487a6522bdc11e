-- A read of what is written gives the same values, wherever it stands. Assumes nothing.
use Prim.Native.Nat.{ℕ}
use mathlib.Core.Path.{◌≡◌, sym, ap, ◌∙◌}
use mathlib.Core.Bool.{true}
use mathlib.Core.List.{List, ◌++◌, append_assoc}
use mathlib.Core.Logic.{◌⊎◌, inl, inr}
use lib.ListN.{length, drop, length-append}
use lib.Seq.{drop_at}
use Rattle.wire.specs.Numbers.{bytes}
use Rattle.wire.proofs.Numbers.{length_bytes_lem}
use Rattle.wire.proofs.Clauses.{clause, eq_is, of_two}
use Rattle.entry_heads.specs.Heads.{box_header}
use Rattle.descriptors.specs.Parts.{ES, CONFIGURATION, SPECIFIC, SL}
use Rattle.descriptors.specs.Texts.{head_text, descriptor_text}
use Rattle.esds.specs.declared.value.Values.{Values}
use Rattle.esds.specs.Texts.{BEFORE, specific_text, configuration_text, configuration_body, es_body, es_text, esds_text, specific_rule}
use Rattle.esds.proofs.Back.{front}
use Rattle.esds.proofs.Texts.{specific_given}

-- ---- the descriptors behind the front of the box

pub behind_front : (v : Values) (s : List ℕ) → drop BEFORE (esds_text v s) ≡ es_text v s
unfolding esds_text box_header
behind_front v s = drop_at _ (es_text v s) BEFORE (simp (length-append, length_bytes_lem))

-- ---- specific information is there or not

pub specific_or : (v : Values) (s : List ℕ) → specific_rule v s ≡ true → ((v.specific ≡ 0) × (length s ≡ 0)) ⊎ (v.specific ≡ 1)
unfolding specific_rule
specific_or v s e =
    of_two _ _ e (λ a. inr (eq_is _ _ a)) (λ b. inl (eq_is _ _ (clause 0 _ b), eq_is _ _ (clause 1 _ b)))

-- ---- where it stands in the descriptors

regroup : (h f k c p s l : List ℕ) → h ++ ((f ++ (k ++ (c ++ (p ++ s)))) ++ l) ≡ (h ++ (f ++ (k ++ (c ++ p)))) ++ (s ++ l)
regroup h f k c p s l = simp append_assoc

module _ (v : Values) (s : List ℕ) where
  before : List ℕ
  before =
      head_text ES (length (es_body v s))
      ++ (front v s ++ (head_text CONFIGURATION (length (configuration_body v s)) ++ (configuration_text v ++ head_text SPECIFIC (length s))))

  text_is : (v.specific ≡ 0 → ⊥) → es_text v s ≡ before ++ (s ++ descriptor_text SL (bytes 1 2))
  unfolding before es_text descriptor_text es_body configuration_body specific_text
  text_is n =
      let sl = descriptor_text SL (bytes 1 2) in
      let h = head_text ES (length (es_body v s)) in
      let k = head_text CONFIGURATION (length (configuration_body v s)) in
      let p = head_text SPECIFIC (length s) in
      let e : specific_text v s ≡ p ++ s = sym (specific_given v s n) in
      ap (λ (t : List ℕ). h ++ ((front v s ++ (k ++ (configuration_text v ++ t))) ++ sl)) e ∙ regroup h (front v s) k (configuration_text v) p s sl
