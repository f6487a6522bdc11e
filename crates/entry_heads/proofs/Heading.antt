-- Laws of heads: an entry with the rule begins with the head that the writers make of its fields, and what they make has the rule.
-- Assumes nothing.
use Prim.Native.Nat.{ℕ, ◌+◌, ◌≤◌}
use native.Mathlib.Omega.{arith}
use mathlib.Core.Path.{◌≡◌, refl, sym, ap, ◌∙◌}
use mathlib.Core.Bool.{true}
use mathlib.Core.List.{List, ◌++◌, append_assoc}
use lib.ListN.{length, take, length-take}
use Rattle.wire.specs.Tests.{if_le}
use Rattle.wire.specs.Clauses.{is_eq, is_le, every}
use Rattle.wire.specs.Numbers.{Bytes, bytes_on, bytes, word}
use Rattle.codes.specs.Codes.{SOUN, VIDE}
use Rattle.wire.proofs.Tests.{eq_yea, eq_nay, eq_or}
use Rattle.wire.proofs.Clauses.{eq_is, le_is, is_le_lem, clause, another}
use Rattle.wire.proofs.Numbers.{word_front}
use Rattle.wire.proofs.Putting.{grow}
use Rattle.entry_heads.specs.Kinds.{Avc1Kind, handler_of}
use Rattle.entry_heads.specs.Heads.{box_header, common_head, audio_head, visual_start, visual_head, COMMON, AUDIO, VISUAL, head_size, common_rule, audio_rule, name_rule, visual_rule, head_rule}

-- the front of a part, a box's header longer
pub grow_header : (xs : List ℕ) → Bytes xs → {p : List ℕ} (at span code : ℕ) → at + 8 ≤ length xs → word 4 xs at ≡ span → word 4 xs (at + 4) ≡ code
    → take at xs ≡ p → take (at + 8) xs ≡ p ++ box_header span code
unfolding box_header
grow_header xs b {p} at span code h e f t =
    let s : at + 8 ≡ at + 4 + 4 = omega arith in
    ap (λ (n : ℕ). take n xs) s ∙ grow xs b (at + 4) 4 code (omega arith) f (grow xs b at 4 span (omega arith) e t) ∙ append_assoc p (bytes 4 span) (bytes 4 code)

-- ---- what has the rule begins with the head

module _ (xs : List ℕ) (b : Bytes xs) where
  pub common_begins : 16 ≤ length xs → word 6 xs 8 ≡ 0 → take 16 xs ≡ common_head (word 4 xs 0) (word 4 xs 4) (word 2 xs 14)
  unfolding common_head
  common_begins l e = grow xs b 14 2 _ (omega arith) refl (grow xs b 8 6 0 (omega arith) e (grow_header xs b 0 _ _ (omega arith) refl refl refl))

  pub audio_begins : audio_rule xs ≡ true → take AUDIO xs ≡ audio_head (word 4 xs 0) (word 4 xs 4) (word 2 xs 14) (word 2 xs 32)
  unfolding audio_rule audio_head
  audio_begins h =
      let l : 36 ≤ length xs = le_is _ _ (clause 0 _ h) in
      grow xs b 34 2 0 (omega arith) (eq_is _ _ (clause 6 _ h))
      (grow xs b 32 2 _ (omega arith) refl
      (grow xs b 28 4 0 (omega arith) (eq_is _ _ (clause 5 _ h))
      (grow xs b 26 2 16 (omega arith) (eq_is _ _ (clause 4 _ h))
      (grow xs b 24 2 2 (omega arith) (eq_is _ _ (clause 3 _ h))
      (grow xs b 16 8 0 (omega arith) (eq_is _ _ (clause 2 _ h)) (common_begins (omega arith) (eq_is _ _ (clause 1 _ h))))))))

  pub visual_begins : (kind : ℕ) → visual_rule kind xs ≡ true
      → take VISUAL xs ≡ visual_head (word 4 xs 0) (word 4 xs 4) (word 2 xs 14) (word 2 xs 32) (word 2 xs 34) (bytes 32 (word 32 xs 50))
  unfolding visual_rule visual_head visual_start
  visual_begins kind h =
      let l : 86 ≤ length xs = le_is _ _ (clause 0 _ h) in
      grow xs b 84 2 0xFFFF (omega arith) (eq_is _ _ (clause 9 _ h))
      (grow xs b 82 2 24 (omega arith) (eq_is _ _ (clause 8 _ h))
      (grow xs b 50 32 _ (omega arith) refl
      (grow xs b 48 2 1 (omega arith) (eq_is _ _ (clause 6 _ h))
      (grow xs b 44 4 0 (omega arith) (eq_is _ _ (clause 5 _ h))
      (grow xs b 40 4 0x00480000 (omega arith) (eq_is _ _ (clause 4 _ h))
      (grow xs b 36 4 0x00480000 (omega arith) (eq_is _ _ (clause 3 _ h))
      (grow xs b 34 2 _ (omega arith) refl
      (grow xs b 32 2 _ (omega arith) refl
      (grow xs b 16 16 0 (omega arith) (eq_is _ _ (clause 2 _ h)) (common_begins (omega arith) (eq_is _ _ (clause 1 _ h))))))))))))

-- the name of any visual entry but an `avc1`
pub name_zero : (kind : ℕ) (xs : List ℕ) → (kind ≡ Avc1Kind → ⊥) → visual_rule kind xs ≡ true → word 32 xs 50 ≡ 0
unfolding visual_rule name_rule
name_zero kind xs n h = eq_is _ _ (eq_nay _ _ _ _ _ n refl ∙ clause 7 _ h)

-- ---- the rule of a head asks for what stands in it alone

-- ys has what stands behind the size in the first n bytes of xs
abbrev pub Alike : ℕ → List ℕ → List ℕ → Type 0
Alike n xs ys = (w k : ℕ) → 4 + k + w ≤ n → word w ys (4 + k) ≡ word w xs (4 + k)

module _ (xs ys : List ℕ) where
  common_alike : 16 ≤ length ys → Alike 16 xs ys → common_rule xs ≡ true → common_rule ys ≡ true
  unfolding common_rule
  common_alike l e h = rw (e 6 4 (omega arith)) (another _ _ _ (is_le_lem _ _ l) h)

  audio_alike : 36 ≤ length ys → Alike 36 xs ys → audio_rule xs ≡ true → audio_rule ys ≡ true
  unfolding audio_rule
  audio_alike l e h =
      rw (e 6 4 (omega arith), e 8 12 (omega arith), e 2 20 (omega arith), e 2 22 (omega arith), e 4 24 (omega arith), e 2 30 (omega arith))
      (another _ _ _ (is_le_lem _ _ l) h)

  visual_alike : (kind : ℕ) → 86 ≤ length ys → Alike 86 xs ys → visual_rule kind xs ≡ true → visual_rule kind ys ≡ true
  unfolding visual_rule name_rule
  visual_alike kind l e h =
      rw (
        e 6 4 (omega arith),
        e 16 12 (omega arith),
        e 4 32 (omega arith),
        e 4 36 (omega arith),
        e 4 40 (omega arith),
        e 2 44 (omega arith),
        e 32 46 (omega arith),
        e 2 78 (omega arith),
        e 2 80 (omega arith),
      )
      (another _ _ _ (is_le_lem _ _ l) h)

-- ---- what the writers make has the rule

module _ (xs : List ℕ) (span code reference : ℕ) where
  pub audio_made : (scale : ℕ) → take AUDIO xs ≡ audio_head span code reference scale → audio_rule xs ≡ true
  unfolding audio_rule audio_head common_head box_header bytes bytes_on word if_le is_eq is_le every
  audio_made scale e = audio_alike (audio_head span code reference scale) xs (omega (arith, length-take 36 xs, ap length e)) (λ w k h. word_front 36 xs _ e refl w (4 + k) h) refl

  pub common_made : take COMMON xs ≡ common_head span code reference → common_rule xs ≡ true
  unfolding common_rule common_head box_header bytes bytes_on word if_le is_eq is_le every
  common_made e = common_alike (common_head span code reference) xs (omega (arith, length-take 16 xs, ap length e)) (λ w k h. word_front 16 xs _ e refl w (4 + k) h) refl

  -- the name is a number of 32 bytes: any in `avc1`, and else 0
  module _ (kind name : ℕ) (z : (kind ≡ Avc1Kind → ⊥) → name ≡ 0) (width height : ℕ) where
    named : name_rule kind (visual_head span code reference width height (bytes 32 name)) ≡ true
    unfolding name_rule visual_head visual_start common_head box_header bytes bytes_on word if_le is_eq
    named = eq_or kind Avc1Kind (λ e. sym (eq_yea _ _ _ _ _ e refl)) (λ e. rw (z e) (sym (eq_nay _ _ _ _ _ e refl)))

    pub visual_made : take VISUAL xs ≡ visual_head span code reference width height (bytes 32 name) → visual_rule kind xs ≡ true
    unfolding visual_rule visual_head visual_start common_head box_header bytes bytes_on word if_le is_eq is_le every
    visual_made e =
        visual_alike (visual_head span code reference width height (bytes 32 name)) xs kind (omega (arith, length-take 86 xs, ap length e)) (λ w k h. word_front 86 xs _ e refl w (4 + k) h) (rw named)

-- ---- by the handler of a kind

module _ (kind : ℕ) where
  module _ (h : handler_of kind ≡ SOUN) where
    pub audio_size : head_size kind ≡ AUDIO
    unfolding head_size
    audio_size = sym (eq_yea _ _ _ _ _ h refl)

    pub audio_rule_lem : (xs : List ℕ) → head_rule kind xs ≡ audio_rule xs
    unfolding head_rule
    audio_rule_lem xs = sym (eq_yea _ _ _ _ _ h refl)

  module _ (h : handler_of kind ≡ VIDE) where
    pub visual_size : head_size kind ≡ VISUAL
    unfolding head_size
    visual_size = sym (eq_nay _ _ _ _ _ (λ e. omega arith) (eq_yea _ _ _ _ _ h refl))

    pub visual_rule_lem : (xs : List ℕ) → head_rule kind xs ≡ visual_rule kind xs
    unfolding head_rule
    visual_rule_lem xs = sym (eq_nay _ _ _ _ _ (λ e. omega arith) (eq_yea _ _ _ _ _ h refl))

  module _ (h : handler_of kind ≡ SOUN → ⊥) (g : handler_of kind ≡ VIDE → ⊥) where
    pub common_size : head_size kind ≡ COMMON
    unfolding head_size
    common_size = sym (eq_nay _ _ _ _ _ h (eq_nay _ _ _ _ _ g refl))

    pub common_rule_lem : (xs : List ℕ) → head_rule kind xs ≡ common_rule xs
    unfolding head_rule
    common_rule_lem xs = sym (eq_nay _ _ _ _ _ h (eq_nay _ _ _ _ _ g refl))

  -- the head lies inside
  pub head_inside : (xs : List ℕ) → head_rule kind xs ≡ true → head_size kind ≤ length xs
  unfolding audio_rule visual_rule common_rule
  head_inside xs r =
      eq_or (handler_of kind) SOUN (λ h. rw (audio_size h) (le_is _ _ (clause 0 _ (sym (audio_rule_lem h xs) ∙ r))))
      (λ h.
      eq_or (handler_of kind) VIDE (λ g. rw (visual_size g) (le_is _ _ (clause 0 _ (sym (visual_rule_lem g xs) ∙ r))))
      (λ g. rw (common_size h g) (le_is _ _ (clause 0 _ (sym (common_rule_lem h g xs) ∙ r)))))

  -- what stands in it decides
  pub head_alike : (xs ys : List ℕ) → head_size kind ≤ length ys → Alike (head_size kind) xs ys → head_rule kind xs ≡ true → head_rule kind ys ≡ true
  head_alike xs ys l e r =
      eq_or (handler_of kind) SOUN
      (λ h. audio_rule_lem h ys ∙ audio_alike xs ys (rw (audio_size h) at l) (rw (audio_size h) at e) (sym (audio_rule_lem h xs) ∙ r))
      (λ h.
      eq_or (handler_of kind) VIDE
      (λ g. visual_rule_lem g ys ∙ visual_alike xs ys kind (rw (visual_size g) at l) (rw (visual_size g) at e) (sym (visual_rule_lem g xs) ∙ r))
      (λ g. common_rule_lem h g ys ∙ common_alike xs ys (rw (common_size h g) at l) (rw (common_size h g) at e) (sym (common_rule_lem h g xs) ∙ r)))
