-- The entries that describe a track's samples. Assumes nothing.
use Prim.Native.Nat.{ℕ, zero, suc, ◌+◌, ◌-◌, ◌≤◌, ◌<◌}
use native.Mathlib.Omega.{arith}
use mathlib.Core.Path.{◌≡◌, refl, sym, ap, ◌∙◌}
use mathlib.Core.Bool.{Bool, true, false}
use mathlib.Core.List.{List, [], ◌∷◌, ◌++◌}
use mathlib.Core.Logic.{◌⊎◌, inl, inr, ⊎_elim}
use lib.ListN.{length, get_or, take, drop}
use lib.Dec.{leb}
use borrow.Author.Tests.{le-leb, lt-leb}
use Rattle.wire.specs.Numbers.{Bytes, word}
use Rattle.wire.specs.Clauses.{is_eq, either}
use Rattle.wire.proofs.Numbers.{word_byte}
use Rattle.wire.proofs.Tests.{eq_or, eq_yea, eq_nay}
use Rattle.wire.proofs.Clauses.{is_eq_lem, not_eq, one, none, lacks}
use Rattle.codes.specs.Codes.{SAMR, SAWB}
use Rattle.boxes.specs.declared.walk.BoxAt.{BoxAt}
use Rattle.boxes.specs.Box.{Box, header}
use Rattle.boxes.specs.Boxes.{boxes}
use Rattle.boxes.specs.Walk.{box_at, payload}
use Rattle.boxes.specs.Seek.{ANY, meant, count, Cut}
use Rattle.boxes.proofs.Meaning.{meant_any, meant_yes, meant_no}
use Rattle.boxes.proofs.Numbered.{count_any}
use Rattle.boxes.proofs.Cutting.{length_box, lies_box}
use Rattle.rule.specs.Rule.{all_list}
use Rattle.frames.specs.declared.codec.Codec.{Codec}
use Rattle.frames.specs.declared.codec.Codec.TheVariants.{Amr, Wideband}
use Rattle.entry_heads.specs.Kinds.{SamrKind, kind_of}
use Rattle.modes.specs.Sample.{codec_of, speech_of}
use Rattle.modes.specs.Track.{speech_only, entry_bytes}

-- ---- every entry is a `samr` or a `sawb`: as many are as there are

-- of a code
abbrev is_speech : ℕ → Bool
is_speech c = either (is_eq c SAMR ∷ is_eq c SAWB ∷ [])

of_code : (c : ℕ) → (is_speech c ≡ true × (meant SAMR c + meant SAWB c ≡ meant ANY c)) ⊎ (is_speech c ≡ false × (meant SAMR c + meant SAWB c < meant ANY c))
of_code c =
    let a = meant_any ANY c refl in
    eq_or c SAMR
    (λ e. inl (sym (one 0 _ (is_eq_lem _ _ e)), omega (arith, meant_yes SAMR c (λ z. omega arith) e, meant_no SAWB c (λ z. omega arith) (λ f. omega arith))))
    (λ e. eq_or c SAWB
    (λ f. inl (sym (one 1 _ (is_eq_lem _ _ f)), omega (arith, meant_no SAMR c (λ z. omega arith) e, meant_yes SAWB c (λ z. omega arith) f)))
    (λ f. inr (
      sym (lacks _ _ (not_eq _ _ e) (lacks _ _ (not_eq _ _ f) none)),
      omega (arith, meant_no SAMR c (λ z. omega arith) e, meant_no SAWB c (λ z. omega arith) f),
    )))

abbrev spoken : List Box → ℕ
spoken l = count SAMR l + count SAWB l

of_all : (l : List Box) → (speech_only l ≡ true × (spoken l ≡ count ANY l)) ⊎ (speech_only l ≡ false × (spoken l < count ANY l))
unfolding speech_only all_list count
of_all [] = inl (refl, refl)
of_all (x ∷ l) =
    ⊎_elim
    (λ c. ⊎_elim
    (λ d. inl (rw c.0 d.0, omega (arith, c.1, d.1)))
    (λ d. inr (rw c.0 d.0, omega (arith, c.1, d.1)))
    (of_all l))
    (λ c. inr (rw c.0, ⊎_elim (λ d. omega (arith, c.1, d.1)) (λ d. omega (arith, c.1, d.1)) (of_all l)))
    (of_code x.code)

module _ (l : List Box) {a b n : ℕ} (e : a ≡ count SAMR l) (f : b ≡ count SAWB l) (g : n ≡ count ANY l) where
  pub only_is : leb n (a + b) ≡ speech_only l
  only_is = ⊎_elim (λ c. rw c.0 (le-leb _ _ (omega (arith, c.1)))) (λ c. rw c.0 (lt-leb _ _ (omega (arith, c.1)))) (of_all l)

-- ---- entry n

entry_at : (p : List Box) (x : Box) (q : List Box) → entry_bytes (p ++ x ∷ q) (length p) ≡ header x ++ x.body
unfolding entry_bytes
entry_at [] x q = refl
entry_at (y ∷ p) x q = entry_at p x q

past : (l : List Box) (n : ℕ) → length l ≤ n → entry_bytes l n ≡ []
unfolding entry_bytes
past [] n h = refl
past (x ∷ l) zero h = absurd (omega arith)
past (x ∷ l) (suc n) h = past l n (omega arith)

pub entry_none : (l : List Box) (n : ℕ) → count ANY l ≤ n → entry_bytes l n ≡ []
entry_none l n h = past l n (omega (arith, count_any l))

pub entry_cut : {xs : List ℕ} {n : ℕ} {b : BoxAt} → Bytes xs → Cut xs ANY n b → entry_bytes (boxes xs) n ≡ take (b.at + b.span - b.at) (drop b.at xs)
entry_cut {xs} {n} {b} v s =
    let m : b.at + b.span - b.at ≡ b.span = omega arith in
    let i : length s.p ≡ n = omega (arith, count_any s.p, s.nth) in
    let e : entry_bytes (boxes xs) n ≡ header (box_at xs b) ++ payload xs b = rw (s.list, ← i) (entry_at s.p (box_at xs b) s.q) in
    e ∙ sym (rw m (rw (length_box v s) at (lies_box v s).is))

-- ---- what it says

module _ (xs : List ℕ) {code kind : ℕ} (e : code ≡ word 4 xs 4) (f : kind ≡ kind_of code) where
  kind_is : kind ≡ kind_of (word 4 xs 4)
  kind_is = f ∙ ap kind_of e

  pub codec_amr : kind ≡ SamrKind → Amr ≡ codec_of xs
  unfolding codec_of
  codec_amr z = eq_yea _ _ _ _ _ (sym kind_is ∙ z) refl

  pub codec_wide : (kind ≡ SamrKind → ⊥) → Wideband ≡ codec_of xs
  unfolding codec_of
  codec_wide z = eq_nay _ _ _ _ _ (λ y. z (kind_is ∙ y)) refl

pub speech_is : (xs : List ℕ) {k : Codec} {m b : ℕ} → k ≡ codec_of xs → m ≡ word 2 xs 49 → b ≡ get_or xs 52 0
    → record { codec = k; modes = m; frames = b } ≡ speech_of xs
unfolding speech_of
speech_is xs e f g = rw (e, f, g, word_byte xs 52)
