-- Which containers stand in a container, and what is asked of an opaque box in it. Assumes nothing.
use Prim.Native.Nat.{ℕ}
use mathlib.Core.Path.{◌≡◌, refl}
use mathlib.Core.Bool.{true}
use mathlib.Core.List.{List}
use borrow.Author.Tests.{ne_eqb}
use Rattle.wire.specs.Tests.{if_eq}
use Rattle.wire.proofs.Tests.{eq_or}
use Rattle.codes.specs.Codes.{FTYP, MOOV, MVHD, TRAK, TKHD, MDIA, MDHD, HDLR, MINF, DINF, DREF, STBL, STSD, STTS, STSC, STSZ, STCO}
use Rattle.boxes.specs.Box.{Box}
use Rattle.boxes.specs.Containers.{FILE, parent, kind_in}
use Rattle.rule_headers.specs.Forms.{if_box, form}
use Rattle.rule_lists.specs.Five.{list_form, list_form_in}
use Rattle.rule_lists.specs.Nine.{all_urls, all_urls_in}
use Rattle.rule_tracks.specs.Six.{table_fine, table_in}
use Rattle.sample_tables.specs.Tables.{table_form}
use Rattle.sample_tables.specs.Sizes.{sizes_form}
use Rattle.rule_all.specs.All.{rules_to_nine, all_rules}

-- ---- containers in a container

-- by the six codes, and any other
module _ (P : ℕ → ℕ → Type 0) (a : P MOOV FILE) (b : P TRAK MOOV) (d : P MDIA TRAK) (e : P MINF MDIA) (f : P STBL MINF) (g : P DINF MINF) (h : (c : ℕ)
    → P c 0) where
  parent_any : (c : ℕ) → P c (parent c)
  unfolding parent if_eq
  parent_any c =
      eq_or c MOOV (λ q. rw q a) (λ n. eq_or c TRAK (λ q. rw q b) (λ m. eq_or c MDIA (λ q. rw q d)
      (λ i. eq_or c MINF (λ q. rw q e) (λ j. eq_or c STBL (λ q. rw q f) (λ k. eq_or c DINF (λ q. rw q g)
      (λ l. rw (ne_eqb c MOOV n, ne_eqb c TRAK m, ne_eqb c MDIA i, ne_eqb c MINF j, ne_eqb c STBL k, ne_eqb c DINF l) (h c)))))))

-- a claim on a container of kind i in one of kind k, where those of codes A and B are all that it may hold
abbrev Inner : (A B : ℕ) → (ℕ → Type 0) → ℕ → ℕ → Type 0
Inner A B T c i = (c ≡ A → T A) → (c ≡ B → T B) → (i ≡ 0 → ⊥) → T i

abbrev Other : (A B : ℕ) → (ℕ → Type 0) → ℕ → Type 0
Other A B T c = Inner A B T c 0

module _ (T : ℕ → Type 0) where
  other : (A B c : ℕ) → Other A B T c
  other A B c s t z = absurd (z refl)

  module _ (c : ℕ) where
    pub inside_file : Inner MOOV MOOV T c (kind_in FILE c)
    unfolding kind_in if_eq
    inside_file = parent_any (λ c p. Inner MOOV MOOV T c (if_eq p FILE c 0)) (λ s t z. s refl) (other _ _ _) (other _ _ _) (other _ _ _) (other _ _ _)
        (other _ _ _) (λ c. other _ _ c) c

    pub inside_moov : Inner TRAK TRAK T c (kind_in MOOV c)
    unfolding kind_in if_eq
    inside_moov = parent_any (λ c p. Inner TRAK TRAK T c (if_eq p MOOV c 0)) (other _ _ _) (λ s t z. s refl) (other _ _ _) (other _ _ _) (other _ _ _)
        (other _ _ _) (λ c. other _ _ c) c

    pub inside_trak : Inner MDIA MDIA T c (kind_in TRAK c)
    unfolding kind_in if_eq
    inside_trak = parent_any (λ c p. Inner MDIA MDIA T c (if_eq p TRAK c 0)) (other _ _ _) (other _ _ _) (λ s t z. s refl) (other _ _ _) (other _ _ _)
        (other _ _ _) (λ c. other _ _ c) c

    pub inside_mdia : Inner MINF MINF T c (kind_in MDIA c)
    unfolding kind_in if_eq
    inside_mdia = parent_any (λ c p. Inner MINF MINF T c (if_eq p MDIA c 0)) (other _ _ _) (other _ _ _) (other _ _ _) (λ s t z. s refl) (other _ _ _)
        (other _ _ _) (λ c. other _ _ c) c

    pub inside_minf : Inner DINF STBL T c (kind_in MINF c)
    unfolding kind_in if_eq
    inside_minf = parent_any (λ c p. Inner DINF STBL T c (if_eq p MINF c 0)) (other _ _ _) (other _ _ _) (other _ _ _) (other _ _ _) (λ s t z. t refl)
        (λ s t z. s refl) (λ c. other _ _ c) c

pub inside_stbl : (c : ℕ) → kind_in STBL c ≡ 0
unfolding kind_in if_eq
inside_stbl c = parent_any (λ c p. if_eq p STBL c 0 ≡ 0) refl refl refl refl refl refl (λ c. refl) c

pub inside_dinf : (c : ℕ) → kind_in DINF c ≡ 0
unfolding kind_in if_eq
inside_dinf c = parent_any (λ c p. if_eq p DINF c 0 ≡ 0) refl refl refl refl refl refl (λ c. refl) c

-- ---- opaque boxes

module _ (l : List Box) (c : ℕ) (b : List ℕ) where
  pub leaf_file : (c ≡ FTYP → form FILE FTYP b ≡ true) → (rules_to_nine l).leaf FILE c b ≡ true
  unfolding form if_box list_form_in table_in all_urls_in if_eq
  leaf_file f = eq_or c FTYP (λ e. rw (e, f e)) (λ n. rw (ne_eqb c FTYP n))

  pub leaf_moov : (c ≡ MVHD → form MOOV MVHD b ≡ true) → (rules_to_nine l).leaf MOOV c b ≡ true
  unfolding form if_box list_form_in table_in all_urls_in if_eq
  leaf_moov f = eq_or c MVHD (λ e. rw (e, f e)) (λ n. rw (ne_eqb c MVHD n))

  pub leaf_trak : (c ≡ TKHD → form TRAK TKHD b ≡ true) → (all_rules l).leaf TRAK c b ≡ true
  unfolding form if_box list_form_in table_in all_urls_in if_eq
  leaf_trak f = eq_or c TKHD (λ e. rw (e, f e)) (λ n. rw (ne_eqb c TKHD n))

  pub leaf_mdia : (c ≡ MDHD → form MDIA MDHD b ≡ true) → (c ≡ HDLR → form MDIA HDLR b ≡ true) → (all_rules l).leaf MDIA c b ≡ true
  unfolding form if_box list_form_in table_in all_urls_in if_eq
  leaf_mdia f g = eq_or c MDHD (λ e. rw (e, f e)) (λ n. eq_or c HDLR (λ e. rw (e, g e)) (λ m. rw (ne_eqb c MDHD n, ne_eqb c HDLR m)))

  pub leaf_minf : (all_rules l).leaf MINF c b ≡ true
  unfolding form if_box list_form_in table_in all_urls_in if_eq
  leaf_minf = refl

  pub leaf_dinf : (c ≡ DREF → (list_form b ≡ true) × (all_urls b ≡ true)) → (all_rules l).leaf DINF c b ≡ true
  unfolding form if_box list_form_in table_in all_urls_in if_eq
  leaf_dinf f = eq_or c DREF (λ e. rw (e, (f e).0, (f e).1)) (λ n. rw (ne_eqb c DREF n))

  pub leaf_stbl : (c ≡ STSD → list_form b ≡ true) → (c ≡ STTS → table_form 8 b ≡ true) → (c ≡ STSC → table_form 12 b ≡ true) → (c ≡ STSZ → sizes_form b ≡ true)
      → (c ≡ STCO → table_form 4 b ≡ true) → (all_rules l).leaf STBL c b ≡ true
  unfolding form if_box list_form_in table_in table_fine all_urls_in if_eq
  leaf_stbl f g h i j =
      eq_or c STSD (λ e. rw (e, f e)) (λ n. eq_or c STTS (λ e. rw (e, g e)) (λ m. eq_or c STSC (λ e. rw (e, h e))
      (λ k. eq_or c STSZ (λ e. rw (e, i e)) (λ l. eq_or c STCO (λ e. rw (e, j e))
      (λ o. rw (ne_eqb c STSD n, ne_eqb c STTS m, ne_eqb c STSC k, ne_eqb c STSZ l, ne_eqb c STCO o))))))
