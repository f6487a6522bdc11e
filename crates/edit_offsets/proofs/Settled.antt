-- What code moves by is what is meant; where nothing moved, nothing is changed. Assumes nothing.
use Prim.Native.Nat.{ℕ}
use native.Mathlib.Omega.{arith}
use mathlib.Core.Path.{◌≡◌, refl}
use mathlib.Core.Bool.{Bool, true, false}
use mathlib.Core.List.{List, [], ◌∷◌}
use lib.Dec.{eqb}
use lib.ListN.{length, take, drop, take-append-drop}
use lib.Seq.{drop-drop}
use Rattle.wire.specs.Tests.{pick, if_eq}
use Rattle.wire.specs.Numbers.{Bytes, bytes, word}
use Rattle.codes.specs.Codes.{STBL, STCO}
use Rattle.wire.proofs.Numbers.{bytes_word, bytes_drop, bytes_take}
use Rattle.boxes.specs.Boxes.{boxes}
use Rattle.boxes.specs.Containers.{FILE, DEPTH, LONGEST}
use Rattle.boxes.specs.Rewrite.{edit_in}
use Rattle.boxes.specs.Words.{each_word, reword, reword_leaf}
use Rattle.boxes.specs.Kin.{All2, Leaf, Kin}
use Rattle.boxes.proofs.Reading.{All}
use Rattle.boxes.proofs.Editing.{edit_length, edit_same}
use Rattle.boxes.proofs.Wording.{leaf_length}
use Rattle.mdat.specs.Payloads.{in_at}
use Rattle.mdat.specs.Relocate.{relocate, Alike}
use Rattle.mdat.proofs.Staying.{relocate_alike}
use Rattle.judge.specs.Acceptance.{Holds, Meets}
use Rattle.edit_offsets.specs.Settle.{offsets, settled}
use Rattle.edit_offsets.proofs.Offsets.{agree, settle_agree}
use Rattle.edit_offsets.proofs.Agreement.{meets_agree, kin_agree, list_agree}

-- ---- lengths and bytes

pub settled_length : (xs zs : List ℕ) → length (settled xs zs) ≡ length zs
unfolding settled
settled_length xs zs = edit_length (reword_leaf offsets (relocate (boxes xs) (boxes zs))) (leaf_length offsets (relocate (boxes xs) (boxes zs))) DEPTH FILE zs

-- ---- f moves every place in a payload of xs as relocation to zs does

module _ (xs zs : List ℕ) (f : ℕ → ℕ) where
  pub settled_by : Holds (agree f (relocate (boxes xs) (boxes zs))) zs → edit_in (reword_leaf offsets f) DEPTH FILE zs ≡ settled xs zs
  unfolding settled
  settled_by h = settle_agree f (relocate (boxes xs) (boxes zs)) DEPTH FILE zs h

  module _ (m : Meets xs) (h : (o n : ℕ) → in_at (boxes xs) o n ≡ true → f o ≡ relocate (boxes xs) (boxes zs) o) where
    -- an edit of the boxes in their places, which lets `stco` be
    pub settled_kin : (G : Leaf) → ((b b' : List ℕ) → G STBL STCO b b' → b ≡ b') → Kin G DEPTH FILE xs zs → edit_in (reword_leaf offsets f) DEPTH FILE zs ≡ settled xs zs
    settled_kin G same a = settled_by (kin_agree f _ G same DEPTH FILE xs zs a (meets_agree f _ xs m h))

    -- the same boxes in another order, in whatever forms
    pub settled_list : ((P : ℕ → List ℕ → Type 0) → All (λ x. P x.code x.body) (boxes xs) → All (λ x. P x.code x.body) (boxes zs)) → edit_in (reword_leaf offsets f) DEPTH FILE zs ≡ settled xs zs
    settled_list k = settled_by (list_agree f _ 5 FILE xs zs k (meets_agree f _ xs m h))

-- ---- nothing moved

module _ (f : ℕ → ℕ) (stays : (o : ℕ) → f o ≡ o) where
  each_same : (xs : List ℕ) → Bytes xs → each_word f xs ≡ xs
  unfolding each_word
  each_same [] h = refl
  each_same (a ∷ []) h = refl
  each_same (a ∷ b ∷ []) h = refl
  each_same (a ∷ b ∷ c ∷ []) h = refl
  each_same (a ∷ b ∷ c ∷ d ∷ xs) h =
      let e : bytes 4 (word 4 (a ∷ b ∷ c ∷ d ∷ []) 0) ≡ a ∷ b ∷ c ∷ d ∷ [] = bytes_word 4 (a ∷ b ∷ c ∷ d ∷ []) 0 (bytes_take 4 (a ∷ b ∷ c ∷ d ∷ xs) h) (omega arith) in
      rw (stays (word 4 (a ∷ b ∷ c ∷ d ∷ []) 0), e, each_same xs (bytes_drop 4 (a ∷ b ∷ c ∷ d ∷ xs) h))

  reword_same : (from span : ℕ) (b : List ℕ) → Bytes b → reword f from span b ≡ b
  unfolding reword
  reword_same from span b h =
      rw (each_same (take span (drop from b)) (bytes_take span (drop from b) (bytes_drop from b h)), ← drop-drop span from b, take-append-drop span (drop from b)) (take-append-drop from b)

  leaf_same : (k c : ℕ) (b : List ℕ) → Bytes b → reword_leaf offsets f k c b ≡ b
  unfolding reword_leaf if_eq
  leaf_same k c b h = by (eqb k STBL) (eqb c STCO)
    where
      by : (s t : Bool) → pick s (pick t (reword f 8 LONGEST b) b) b ≡ b
      by true true = reword_same 8 LONGEST b h
      by true false = refl
      by false t = refl

-- a file of the same layout
pub settled_same : (xs zs : List ℕ) → All2 Alike (boxes xs) (boxes zs) → Bytes zs → settled xs zs ≡ zs
unfolding settled
settled_same xs zs a =
    edit_same (reword_leaf offsets (relocate (boxes xs) (boxes zs))) (leaf_same (relocate (boxes xs) (boxes zs)) (relocate_alike a)) DEPTH FILE zs
