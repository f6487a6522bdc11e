-- Laws of payloads, one box at a time. Assumes nothing.
use Prim.Native.Nat.{ℕ, ◌+◌, ◌-◌, ◌≤◌, ◌<◌}
use mathlib.Core.Path.{◌≡◌, refl, sym}
use mathlib.Core.List.{List, ◌∷◌}
use Rattle.codes.specs.Codes.{MDAT}
use Rattle.wire.proofs.Tests.{eq_yea, eq_nay, lt_yea, lt_nay, eq_or}
use Rattle.boxes.specs.Box.{Box, head, size}
use Rattle.mdat.specs.Payloads.{mdats, nowhere, spot, in_box, past, resolve, place_of}

pub mdat_or : {A : Type 0} (x : Box) → (x.code ≡ MDAT → A) → ((x.code ≡ MDAT → ⊥) → A) → A
mdat_or x = eq_or x.code MDAT

-- ---- a place in the first box, or past it

module _ (x : Box) (l : List Box) (o : ℕ) where
  pub resolve_here : o ≤ size x → resolve (x ∷ l) o ≡ in_box x o
  unfolding resolve
  resolve_here h = sym (lt_nay _ _ _ _ _ h refl)

  pub resolve_past : size x < o → resolve (x ∷ l) o ≡ past x (resolve l (o - size x))
  unfolding resolve
  resolve_past h = sym (lt_yea _ _ _ _ _ h refl)

-- ---- the first box is an `mdat`

module _ (x : Box) (e : x.code ≡ MDAT) where
  pub mdats_hit : (l : List Box) → mdats (x ∷ l) ≡ x.body ∷ mdats l
  unfolding mdats
  mdats_hit l = sym (eq_yea _ _ _ _ _ e refl)

  pub place_hit : (l : List Box) (i : ℕ) → place_of (x ∷ l) 0 i ≡ head x + i
  unfolding place_of
  place_hit l i = sym (eq_yea _ _ _ _ _ e refl)

  pub within_hit : (o : ℕ) → head x ≤ o → in_box x o ≡ spot 0 (o - head x)
  unfolding in_box
  within_hit o h = sym (eq_yea _ _ _ _ _ e (lt_nay _ _ _ _ _ h refl))

  pub within_low : (o : ℕ) → o < head x → in_box x o ≡ nowhere
  unfolding in_box
  within_low o h = sym (eq_yea _ _ _ _ _ e (lt_yea _ _ _ _ _ h refl))

-- ---- it is none

module _ (x : Box) (e : x.code ≡ MDAT → ⊥) where
  pub mdats_miss : (l : List Box) → mdats (x ∷ l) ≡ mdats l
  unfolding mdats
  mdats_miss l = sym (eq_nay _ _ _ _ _ e refl)

  pub within_miss : (o : ℕ) → in_box x o ≡ nowhere
  unfolding in_box
  within_miss o = sym (eq_nay _ _ _ _ _ e refl)

pub past_nowhere : (x : Box) → past x nowhere ≡ nowhere
unfolding past
past_nowhere x = mdat_or x (λ e. sym (eq_yea _ _ _ _ _ e refl)) (λ e. sym (eq_nay _ _ _ _ _ e refl))
