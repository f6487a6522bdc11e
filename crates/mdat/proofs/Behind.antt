-- Payloads behind the first box. Assumes nothing.
use Prim.Native.Nat.{ℕ, zero, suc, ◌+◌, ◌<◌}
use native.Mathlib.Omega.{arith}
use mathlib.Core.Path.{◌≡◌, refl, sym, ap}
use mathlib.Core.List.{List, [], ◌∷◌}
use lib.ListN.{length, get_or}
use Rattle.codes.specs.Codes.{MDAT}
use Rattle.wire.proofs.Tests.{eq_yea, eq_nay}
use Rattle.boxes.specs.Box.{Box, size}
use Rattle.mdat.specs.Payloads.{mdats, Spot, nowhere, spot, past, place_of}
use Rattle.mdat.proofs.Payloads.{mdat_or, mdats_hit, mdats_miss, past_nowhere}

-- payload j of any boxes behind x is payload k from x on
pub record Behind (x : Box) (j k : ℕ) : Type 0 where
  pub spots : (i : ℕ) → past x (spot j i) ≡ spot k i
  pub place : (l : List Box) (i : ℕ) → place_of (x ∷ l) k i ≡ size x + place_of l j i
  pub body : (l : List Box) → get_or (mdats (x ∷ l)) k [] ≡ get_or (mdats l) j []
  pub which : (l : List Box) → j < length (mdats l) → k < length (mdats (x ∷ l))
  pub back : (l : List Box) → k < length (mdats (x ∷ l)) → j < length (mdats l)

pub behind_hit : (x : Box) → x.code ≡ MDAT → (j : ℕ) → Behind x j (suc j)
unfolding past place_of
behind_hit x e j =
    record {
      spots = λ i. sym (eq_yea _ _ _ _ _ e refl);
      place = λ l i. sym (eq_yea _ _ _ _ _ e refl);
      body = λ l. rw (mdats_hit x e l);
      which = λ l h. rw (mdats_hit x e l) (omega arith);
      back = λ l h. let z : suc j < suc (length (mdats l)) = rw (mdats_hit x e l) at h in omega arith;
    }

pub behind_miss : (x : Box) → (x.code ≡ MDAT → ⊥) → (j : ℕ) → Behind x j j
unfolding past place_of
behind_miss x e j =
    record {
      spots = λ i. sym (eq_nay _ _ _ _ _ e refl);
      place = λ l i. sym (eq_nay _ _ _ _ _ e refl);
      body = λ l. rw (mdats_miss x e l);
      which = λ l h. rw (mdats_miss x e l) h;
      back = λ l h. rw (mdats_miss x e l) at h;
    }

-- ---- cases, each with a goal A

-- where payload j of the boxes behind x comes to be
pub behind_some : {A : Type 0} (x : Box) (j : ℕ) → ((k : ℕ) → Behind x j k → A) → A
behind_some x j f = mdat_or x (λ e. f (suc j) (behind_hit x e j)) (λ e. f j (behind_miss x e j))

-- payload k is that of the first box, or one behind it
pub front_or : {A : Type 0} (x : Box) (l : List Box) (k : ℕ) → k < length (mdats (x ∷ l)) → (x.code ≡ MDAT → 0 ≡ k → A) → ((j : ℕ) → Behind x j k → j < length (mdats l) → A) → A
front_or {A} x l k h f g = mdat_or x (λ e. hit e k h f g) (λ e. let b = behind_miss x e k in g k b (b.back l h))
  where
    hit : x.code ≡ MDAT → (k : ℕ) → k < length (mdats (x ∷ l)) → (x.code ≡ MDAT → 0 ≡ k → A) → ((j : ℕ) → Behind x j k → j < length (mdats l) → A) → A
    hit e zero h f g = f e refl
    hit e (suc k) h f g = let b = behind_hit x e k in g k b (b.back l h)

-- a spot behind the first box
pub past_or : {A : Type 0} (x : Box) (s : Spot) (k i : ℕ) → past x s ≡ spot k i → ((j : ℕ) → s ≡ spot j i → Behind x j k → A) → A
past_or x nowhere k i e f = let y = past_nowhere x in let z : ◌≡◌ {A = ℕ} 0 1 = cc in absurd (omega arith)
past_or x (spot j h) k i e f =
    behind_some x j (λ n b.
    let s = b.spots h in
    let p : n ≡ k = cc in
    let q : h ≡ i = cc in
    f j (ap (spot j) q) (rw p at b))
