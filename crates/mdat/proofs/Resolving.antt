-- What `resolve` finds is where `place_of` puts it. Assumes nothing.
use Prim.Native.Nat.{ℕ, ◌-◌, ◌≤◌, ◌<◌}
use native.Mathlib.Omega.{arith}
use mathlib.Core.Path.{◌≡◌, sym, ◌∙◌}
use mathlib.Core.List.{List, [], ◌∷◌}
use lib.ListN.{length, get_or}
use Rattle.codes.specs.Codes.{MDAT}
use Rattle.wire.proofs.Tests.{lt_or}
use Rattle.boxes.specs.Box.{Box, head, size}
use Rattle.mdat.specs.Payloads.{mdats, spot, in_box, resolve, place_of}
use Rattle.mdat.proofs.Payloads.{mdat_or, resolve_here, resolve_past, mdats_hit, place_hit, within_hit, within_low, within_miss}
use Rattle.mdat.proofs.Behind.{Behind, past_or}

-- place o is i bytes into payload j
pub record Found (l : List Box) (o j i : ℕ) : Type 0 where
  pub which : j < length (mdats l)
  pub into : i ≤ length (get_or (mdats l) j [])
  pub is : o ≡ place_of l j i

module _ (x : Box) (l : List Box) (o j i : ℕ) where
  found_hit : o ≤ size x → in_box x o ≡ spot j i → x.code ≡ MDAT → head x ≤ o → Found (x ∷ l) o j i
  found_hit h e c k =
      let y = within_hit x c o k in
      let a : 0 ≡ j = cc in
      let b : o - head x ≡ i = cc in
      let m = mdats_hit x c l in
      rw (← a) (record { which = rw m (omega arith); into = rw m (omega arith); is = rw (place_hit x c l i) (omega arith) })

  found_here : o ≤ size x → in_box x o ≡ spot j i → Found (x ∷ l) o j i
  found_here h e =
      mdat_or x
      (λ c. lt_or o (head x) (λ k. let y = within_low x c o k in let z : ◌≡◌ {A = ℕ} 0 1 = cc in absurd (omega arith)) (λ k. found_hit h e c k))
      (λ c. let y = within_miss x c o in let z : ◌≡◌ {A = ℕ} 0 1 = cc in absurd (omega arith))

  found_behind : size x < o → (h : ℕ) → Behind x h j → Found l (o - size x) h i → Found (x ∷ l) o j i
  found_behind k h b t = record { which = b.which l t.which; into = rw (b.body l) t.into; is = rw (b.place l i) (omega (arith, t.is)) }

pub resolved : (l : List Box) (o j i : ℕ) → resolve l o ≡ spot j i → Found l o j i
unfolding resolve
resolved [] o j i e = let z : ◌≡◌ {A = ℕ} 0 1 = cc in absurd (omega arith)
resolved (x ∷ l) o j i e =
    lt_or (size x) o
    (λ k. past_or x (resolve l (o - size x)) j i (sym (resolve_past x l o k) ∙ e) (λ h q b. found_behind x l o j i k h b (resolved l (o - size x) h i q)))
    (λ k. found_here x l o j i k (sym (resolve_here x l o k) ∙ e))
