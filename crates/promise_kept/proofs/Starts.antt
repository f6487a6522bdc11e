-- Payload j of a list of boxes is that of its `mdat` j, and a place in it is counted from that one's start. Assumes nothing.
use Prim.Native.Nat.{ℕ, ◌+◌, ◌<◌}
use native.Mathlib.Omega.{arith}
use mathlib.Core.Path.{◌≡◌, sym, ap, ◌∙◌}
use mathlib.Core.List.{List, []}
use lib.ListN.{length, get_or}
use Rattle.codes.specs.Codes.{MDAT}
use Rattle.boxes.specs.Box.{Box, head}
use Rattle.boxes.specs.Seek.{meant, count, nth, start_in}
use Rattle.boxes.proofs.Meaning.{meant_yes, meant_is, count_hit, count_miss, nth_hit, nth_next, nth_miss, place_hit, place_next, place_miss}
use Rattle.boxes.proofs.Numbered.{by_number}
use Rattle.mdat.specs.Payloads.{mdats, place_of}
use Rattle.mdat.proofs.Payloads.{mdats_hit, place_hit as payload_hit}
use Rattle.mdat.proofs.Behind.{behind_hit, behind_miss}

pub record Payload (j : ℕ) (l : List Box) : Type 0 where
  pub which : j < count MDAT l
  pub body : nth MDAT j l ≡ get_or (mdats l) j []
  pub place : (i : ℕ) → place_of l j i ≡ start_in MDAT j l + i

is_mdat : (x : Box) → meant MDAT x.code ≡ 1 → x.code ≡ MDAT
is_mdat x e = meant_is MDAT x.code (λ z. omega arith) e

no_mdat : (x : Box) → meant MDAT x.code ≡ 0 → x.code ≡ MDAT → ⊥
no_mdat x e c = omega (arith, meant_yes MDAT x.code (λ z. omega arith) c)

pub payload_of : (j : ℕ) (l : List Box) → j < length (mdats l) → Payload j l
unfolding mdats start_in
payload_of =
    by_number MDAT (λ j l. j < length (mdats l) → Payload j l)
    (λ j k. absurd (omega arith))
    (λ j x l e ih k.
    let b = behind_miss x (no_mdat x e) j in
    let p = ih (b.back l k) in
    record {
      which = rw (count_miss MDAT x l e) p.which;
      body = nth_miss MDAT x l e j ∙ p.body ∙ sym (b.body l);
      place = λ i. b.place l i ∙ rw (place_miss MDAT x l e head j) (omega (arith, p.place i));
    })
    (λ x l e k.
    record {
      which = rw (count_hit MDAT x l e) (omega arith);
      body = nth_hit MDAT x l e ∙ sym (ap (λ (ms : List (List ℕ)). get_or ms 0 []) (mdats_hit x (is_mdat x e) l));
      place = λ i. payload_hit x (is_mdat x e) l i ∙ rw (place_hit MDAT x l e head);
    })
    (λ j x l e ih k.
    let b = behind_hit x (is_mdat x e) j in
    let p = ih (b.back l k) in
    record {
      which = rw (count_hit MDAT x l e) (omega (arith, p.which));
      body = nth_next MDAT x l e j ∙ p.body ∙ sym (b.body l);
      place = λ i. b.place l i ∙ rw (place_next MDAT x l e head j) (omega (arith, p.place i));
    })
