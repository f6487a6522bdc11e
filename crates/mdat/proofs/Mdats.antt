-- Payloads of lists of boxes that were put together, or are related box by box. Assumes nothing.
use Prim.Native.Nat.{ℕ, suc}
use mathlib.Core.Path.{◌≡◌, refl, sym, ◌∙◌}
use mathlib.Core.List.{List, [], ◌∷◌, ◌++◌}
use Rattle.wire.specs.Tests.{if_eq}
use Rattle.codes.specs.Codes.{MDAT}
use Rattle.boxes.specs.Box.{Box}
use Rattle.boxes.specs.Boxes.{boxes}
use Rattle.boxes.specs.Containers.{FILE, parent, kind_in}
use Rattle.boxes.specs.Kin.{All2, Leaf, Kin}
use Rattle.boxes.specs.Kin.All2.{nil, cons}
use Rattle.mdat.specs.Payloads.{mdats}
use Rattle.mdat.proofs.Payloads.{mdat_or, mdats_hit, mdats_miss}

pub mdats_append : (l m : List Box) → mdats (l ++ m) ≡ mdats l ++ mdats m
unfolding mdats
mdats_append [] m = refl
mdats_append (x ∷ l) m =
    mdat_or x
    (λ c. rw (mdats_hit x c (l ++ m), mdats_hit x c l, mdats_append l m))
    (λ c. rw (mdats_miss x c (l ++ m), mdats_miss x c l, mdats_append l m))

-- box by box the same code, and the same body of an `mdat`
pub mdats_kept : {R : Box → Box → Type 0} → ((x y : Box) → R x y → x.code ≡ y.code) → ((x y : Box) → R x y → x.code ≡ MDAT → x.body ≡ y.body)
    → {l m : List Box} → All2 R l m → mdats l ≡ mdats m
mdats_kept e h nil = refl
mdats_kept e h (cons {x} {y} {l} {m} r a) =
    mdat_or x
    (λ c. rw (mdats_hit x c l, mdats_hit y (sym (e x y r) ∙ c) m, h x y r c, mdats_kept e h a))
    (λ c. rw (mdats_miss x c l, mdats_miss y (λ d. c (e x y r ∙ d)) m, mdats_kept e h a))

pub kin_mdats : (G : Leaf) (d : ℕ) (xs ys : List ℕ) → ((b c : List ℕ) → G FILE MDAT b c → b ≡ c) → Kin G (suc d) FILE xs ys → mdats (boxes xs) ≡ mdats (boxes ys)
unfolding kind_in parent if_eq
kin_mdats G d xs ys h (a, e) = mdats_kept (λ x y r. r.code) (λ x y r q. h x.body y.body (rw q at (r.leaf (rw q refl)))) a
