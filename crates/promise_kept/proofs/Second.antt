-- `moov` right after the first box is an order that no rule sees. Assumes nothing.
use Prim.Native.Nat.{ℕ}
use native.Mathlib.Omega.{arith}
use mathlib.Core.Path.{◌≡◌, refl, sym, ◌∙◌}
use mathlib.Core.List.{List, [], ◌∷◌}
use Rattle.wire.specs.Tests.{if_eq}
use Rattle.wire.proofs.Tests.{eq_or}
use Rattle.codes.specs.Codes.{MOOV, MDAT}
use Rattle.boxes.specs.Box.{Box}
use Rattle.boxes.specs.Seek.{ANY, count, nth, find}
use Rattle.boxes.proofs.Meaning.{meant_no}
use Rattle.mdat.specs.Payloads.{mdats}
use Rattle.mdat.proofs.Payloads.{mdat_or, mdats_hit, mdats_miss}
use Rattle.rule_shape.specs.Three.{first}
use Rattle.edit_move.specs.Moving.{moov_second}
use Rattle.edit_move.proofs.Order.{second_length}
use Rattle.edit_move.proofs.Sifting.{seconded, each_second}
use Rattle.edit_move.proofs.Shutting.{shut_second}
use Rattle.edit_move.proofs.Mapping.{second_maps}
use Rattle.promise_kept.proofs.Arranges.{Arranges}

-- ---- what the rules read

second_counts : (c : ℕ) (l : List Box) → count c (moov_second l) ≡ count c l
unfolding count
second_counts c = seconded (count c) (λ y l m e. rw e) (λ x y l h n. omega arith)

-- a code means one of two boxes at most, where one is `moov` and the other isn't
second_found : (c : ℕ) → (c ≡ ANY → ⊥) → (l : List Box) → find c (moov_second l) ≡ find c l
unfolding nth if_eq
second_found c z =
    seconded (find c) (λ y l m e. rw e)
    (λ x y l h n.
    eq_or c MOOV (λ e. rw (← meant_no c y.code z (λ f. n (f ∙ e)))) (λ o. rw (← meant_no c x.code z (λ f. o (sym f ∙ h)))))

second_payloads : (l : List Box) → mdats (moov_second l) ≡ mdats l
second_payloads =
    seconded mdats
    (λ y l m e. mdat_or y (λ c. rw (mdats_hit y c l, mdats_hit y c m, e)) (λ c. rw (mdats_miss y c l, mdats_miss y c m, e)))
    (λ x y l h n.
    let nx : x.code ≡ MDAT → ⊥ = λ z. omega arith in
    mdat_or y
    (λ c. rw (mdats_miss x nx (y ∷ l), mdats_hit y c l, mdats_hit y c (x ∷ l), mdats_miss x nx l))
    (λ c. rw (mdats_miss x nx (y ∷ l), mdats_miss y c l, mdats_miss y c (x ∷ l), mdats_miss x nx l)))

second_first : (l : List Box) → first (moov_second l) ≡ first l
unfolding first moov_second
second_first [] = refl
second_first (x ∷ l) = refl

-- the order of a move
pub second : Arranges moov_second
second = record { each = each_second; shut = shut_second; span = second_length; payloads = second_payloads; counts = second_counts; first = second_first; found = second_found; maps = second_maps }
