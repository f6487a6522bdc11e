-- The containers in a container, by any rule: those of each kind, and the codes that they have. Assumes nothing.
use Prim.Native.Nat.{ℕ, suc, ◌<◌}
use native.Mathlib.Omega.{arith}
use mathlib.Core.Path.{◌≡◌, subst}
use mathlib.Core.Bool.{true}
use mathlib.Core.List.{List, [], ◌∷◌}
use Rattle.codes.specs.Codes.{MOOV, TRAK, MDIA, MINF, DINF, STBL}
use Rattle.boxes.specs.Box.{Box}
use Rattle.boxes.specs.Boxes.{boxes}
use Rattle.boxes.specs.Containers.{FILE, kind_in}
use Rattle.boxes.specs.Seek.{count, find, nth}
use Rattle.boxes.proofs.Reading.{All}
use Rattle.boxes.proofs.Reading.All.{none, some}
use Rattle.boxes.proofs.Every.{all_map, all_with, found_each}
use Rattle.boxes.proofs.Meaning.{meant_or, meant_yes, count_hit, count_miss, nth_hit, nth_next, nth_miss}
use Rattle.layout.specs.Track.{Has}
use Rattle.rule.specs.Rule.{Rule, all_in}
use Rattle.rule_shape.proofs.Needs.{needs, needs_code, shape_one}
use Rattle.rule_all.proofs.Held.{inside_file, inside_moov, inside_trak, inside_mdia, inside_minf, inside_stbl, inside_dinf}

pub all_any : {P : Box → Type 0} → ((x : Box) → P x) → (l : List Box) → All P l
all_any f [] = none
all_any f (x ∷ l) = some (f x) (all_any f l)

-- the boxes of a code that stands once
module _ {k : ℕ} {xs : List ℕ} (h : Has k xs) where
  pub sole_each : (c : ℕ) → needs k c ≡ true → (P : List ℕ → Type 0) → P (find c (boxes xs)) → All (λ x. x.code ≡ c → P x.body) (boxes xs)
  sole_each c n P p = found_each c (needs_code k c n) P (boxes xs) (λ q. p) (omega (arith, shape_one (boxes xs) k c h.three n))

-- the tracks by number: what holds of each number holds of each box of the code
each_number : (P : List ℕ → Type 0) (l : List Box) → ((i : ℕ) → i < count TRAK l → P (nth TRAK i l)) → All (λ x. x.code ≡ TRAK → P x.body) l
each_number P [] h = none
each_number P (x ∷ l) h =
    meant_or TRAK x.code
    (λ e. some (λ q. subst P (nth_hit TRAK x l e) (h 0 (omega (arith, count_hit TRAK x l e))))
    (each_number P l (λ i k. subst P (nth_next TRAK x l e i) (h (suc i) (omega (arith, count_hit TRAK x l e))))))
    (λ e. some (λ q. absurd (omega (arith, meant_yes TRAK x.code (λ z. omega arith) q)))
    (each_number P l (λ i k. subst P (nth_miss TRAK x l e i) (h i (omega (arith, count_miss TRAK x l e))))))

-- ---- kind by kind

-- the rule holds of each container in one of kind k, d deep
abbrev pub Within : Rule → ℕ → ℕ → List ℕ → Type 0
Within r d k xs = All (λ x. (kind_in k x.code ≡ 0 → ⊥) → all_in r d (kind_in k x.code) x.body ≡ true) (boxes xs)

-- and of each box of code k, as one of kind k
abbrev pub Each : Rule → ℕ → ℕ → List ℕ → Type 0
Each r d k xs = All (λ x. x.code ≡ k → all_in r d k x.body ≡ true) (boxes xs)

module _ (r : Rule) (d : ℕ) (xs : List ℕ) where
  pub in_dinf : Within r d DINF xs
  in_dinf = all_any (λ x z. absurd (z (inside_dinf x.code))) (boxes xs)

  pub in_stbl : Within r d STBL xs
  in_stbl = all_any (λ x z. absurd (z (inside_stbl x.code))) (boxes xs)

  pub in_minf : Each r d DINF xs → Each r d STBL xs → Within r d MINF xs
  in_minf = all_with (λ x p q z. inside_minf (λ i. all_in r d i x.body ≡ true) x.code p q z)

  pub in_mdia : Each r d MINF xs → Within r d MDIA xs
  in_mdia = all_map (λ x p z. inside_mdia (λ i. all_in r d i x.body ≡ true) x.code p p z)

  pub in_trak : Each r d MDIA xs → Within r d TRAK xs
  in_trak = all_map (λ x p z. inside_trak (λ i. all_in r d i x.body ≡ true) x.code p p z)

  pub in_moov : Each r d TRAK xs → Within r d MOOV xs
  in_moov = all_map (λ x p z. inside_moov (λ i. all_in r d i x.body ≡ true) x.code p p z)

  pub in_file : Each r d MOOV xs → Within r d FILE xs
  in_file = all_map (λ x p z. inside_file (λ i. all_in r d i x.body ≡ true) x.code p p z)

  -- of a code that stands once, and of the tracks by number
  pub once : {i : ℕ} → Has i xs → (k : ℕ) → needs i k ≡ true → all_in r d k (find k (boxes xs)) ≡ true → Each r d k xs
  once h k n = sole_each h k n (λ b. all_in r d k b ≡ true)

  pub numbered : ((i : ℕ) → i < count TRAK (boxes xs) → all_in r d TRAK (nth TRAK i (boxes xs)) ≡ true) → Each r d TRAK xs
  numbered = each_number (λ b. all_in r d TRAK b ≡ true) (boxes xs)
