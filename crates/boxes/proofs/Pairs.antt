-- Two lists, box by box. Assumes nothing.
use Prim.Native.Nat.{ℕ, zero, suc, ◌<◌}
use native.Mathlib.Omega.{arith}
use mathlib.Core.Path.{◌≡◌, refl}
use mathlib.Core.List.{List, [], ◌∷◌, map}
use lib.ListN.{length}
use Rattle.wire.specs.Numbers.{Bytes}
use Rattle.boxes.specs.Box.{Box, write}
use Rattle.boxes.specs.Seek.{meant, count, nth}
use Rattle.boxes.specs.Rewrite.{Bodies, over}
use Rattle.boxes.specs.Kin.{All2}
use Rattle.boxes.specs.Kin.All2.{nil, cons}
use Rattle.boxes.proofs.Reading.{All, Filled, length_cons}
use Rattle.boxes.proofs.Reading.All.{none, some}
use Rattle.boxes.proofs.Meaning.{meant_or, nth_hit, nth_next, nth_miss}

pub all2_refl : {R : Box → Box → Type 0} → ((x : Box) → R x x) → (l : List Box) → All2 R l l
all2_refl h [] = nil
all2_refl h (x ∷ l) = cons (h x) (all2_refl h l)

pub all2_map : {R : Box → Box → Type 0} (f : Box → Box) → ((x : Box) → R x (f x)) → (l : List Box) → All2 R l (map f l)
all2_map f h [] = nil
all2_map f h (x ∷ l) = cons (h x) (all2_map f h l)

pub all2_less : {R S : Box → Box → Type 0} → ((x y : Box) → R x y → S x y) → {l m : List Box} → All2 R l m → All2 S l m
all2_less h nil = nil
all2_less h (cons {x} {y} r a) = cons (h x y r) (all2_less h a)

pub all2_then : {R S T : Box → Box → Type 0} → ((x y z : Box) → R x y → S y z → T x z) → {l m n : List Box} → All2 R l m → All2 S m n → All2 T l n
all2_then h nil nil = nil
all2_then h (cons {x} {y} r a) (cons {y = z} s b) = cons (h x y z r s) (all2_then h a b)

pub all2_codes : {R : Box → Box → Type 0} → ((x y : Box) → R x y → x.code ≡ y.code) → {l m : List Box} → All2 R l m → map (λ x. x.code) l ≡ map (λ x. x.code) m
all2_codes h nil = refl
all2_codes h (cons {x} {y} r a) = rw (h x y r, all2_codes h a)

pub all2_count : {R : Box → Box → Type 0} → ((x y : Box) → R x y → x.code ≡ y.code) → (c : ℕ) {l m : List Box} → All2 R l m → count c l ≡ count c m
unfolding count
all2_count h c nil = refl
all2_count h c (cons {x} {y} r a) = rw (h x y r, all2_count h c a)

-- what relates nothing to nothing, and the bodies of related boxes that c means, relates what is found
module _ {R : Box → Box → Type 0} (c : ℕ) (P : List ℕ → List ℕ → Type 0) (codes : (x y : Box) → R x y → x.code ≡ y.code) (empty : P [] []) (hits : (x y : Box) → R x y → meant c x.code ≡ 1 → P x.body y.body) where
  pub all2_nth : (n : ℕ) {l m : List Box} → All2 R l m → P (nth c n l) (nth c n m)
  unfolding nth
  all2_nth n nil = empty
  all2_nth n (cons {x} {y} {l} {m} r a) =
      let q = codes x y r in
      meant_or c x.code (λ e. hit e (rw q at e) n (λ i. all2_nth i a)) (λ e. rw (nth_miss c x l e n, nth_miss c y m (rw q at e) n) (all2_nth n a))
    where
      hit : meant c x.code ≡ 1 → meant c y.code ≡ 1 → (n : ℕ) → ((i : ℕ) → P (nth c i l) (nth c i m)) → P (nth c n (x ∷ l)) (nth c n (y ∷ m))
      hit e f zero ih = rw (nth_hit c x l e, nth_hit c y m f) (hits x y r e)
      hit e f (suc n) ih = rw (nth_next c x l e n, nth_next c y m f n) (ih n)

-- a list, and its bodies by f
pub all2_over : (f : Bodies) (R : Box → Box → Type 0) → ((x : Box) → Bytes x.body → length (f x.code x.body) < 4294967296 → R x (over f x))
    → {l : List Box} → All Filled l → length (write (map (over f) l)) < 4294967296 → All2 R l (map (over f) l)
all2_over f R h none s = nil
all2_over f R h (some {x} {l} w a) s =
    let n = length_cons (over f x) (map (over f) l) in
    cons (h x w (omega arith)) (all2_over f R h a (omega arith))
