-- Box by box: a list of which the n-th box that a code means has its body by f, and the list as it was. Assumes nothing.
use Prim.Native.Nat.{ℕ, ◌+◌, ◌≤◌, ◌<◌}
use native.Mathlib.Omega.{arith}
use mathlib.Core.Path.{◌≡◌, ap}
use mathlib.Core.List.{List}
use lib.ListN.{length}
use Rattle.wire.specs.Numbers.{Bytes}
use Rattle.boxes.specs.Box.{Box, write, remade}
use Rattle.boxes.specs.Seek.{meant, nth}
use Rattle.boxes.specs.Way.{nth_by}
use Rattle.boxes.specs.Kin.{All2}
use Rattle.boxes.specs.Kin.All2.{nil, cons}
use Rattle.boxes.proofs.Reading.{All, Shut, shut_here, shut_past, Filled, length_cons}
use Rattle.boxes.proofs.Reading.All.{some}
use Rattle.boxes.proofs.Reading.Shut.{next}
use Rattle.boxes.proofs.Every.{all_head, all_tail}
use Rattle.boxes.proofs.Meaning.{nth_hit, nth_next, nth_miss, by_hit, by_next, by_miss}
use Rattle.boxes.proofs.Numbered.{by_number}
use Rattle.boxes.proofs.Pairs.{all2_refl}

module _ (c : ℕ) (f : List ℕ → List ℕ) where
  -- what holds of every box, and of the one with another body
  pub nth_all : {P : Box → Type 0} → ((x : Box) → P x → P (remade x (f x.body))) → (n : ℕ) (l : List Box) → All P l → All P (nth_by c n f l)
  unfolding nth_by
  nth_all {P} h =
      by_number c (λ n l. All P l → All P (nth_by c n f l))
      (λ n a. a)
      (λ n x l e ih a. rw (by_miss c x l e f n) (some (all_head a) (ih (all_tail a))))
      (λ x l e a. rw (by_hit c x l e f) (some {x = remade x (f x.body)} (h x (all_head a)) (all_tail a)))
      (λ n x l e ih a. rw (by_next c x l e f n) (some (all_head a) (ih (all_tail a))))

  -- a form stays, and so an open box is the last
  pub nth_shut : {r : List ℕ} (n : ℕ) (l : List Box) → Shut r l → Shut r (nth_by c n f l)
  unfolding nth_by
  nth_shut {r} =
      by_number c (λ n l. Shut r l → Shut r (nth_by c n f l))
      (λ n a. a)
      (λ n x l e ih a. rw (by_miss c x l e f n) (next (λ o. (ap (nth_by c n f) (shut_here a o).0, (shut_here a o).1)) (ih (shut_past a))))
      (λ x l e a. rw (by_hit c x l e f) (next {x = remade x (f x.body)} {l = l} (shut_here a) (shut_past a)))
      (λ n x l e ih a. rw (by_next c x l e f n) (next (λ o. (ap (nth_by c n f) (shut_here a o).0, (shut_here a o).1)) (ih (shut_past a))))

  -- each is as it was, or it is the n-th, with its body by f
  pub nth_all2 : (R : Box → Box → Type 0) → ((x : Box) → R x x) → (n : ℕ) (l : List Box) → All Filled l → length (write (nth_by c n f l)) < 4294967296
      → ((x : Box) → meant c x.code ≡ 1 → x.body ≡ nth c n l → Bytes x.body → length (f x.body) < 4294967296 → R x (remade x (f x.body))) → All2 R l (nth_by c n f l)
  unfolding nth_by
  nth_all2 R z =
      by_number c (λ n l. All Filled l → length (write (nth_by c n f l)) < 4294967296
      → ((x : Box) → meant c x.code ≡ 1 → x.body ≡ nth c n l → Bytes x.body → length (f x.body) < 4294967296 → R x (remade x (f x.body))) → All2 R l (nth_by c n f l))
      (λ n a s k. nil)
      (λ n x l e ih a s k.
      let m = rw (by_miss c x l e f n) at s in
      rw (by_miss c x l e f n) (cons (z x) (ih (all_tail a) (omega (arith, length_cons x (nth_by c n f l))) (rw (nth_miss c x l e n) at k))))
      (λ x l e a s k.
      let m = rw (by_hit c x l e f) at s in
      rw (by_hit c x l e f) (cons (k x e (rw (nth_hit c x l e)) (all_head a) (omega (arith, length_cons (remade x (f x.body)) l))) (all2_refl z l)))
      (λ n x l e ih a s k.
      let m = rw (by_next c x l e f n) at s in
      rw (by_next c x l e f n) (cons (z x) (ih (all_tail a) (omega (arith, length_cons x (nth_by c n f l))) (rw (nth_next c x l e n) at k))))

  -- what grows by at most m in a body grows by at most m in all
  pub nth_by_length : (m : ℕ) → ((b : List ℕ) → length (f b) ≤ length b + m) → (n : ℕ) (l : List Box) → length (write (nth_by c n f l)) ≤ length (write l) + m
  unfolding nth_by
  nth_by_length m g =
      by_number c (λ n l. length (write (nth_by c n f l)) ≤ length (write l) + m)
      (λ n. omega arith)
      (λ n x l e ih. rw (by_miss c x l e f n) (omega (arith, length_cons x (nth_by c n f l), length_cons x l)))
      (λ x l e. rw (by_hit c x l e f) (omega (arith, length_cons (remade x (f x.body)) l, length_cons x l, g x.body)))
      (λ n x l e ih. rw (by_next c x l e f n) (omega (arith, length_cons x (nth_by c n f l), length_cons x l)))
