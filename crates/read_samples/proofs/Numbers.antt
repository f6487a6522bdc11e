-- The numbers of samples, written in turn. Assumes nothing.
use Prim.Native.Nat.{ℕ, ◌+◌, ◌*◌, ◌≤◌, ◌<◌}
use native.Mathlib.Omega.{arith}
use native.Mathlib.Numerals.{add-one}
use mathlib.Core.Path.{◌≡◌, refl, ◌∙◌}
use mathlib.Core.List.{List, [], ◌∷◌, append_assoc}
use lib.ListN.{length, take, drop, set, length-set}
use lib.Seq.{sets-eq, drop-length}
use Rattle.wire.specs.Writing.{put, Wrote, Put, Rest}
use Rattle.wire.proofs.Writing.{pen_front}
use Rattle.wire.proofs.Resting.{rest_all, rest_more, rest_none}
use Rattle.sample_walk.specs.declared.walk.Sample.{Sample}
use Rattle.read_samples.specs.Reads.{places_of}

pub numbers_length : (l : List Sample) → length (places_of l) ≡ 2 * length l
unfolding places_of
numbers_length [] = refl
numbers_length (s ∷ l) = omega (arith, numbers_length l)

pub put_two : (s : Sample) (out : List ℕ) (at : ℕ) → at + 2 ≤ length out
    → Put (places_of (s ∷ [])) out at (at + 2) (set (set out at s.place) (at + 1) s.bytes)
unfolding places_of put
put_two s out at h =
    let two : List ℕ = s.place ∷ s.bytes ∷ [] in
    record {
      next = refl;
      same = rw (length-set, length-set);
      is = λ i. rw (add-one at) (sets-eq two out at h ∙ append_assoc (take at out) two (drop (at + 2) out));
    }

-- the numbers of the first n of the samples l stand at the front, and those of the others are left to write
pub record Putting (l : List Sample) (n : ℕ) (out₀ out : List ℕ) (at : ℕ) : Type 0 where
  pub rest : Rest (places_of l) (places_of (drop n l)) out₀ 0 out at
  pub twice : at ≡ 2 * n

pub putting_none : (l : List Sample) (out : List ℕ) → Putting l 0 out out 0
putting_none l out = record { rest = rest_all (places_of l) out 0; twice = refl }

module _ {l : List Sample} {n : ℕ} {out₀ out : List ℕ} {at : ℕ} (p : Putting l n out₀ out at) where
  -- room for one more
  pub putting_room : 2 * length l ≤ length out₀ → n < length l → at + 2 ≤ length out
  putting_room h i = omega (arith, p.twice, p.rest.same)

  pub putting_more : {s : Sample} {mid : List ℕ} → drop n l ≡ s ∷ drop (n + 1) l → Put (places_of (s ∷ [])) out at (at + 2) mid
      → Putting l (n + 1) out₀ mid (at + 2)
  unfolding places_of
  putting_more e q = record { rest = rest_more p.rest (rw e) q; twice = omega (arith, p.twice) }

  pub putting_all : length l ≡ n → 2 * length l ≤ length out₀ → Wrote (places_of l) out₀ at out
  unfolding places_of
  putting_all e h =
      let z : drop n l ≡ [] = rw (← e) (drop-length l) in
      pen_front (rest_none p.rest (rw z)) (omega (arith, p.twice))
