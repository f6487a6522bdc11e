-- The loop that reads a part's good frames: after n of them it stands at a place inside. Assumes nothing.
use Prim.Native.Nat.{ℕ, suc, ◌+◌, ◌-◌, ◌/◌, ◌%◌, ◌≤◌, ◌<◌}
use native.Mathlib.Omega.{arith}
use mathlib.Core.Path.{◌≡◌, sym}
use mathlib.Core.Bool.{true}
use mathlib.Core.List.{List, ◌∷◌}
use lib.ListN.{length, get_or, take, drop, set, length-drop}
use lib.Seq.{get_or-take, get_or-drop, drop-drop, length-take-le}
use Rattle.std.specs.declared.option.Option.{Option}
use Rattle.std.specs.declared.option.Option.TheVariants.{Some, None}
use Rattle.wire.specs.Tests.{pick}
use Rattle.frames.specs.declared.codec.Codec.{Codec}
use Rattle.frames.specs.Frames.{type_of, frame_size, good, frames_to}
use Rattle.frames.specs.Modes.{flagged, RunOf}
use Rattle.frames.proofs.Fronts.{size_least, size_inside}
use Rattle.frames.proofs.Answers.{front_was, front_was_none}
use Rattle.frames.proofs.Runs.{to_stop, to_next}
use Rattle.frames.proofs.Passing.{blank, Passed, passed_none, passed_more, passed_all}

pub record Reading (k : Codec) (xs : List ℕ) (most : ℕ) (flags : List ℕ) (n at : ℕ) : Type 0 where
  pub passed : Passed (frames_to most k xs) (frames_to (most - n) k (drop at xs)) flags n at
  pub fewer : n ≤ most
  pub inside : at ≤ length xs

pub reading_none : (k : Codec) (xs : List ℕ) (most : ℕ) → Reading k xs most blank 0 0
reading_none k xs most =
    let e : most - 0 ≡ most = omega arith in
    record { passed = rw e (passed_none (frames_to most k xs)); fewer = omega arith; inside = omega arith }

-- ---- one frame more

module _ (k : Codec) (xs : List ℕ) (at size : ℕ) (g : good k (drop at xs) ≡ true) (s : size ≡ frame_size k (drop at xs)) where
  left_next : (n most : ℕ) → n < most
      → frames_to (most - n) k (drop at xs) ≡ take size (drop at xs) ∷ frames_to (most - (n + 1)) k (drop (at + size) xs)
  left_next n most h =
      let e : most - n ≡ suc (most - (n + 1)) = omega arith in
      rw (e, s, ← drop-drop (frame_size k (drop at xs)) at xs) (to_next (most - (n + 1)) k (drop at xs) g)

  pub type_next : (h : ℕ) → h ≡ get_or xs at 0 → h / 8 % 16 ≡ type_of (take size (drop at xs))
  unfolding type_of
  type_next h e =
      let z : at + 0 ≡ at = omega arith in
      rw (get_or-take size (drop at xs) 0 0 (omega (arith, size_least k (drop at xs))), get_or-drop at xs 0 0, z, e)

  pub next_inside : at ≤ length xs → at + size ≤ length xs
  next_inside h = omega (arith, size_inside k (drop at xs) g, length-drop at xs)

  length_next : size ≡ length (take size (drop at xs))
  length_next = sym (length-take-le size (drop at xs) (omega (arith, size_inside k (drop at xs) g)))

pub reading_more : {k : Codec} {xs flags : List ℕ} {most n at : ℕ} (ys : List ℕ) (o : Option ℕ) (size h : ℕ) → Reading k xs most flags n at → ys ≡ drop at xs
    → o ≡ pick (good k ys) (Some (frame_size k ys)) None → h ≡ get_or xs at 0 → n < most → o ≡ Some size
    → Reading k xs most (set flags (h / 8 % 16) 1) (n + 1) (at + size)
reading_more {k} {xs} {flags} {most} {n} {at} ys o size h r y f e l z =
    let w = front_was (good k (drop at xs)) (frame_size k (drop at xs)) o (rw y at f) z in
    let p = rw (left_next k xs at size w.0 w.1 n most l) at r.passed in
    record {
      passed = passed_more (h / 8 % 16) size p (type_next k xs at size w.0 w.1 h e) (length_next k xs at size w.0 w.1);
      fewer = omega arith;
      inside = next_inside k xs at size w.0 w.1 r.inside;
    }

-- ---- no more

module _ {k : Codec} {xs flags : List ℕ} {most n at : ℕ} (modes : ℕ) (r : Reading k xs most flags n at) (m : modes ≡ flagged flags) where
  pub reading_stop : (ys : List ℕ) (o : Option ℕ) → ys ≡ drop at xs → o ≡ pick (good k ys) (Some (frame_size k ys)) None → o ≡ None
      → RunOf (frames_to most k xs) (record { count = n; bytes = at; modes = modes })
  reading_stop ys o y f z =
      let g = front_was_none (good k (drop at xs)) (frame_size k (drop at xs)) o (rw y at f) z in
      passed_all modes (rw (to_stop (most - n) k (drop at xs) g) at r.passed) m

  pub reading_full : most ≤ n → RunOf (frames_to most k xs) (record { count = most; bytes = at; modes = modes })
  unfolding frames_to
  reading_full h = let e : n ≡ most = omega (arith, r.fewer) in let z : most - most ≡ 0 = omega arith in passed_all modes (rw (e, z) at r.passed) m
