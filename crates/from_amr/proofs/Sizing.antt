-- The loop that writes the sizes of a part's good frames: what is written once the rest of them is written. Assumes nothing.
use Prim.Native.Nat.{ℕ, ◌+◌, ◌*◌, ◌≤◌}
use native.Mathlib.Omega.{arith}
use mathlib.Core.Path.{◌≡◌, refl, sym, ap, ◌∙◌}
use mathlib.Core.Bool.{true}
use mathlib.Core.List.{List, [], ◌++◌}
use lib.ListN.{length, drop, length-drop}
use lib.Seq.{drop-drop, length-take-le}
use Rattle.std.specs.declared.option.Option.{Option}
use Rattle.std.specs.declared.option.Option.TheVariants.{Some, None}
use Rattle.wire.specs.Tests.{pick}
use Rattle.wire.specs.Numbers.{bytes}
use Rattle.wire.specs.Writing.{Put}
use Rattle.wire.proofs.Writing.{pen_none, pen_then, pen_is}
use Rattle.frames.specs.declared.codec.Codec.{Codec}
use Rattle.frames.specs.Frames.{frame_size, good, frames}
use Rattle.frames.proofs.Fronts.{size_inside}
use Rattle.frames.proofs.Answers.{front_was, front_was_none}
use Rattle.frames.proofs.Runs.{frames_stop, frames_next}
use Rattle.from_amr.specs.Boxes.{sizes_of}

-- those up to place i are written up to place to
pub record Sizing (k : Codec) (xs out : List ℕ) (at i to : ℕ) (mid : List ℕ) : Type 0 where
  pub inside : i ≤ length xs
  pub same : length mid ≡ length out
  pub left : to + 4 * length (frames k (drop i xs)) ≡ at + 4 * length (frames k xs)
  pub on : (r : ℕ) (after : List ℕ) → Put (sizes_of (frames k (drop i xs))) mid to r after → Put (sizes_of (frames k xs)) out at r after

pub sizing_none : (k : Codec) (xs out : List ℕ) (at : ℕ) → Sizing k xs out at 0 at out
sizing_none k xs out at = record { inside = omega arith; same = refl; left = refl; on = λ r after p. p }

sizes_next : (k : Codec) (xs : List ℕ) → good k xs ≡ true → sizes_of (frames k xs) ≡ bytes 4 (frame_size k xs) ++ sizes_of (frames k (drop (frame_size k xs) xs))
unfolding sizes_of
sizes_next k xs g = rw (frames_next k xs g, length-take-le (frame_size k xs) xs (size_inside k xs g))

module _ {k : Codec} {xs out mid : List ℕ} {at i to : ℕ} (p : Sizing k xs out at i to mid) (ys : List ℕ) (o : Option ℕ) (y : ys ≡ drop i xs)
    (f : o ≡ pick (good k ys) (Some (frame_size k ys)) None) where
  pub sizing_more : {s next : ℕ} {after : List ℕ} → o ≡ Some s → Put (bytes 4 s) mid to next after → next ≡ to + 4 → Sizing k xs out at (i + s) next after
  sizing_more {s} {next} {after} z q e =
      let w = front_was (good k (drop i xs)) (frame_size k (drop i xs)) o (rw y at f) z in
      let d : drop (frame_size k (drop i xs)) (drop i xs) ≡ drop (i + s) xs = rw (← w.1) (drop-drop s i xs) in
      let t : sizes_of (frames k (drop i xs)) ≡ bytes 4 s ++ sizes_of (frames k (drop (i + s) xs)) = rw (d, ← w.1) at (sizes_next k (drop i xs) w.0) in
      let n : length (frames k (drop i xs)) ≡ 1 + length (frames k (drop (i + s) xs)) = rw (frames_next k (drop i xs) w.0, d) (omega arith) in
      record {
        inside = omega (arith, p.inside, size_inside k (drop i xs) w.0, w.1, length-drop i xs);
        same = q.same ∙ p.same;
        left = omega (arith, p.left);
        on = λ r last u. p.on r last (pen_is (sym t) (pen_then q u));
      }

  pub sizing_last : o ≡ None → Put (sizes_of (frames k xs)) out at to mid × (to ≡ at + 4 * length (frames k xs))
  unfolding sizes_of
  sizing_last z =
      let g = front_was_none (good k (drop i xs)) (frame_size k (drop i xs)) o (rw y at f) z in
      let e : frames k (drop i xs) ≡ [] = frames_stop k (drop i xs) g in
      let n : length (frames k (drop i xs)) ≡ 0 = ap length e in
      (p.on to mid (rw e (pen_none mid to)), omega (arith, p.left))
