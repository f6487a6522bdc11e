-- What a dump comes to, branch by branch of the code. Assumes nothing.
use Prim.Native.Nat.{ℕ, ◌+◌, ◌-◌, ◌≤◌, ◌<◌}
use native.Mathlib.Omega.{arith}
use mathlib.Core.Path.{◌≡◌, sym, ap, ◌∙◌}
use mathlib.Core.Bool.{true, false}
use mathlib.Core.List.{List, []}
use lib.ListN.{length, drop, length-drop, drop_of_length-le}
use Rattle.wire.specs.Writing.{Put}
use Rattle.wire.proofs.Clauses.{is_eq_lem, not_eq, is_le_lem, not_le}
use Rattle.wire.proofs.Writing.{pen_front}
use Rattle.boxes.specs.Boxes.{nothing}
use Rattle.boxes.specs.Containers.{LONGEST}
use Rattle.rule.specs.Results.{Exact}
use Rattle.rule.proofs.Results.{exact_refuses, exact_short, exact_wrote, test_not, test_so, over_limit, in_limit_lem}
use Rattle.frames.specs.declared.codec.Codec.{Codec}
use Rattle.frames.specs.declared.run.Run.{Run}
use Rattle.frames.specs.Frames.{frames_to, frames, joined, rest}
use Rattle.frames.specs.Modes.{RunOf}
use Rattle.frames.proofs.Runs.{frames_enough}
use Rattle.frames.proofs.Rests.{frames_whole}
use Rattle.from_amr.specs.File.{StartsAt, file_of}
use Rattle.from_amr.specs.Dump.{magic, without_magic, MOST_FRAMES, made_of, dump_of}
use Rattle.from_amr.proofs.Lengths.{length_file}
use Rattle.rule.specs.Answers.{Answer, Done, Refused}

-- the run that code reads
pub run_whole : (k : Codec) (ys : List ℕ) (n : ℕ) {r : Run} → n ≡ length ys → RunOf (frames_to n k ys) r → RunOf (frames k ys) r
run_whole k ys n e p = rw (frames_enough n k ys (omega arith)) at p

length_without : (k : Codec) (xs : List ℕ) → length (without_magic k xs) ≡ length xs - length (magic k)
unfolding without_magic
length_without k xs = length-drop (length (magic k)) xs

rest_length : (k : Codec) (xs : List ℕ) → length (rest k xs) ≡ length xs - length (joined (frames k xs))
unfolding rest
rest_length k xs = length-drop (length (joined (frames k xs))) xs

pub past_magic : (k : Codec) (xs : List ℕ) {ys : List ℕ} {m : ℕ} → m ≡ length (magic k) → ys ≡ drop m xs → ys ≡ without_magic k xs
unfolding without_magic
past_magic k xs e y = rw e at y

-- ---- what frames become

-- as long as code says
pub long_as : (k : Codec) (ys : List ℕ) {r : Run} {s n : ℕ} → RunOf (frames k ys) r → joined (frames k ys) ≡ ys → StartsAt r.count s → n ≡ s + length ys
    → n ≡ length (file_of k (frames k ys))
long_as k ys p j s e = e ∙ rw (s.is k (frames k ys) (sym p.count), length_file k (frames k ys), j)

module _ (k : Codec) (l : List (List ℕ)) (out : List ℕ) where
  pub made_many : MOST_FRAMES < length l → Exact (made_of k l) out (Refused 42 0) out
  unfolding made_of
  made_many h = test_not 42 _ _ _ out (not_le _ _ h)

  module _ (h : length l ≤ MOST_FRAMES) where
    pub made_over : LONGEST < length (file_of k l) → Exact (made_of k l) out (Refused 24 0) out
    unfolding made_of
    made_over o = test_so 42 _ _ _ out (is_le_lem _ _ h) (over_limit (file_of k l) out o)

    pub made_short : length (file_of k l) ≤ LONGEST → length out < length (file_of k l) → Exact (made_of k l) out (Refused 25 0) out
    unfolding made_of
    made_short o s = test_so 42 _ _ _ out (is_le_lem _ _ h) (in_limit_lem (file_of k l) out o (exact_short (file_of k l) out s))

    pub made_wrote : length (file_of k l) ≤ LONGEST → length (file_of k l) ≤ length out → {n r : ℕ} {left : List ℕ} → n ≡ length (file_of k l)
        → Put (file_of k l) out 0 r left → Exact (made_of k l) out (Done n) left
    unfolding made_of
    made_wrote o s {n} {r} e p =
        let q : r ≡ n = omega (arith, p.next) in
        test_so 42 _ _ _ out (is_le_lem _ _ h) (in_limit_lem (file_of k l) out o (exact_wrote (file_of k l) out s (rw q at (pen_front p (omega (arith, p.next))))))

-- ---- what a dump comes to

module _ (k : Codec) (xs : List ℕ) {ys : List ℕ} (y : ys ≡ without_magic k xs) {r : Run} (p : RunOf (frames k ys) r) where
  -- bytes are left
  pub dump_bad : (out : List ℕ) {m : ℕ} → m ≡ length (magic k) → r.bytes < length ys → Exact (dump_of k xs) out (Refused 41 (m + r.bytes)) out
  unfolding dump_of
  dump_bad out {m} e h =
      let j : r.bytes ≡ length (joined (frames k (without_magic k xs))) = rw y at p.bytes in
      let i : r.bytes < length (without_magic k xs) = rw y at h in
      let n : nothing (rest k (without_magic k xs)) ≡ false = not_eq _ 0 (λ z. omega (arith, rest_length k (without_magic k xs))) in
      let w : m + r.bytes ≡ length xs - length (rest k (without_magic k xs)) = omega (arith, rest_length k (without_magic k xs), length_without k xs) in
      rw (n, w) (exact_refuses 41 _ out)

  -- none are
  module _ (h : length ys ≤ r.bytes) where
    none_left : rest k ys ≡ []
    unfolding rest
    none_left = drop_of_length-le ys {i = length (joined (frames k ys))} (omega (arith, p.bytes))

    pub all_joined : joined (frames k ys) ≡ ys
    all_joined = frames_whole k ys none_left

    pub dump_good : {out : List ℕ} {a : Answer} {left : List ℕ} → Exact (made_of k (frames k ys)) out a left → Exact (dump_of k xs) out a left
    unfolding dump_of
    dump_good x =
        let n : nothing (rest k (without_magic k xs)) ≡ true = is_eq_lem _ 0 (rw (← y) (ap length none_left)) in
        rw (n, ← y) x
