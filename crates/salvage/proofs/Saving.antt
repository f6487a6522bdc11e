-- The rooms that are too short, and what is written and told where they aren't, branch by branch of the code. Assumes nothing.
use Prim.Native.Nat.{ℕ, ◌+◌, ◌-◌, ◌^◌, ◌≤◌, ◌<◌}
use native.Mathlib.Omega.{arith}
use mathlib.Core.Path.{◌≡◌, refl, sym, ap, ◌∙◌}
use mathlib.Core.List.{List, [], ◌∷◌}
use lib.ListN.{length, take, drop, length-drop}
use lib.Seq.{take_at}
use Rattle.wire.specs.Clauses.{is_le}
use Rattle.wire.specs.Numbers.{word}
use Rattle.wire.specs.Writing.{Wrote, Put}
use Rattle.wire.proofs.Clauses.{is_le_lem, not_le}
use Rattle.wire.proofs.Numbers.{word_drop}
use Rattle.wire.proofs.Writing.{pen_front}
use Rattle.boxes.specs.Boxes.{HEAD}
use Rattle.boxes.specs.Containers.{LONGEST}
use Rattle.rule.specs.Results.{asked, in_limit, Exact}
use Rattle.rule.specs.Results.ToWrite.{gives}
use Rattle.rule.proofs.Results.{exact_short, exact_wrote, test_not, test_so, test_all, reports_refused, reports_done}
use Rattle.frames.specs.declared.codec.Codec.{Codec}
use Rattle.frames.specs.declared.run.Run.{Run}
use Rattle.frames.specs.Frames.{frames, joined}
use Rattle.frames.specs.Modes.{RunOf}
use Rattle.from_amr.specs.File.{StartsAt, file_of}
use Rattle.from_amr.proofs.Lengths.{length_file}
use Rattle.salvage.specs.Unfinished.{size_field, behind_ftyp}
use Rattle.salvage.specs.Salvage.{payload_of, kept_frames, kept, dropped, first_dropped, report_of, salvaged, salvage_result, Salvages}
use Rattle.salvage.specs.Found.{Found}
use Rattle.salvage.proofs.Keeping.{kept_dropped, kept_again}
use Rattle.salvage.proofs.Fronts.{payload_is}
use Rattle.rule.specs.Answers.{Answer, Done, Refused}

-- ---- the refusals, and what is written

module _ {k : Codec} {xs : List ℕ} {s : ℕ} {r : Run} (p : Found k xs s r) where
  -- as long as code says
  pub long_as : {m n : ℕ} → StartsAt r.count m → n ≡ m + r.bytes → n ≡ length (salvaged k xs)
  long_as a q = q ∙ rw (a.is k (kept_frames k xs) (sym p.frames.count), length_file k (kept_frames k xs), p.frames.bytes)

  module _ (out room : List ℕ) where
    -- the tests past those of the file
    past_file : {a : Answer} {left : List ℕ}
        → Exact (asked ((24, in_limit (salvaged k xs)) ∷ (25, is_le 4 (length room)) ∷ []) (gives (salvaged k xs))) out a left
        → Exact (salvage_result k xs (length room)) out a left
    unfolding salvage_result
    past_file x =
        test_so 1 _ _ _ out p.fine (test_so 60 _ _ _ out p.such (test_so 61 _ _ _ out (is_le_lem _ _ (omega (arith, p.some, p.frames.count))) x))

    pub over : LONGEST < length (salvaged k xs) → Salvages k xs out (Refused 24 0) out room room
    over h = reports_refused room (past_file (test_not 24 _ _ _ out (not_le _ _ h)))

    module _ (l : length (salvaged k xs) ≤ LONGEST) where
      pub no_report : length room < 4 → Salvages k xs out (Refused 25 0) out room room
      no_report h = reports_refused room (past_file (test_so 24 _ _ _ out (is_le_lem _ _ l) (test_not 25 _ _ _ out (not_le _ _ h))))

      module _ (h : 4 ≤ length room) where
        in_room : {a : Answer} {left : List ℕ} → Exact (gives (salvaged k xs)) out a left → Exact (salvage_result k xs (length room)) out a left
        in_room x = past_file (test_so 24 _ _ _ out (is_le_lem _ _ l) (test_so 25 _ _ _ out (is_le_lem _ _ h) (test_all _ out x)))

        pub no_room : length out < length (salvaged k xs) → Salvages k xs out (Refused 25 0) out room room
        no_room o = reports_refused room (in_room (exact_short _ out o))

        pub saved : length (salvaged k xs) ≤ length out → {n i m : ℕ} {left after : List ℕ} → n ≡ length (salvaged k xs)
            → Put (salvaged k xs) out 0 i left → Wrote (report_of k xs) room m after → Salvages k xs out (Done n) left room after
        saved o {n} {i} e q w =
            let j : i ≡ n = omega (arith, q.next) in
            reports_done room (in_room (exact_wrote (salvaged k xs) out o (rw j at (pen_front q (omega (arith, q.next)))))) w

-- ---- what is kept, and what is told

module _ {k : Codec} {xs : List ℕ} {s : ℕ} {r : Run} (p : Found k xs s r) where
  payload_there : drop s xs ≡ payload_of xs
  payload_there = payload_is xs p.starts

  module _ {ys : List ℕ} (y : ys ≡ take (s + r.bytes - s) (drop s xs)) where
    part_is : ys ≡ kept k xs
    part_is =
        let b : s + r.bytes - s ≡ length (kept k xs) = omega (arith, p.frames.bytes) in
        y ∙ rw (b, payload_there, ← kept_dropped k xs) (take_at (kept k xs) (dropped k xs) _ refl)

    -- it is good frames, and no byte more
    frames_are : frames k ys ≡ kept_frames k xs
    frames_are = ap (frames k) part_is ∙ kept_again k xs

    pub put_asks : RunOf (frames k ys) r × (joined (frames k ys) ≡ ys) × (r.count ≤ 65536) × (length ys < 2 ^ 40)
    put_asks = (rw frames_are p.frames, ap joined frames_are ∙ sym part_is, p.few, omega (arith, p.inside, p.most, p.frames.bytes, ap length part_is))

    pub put_are : {out : List ℕ} {i : ℕ} {left : List ℕ} → Put (file_of k (frames k ys)) out 0 i left → Put (salvaged k xs) out 0 i left
    put_are q = rw frames_are at q

  length_dropped : length (dropped k xs) ≡ length xs - (s + r.bytes)
  unfolding dropped
  length_dropped =
      omega (arith, length-drop (length (kept k xs)) (payload_of xs), ap length payload_there, length-drop s xs, p.frames.bytes)

  old_size : word 4 xs (s - HEAD) ≡ size_field (behind_ftyp xs)
  old_size = let e : s - HEAD ≡ size_field xs + 0 = omega (arith, p.starts) in rw e (sym (word_drop 4 (size_field xs) xs 0))

  numbers_are : {size : ℕ} → size ≡ word 4 xs (s - HEAD)
      → size ∷ r.count ∷ (length xs - (s + r.bytes)) ∷ (s + r.bytes) ∷ [] ≡ report_of k xs
  numbers_are e =
      let f : s + r.bytes ≡ first_dropped k xs = omega (arith, length_dropped, p.inside) in
      rw (e ∙ old_size, p.frames.count, ← length_dropped, f)

  pub report_are : {room after : List ℕ} {size : ℕ} → size ≡ word 4 xs (s - HEAD)
      → Wrote (size ∷ r.count ∷ (length xs - (s + r.bytes)) ∷ (s + r.bytes) ∷ []) room 4 after → Wrote (report_of k xs) room 4 after
  report_are e w = rw (numbers_are e) at w
