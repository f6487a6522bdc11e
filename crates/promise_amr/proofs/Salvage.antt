-- Every file that is salvaged is accepted, has the kept frames as samples, and is open to any run of edits; nothing is lost. Assumes nothing.
use Prim.Native.Nat.{ℕ}
use mathlib.Core.Path.{◌≡◌, sym, ap, subst}
use mathlib.Core.List.{List}
use lib.ListN.{length, take}
use lib.Seq.{take-append_seam}
use Rattle.wire.specs.Numbers.{Bytes}
use Rattle.wire.proofs.Clauses.{le_is, clause}
use Rattle.wire.proofs.Numbers.{bytes_drop, bytes_take}
use Rattle.boxes.specs.Boxes.{HEAD}
use Rattle.frames.specs.declared.codec.Codec.{Codec}
use Rattle.frames.specs.Frames.{joined}
use Rattle.rule.specs.Results.{answer_in, left_in, told_in}
use Rattle.rule.proofs.Results.{asked_gave, one_report}
use Rattle.salvage.specs.Unfinished.{size_field, behind_ftyp}
use Rattle.salvage.specs.Salvage.{payload_of, kept_frames, kept, dropped, report_of, salvaged, salvage_result, Salvages}
use Rattle.salvage.proofs.Keeping.{kept_good, kept_most, kept_dropped, kept_until, first_dropped_lem}
use Rattle.promises.specs.Runs.{Lent, AllGiven}
use Rattle.promises.specs.Demand.{Demand}
use Rattle.promises.proofs.Runs.{demand}
use Rattle.promise_amr.specs.Salvaged.{Salvaged}
use Rattle.promise_amr.proofs.Made.{made}
use Rattle.rule.specs.Answers.{Answer, Done}

module _ (k : Codec) (xs : List ℕ) where
  payload_filled : Bytes xs → Bytes (payload_of xs)
  unfolding payload_of
  payload_filled v = bytes_drop HEAD (behind_ftyp xs) (bytes_drop (size_field xs) xs v)

  kept_filled : Bytes xs → Bytes (kept k xs)
  kept_filled v =
      let t : take (length (kept k xs)) (payload_of xs) ≡ kept k xs = rw (← kept_dropped k xs) (take-append_seam (kept k xs) (dropped k xs)) in
      subst Bytes t (bytes_take (length (kept k xs)) (payload_of xs) (payload_filled v))

  module _ (v : Bytes xs) (out : List ℕ) (m n : ℕ) (e : answer_in (salvage_result k xs m) out ≡ Done n) where
    -- what a call that was done has left
    abbrev left : List ℕ
    left = take n (left_in (salvage_result k xs m) out)

    pub salvage_saves : Salvaged k xs left
    unfolding salvage_result
    salvage_saves =
        let d = asked_gave _ (salvaged k xs) out n e in
        let r = made k (kept_frames k xs) (kept_good k xs) (kept_most k xs) (le_is _ _ (clause 3 _ d.0)) (kept_filled v) in
        subst (Salvaged k xs) (sym d.1) (record {
          recording = r;
          joined = ap joined r.samples;
          split = kept_dropped k xs;
          first = first_dropped_lem k xs;
          until = kept_until k xs;
        })

    -- demand 3 holds of it
    pub salvage_edits : {ls : List Lent} → AllGiven ls → Demand ls left
    salvage_edits a = let r = salvage_saves.recording in demand a left r.bytes r.accepted

    -- and the report's room starts with the four numbers
    pub salvage_tells : (room : List ℕ) → take 4 (told_in (answer_in (salvage_result k xs m) out) (report_of k xs) room) ≡ report_of k xs
    unfolding told_in
    salvage_tells room = rw e

  -- any two results that the promise of the call allows are equal
  pub one_salvage : (out room : List ℕ) (r s : Answer) (a b t u : List ℕ) → Salvages k xs out r a room t → Salvages k xs out s b room u
      → (r ≡ s) × (a ≡ b) × (t ≡ u)
  one_salvage out room r s a b t u x y = one_report x y
