-- Every file that is made of a dump is accepted, has its frames as samples, and is open to any run of edits. Assumes nothing.
use Prim.Native.Nat.{ℕ, ◌-◌}
use mathlib.Core.Path.{◌≡◌, refl, sym, ap, subst, ◌∙◌}
use mathlib.Core.Bool.{Bool, true, false}
use mathlib.Core.List.{List}
use lib.ListN.{length, take}
use Rattle.wire.specs.Tests.{pick}
use Rattle.wire.specs.Numbers.{Bytes}
use Rattle.wire.proofs.Clauses.{eq_is, le_is, clause}
use Rattle.wire.proofs.Lists.{nil_is}
use Rattle.wire.proofs.Numbers.{bytes_drop}
use Rattle.boxes.specs.Boxes.{nothing}
use Rattle.frames.specs.declared.codec.Codec.{Codec}
use Rattle.frames.specs.declared.codec.Codec.TheVariants.{Amr, Wideband}
use Rattle.frames.specs.Frames.{frames, joined, rest}
use Rattle.frames.proofs.Rests.{frames_whole}
use Rattle.frames.proofs.Good.{frames_good}
use Rattle.rule.specs.Results.{ToWrite, answer_in, left_in}
use Rattle.rule.specs.Results.ToWrite.{refuses}
use Rattle.rule.proofs.Results.{refused_not, asked_gave}
use Rattle.from_amr.specs.File.{file_of}
use Rattle.from_amr.specs.Dump.{magic, opens, without_magic, made_of, dump_of, from_amr}
use Rattle.promises.specs.Runs.{Lent, AllGiven}
use Rattle.promises.specs.Demand.{Demand}
use Rattle.promises.proofs.Runs.{demand}
use Rattle.promises.proofs.OneAnswer.{One, one}
use Rattle.promise_amr.specs.Made.{FromDump}
use Rattle.promise_amr.proofs.Made.{made}
use Rattle.rule.specs.Answers.{Done}

module _ (xs : List ℕ) (v : Bytes xs) (out : List ℕ) (n : ℕ) where
  -- what a call that was done has left
  abbrev Left : ToWrite → Type 0
  Left r = answer_in r out ≡ Done n → FromDump xs (take n (left_in r out))

  module _ (k : Codec) (o : opens k xs ≡ true) where
    abbrev l : List (List ℕ)
    l = frames k (without_magic k xs)

    module _ (w : nothing (rest k (without_magic k xs)) ≡ true) where
      -- nothing is left of the dump but its frames
      all_frames : joined l ≡ without_magic k xs
      all_frames = frames_whole k (without_magic k xs) (nil_is _ (eq_is _ _ w))

      whole : Bytes (without_magic k xs)
      unfolding without_magic
      whole = bytes_drop (length (magic k)) xs v

      of_frames : Left (made_of k l)
      unfolding made_of
      of_frames e =
          let d = asked_gave _ (file_of k l) out n e in
          let few = le_is _ _ (clause 0 _ d.0) in
          let short = le_is _ _ (clause 1 _ d.0) in
          let m = made k l (frames_good k (without_magic k xs)) few short (subst Bytes (sym all_frames) whole) in
          subst (FromDump xs) (sym d.1)
          (record { codec = k; opens = o; recording = m; joined = ap joined m.samples ∙ all_frames })

    of_codec : Left (dump_of k xs)
    unfolding dump_of answer_in
    of_codec = go (nothing (rest k (without_magic k xs))) refl
      where
        go : (t : Bool) → nothing (rest k (without_magic k xs)) ≡ t → Left (pick t (made_of k l) (refuses 41 (length xs - length (rest k (without_magic k xs)))))
        go true w = of_frames w
        go false w = λ e. absurd (refused_not _ _ _ e)

  pub from_dump : answer_in (from_amr xs) out ≡ Done n → FromDump xs (take n (left_in (from_amr xs) out))
  unfolding from_amr answer_in
  from_dump = go (opens Amr xs) (opens Wideband xs) refl refl
    where
      go : (s t : Bool) → opens Amr xs ≡ s → opens Wideband xs ≡ t → Left (pick s (dump_of Amr xs) (pick t (dump_of Wideband xs) (refuses 40 0)))
      go true t o q = of_codec Amr o
      go false true q o = of_codec Wideband o
      go false false p q = λ e. absurd (refused_not _ _ _ e)

  -- demand 3 holds of it
  pub dump_edits : answer_in (from_amr xs) out ≡ Done n → {ls : List Lent} → AllGiven ls → Demand ls (take n (left_in (from_amr xs) out))
  dump_edits e a = let r = (from_dump e).recording in demand a (take n (left_in (from_amr xs) out)) r.bytes r.accepted

-- any two results that the promise of the call allows are equal
pub one_from_amr : (xs : List ℕ) → One (from_amr xs)
one_from_amr xs = one (from_amr xs)
