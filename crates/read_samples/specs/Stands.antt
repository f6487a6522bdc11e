-- "A sample walk holds the lent file and its place in it, and gives the next sample's bytes or the end."
use Rattle.std.specs.Prelude.{ℕ, ◌+◌, ◌≡◌, true, List, [], ◌∷◌, length, drop, Option, Some, None, Result, Ok, Err}
use Rattle.wire.specs.Tests.{pick}
use Rattle.layout.specs.Slots.{slot_in, Lies}
use Rattle.rule.specs.declared.Refusal.{Refusal}
use Rattle.rule.specs.Answers.{Done, Refused}
use Rattle.judge.specs.Judgement.{judged, Accepted}
use Rattle.judge.specs.Calls.{answer_on}
use Rattle.read_tracks.specs.Reads.{is_track, track_body}
use Rattle.sample_walk.specs.declared.walk.Sample.{Sample}
use Rattle.sample_walk.specs.Samples.{samples_at}
use Rattle.sample_walk.specs.Walks.{Sampled, Before}
use Rattle.read_samples.specs.declared.stand.Stand.{Stand}
use Rattle.read_samples.specs.Reads.{track_samples}

-- the samples that it walks over, in the file xs
abbrev pub table_samples : List ℕ → Stand → List Sample
table_samples xs at = samples_at (slot_in xs at.stsc) (slot_in xs at.stsz) (slot_in xs at.stco)

-- it stands before the sample of its number, from 0
pub record StandsIn (xs : List ℕ) (at : Stand) : Type 0 where
  pub stsc : Lies xs at.stsc
  pub stsz : Lies xs at.stsz
  pub stco : Lies xs at.stco
  pub tables : Sampled (slot_in xs at.stsc) (slot_in xs at.stsz) (slot_in xs at.stco)
  pub before : Before (slot_in xs at.stsc) (slot_in xs at.stsz) (slot_in xs at.stco) at.walk

-- ---- before the first sample of track t

pub record Starts (xs : List ℕ) (t : ℕ) (at : Stand) : Type 0 where
  pub accepted : judged xs ≡ Accepted
  pub there : is_track xs t ≡ true
  pub ready : StandsIn xs at
  pub first : at.walk.number ≡ 0
  pub samples : table_samples xs at ≡ track_samples (track_body xs t)

-- or 1 to 10, or 20
unfoldable pub StoodAs : List ℕ → ℕ → Result Stand Refusal → Type 0
StoodAs xs t (Ok at) = Starts xs t at
StoodAs xs t (Err e) = Err e ≡ answer_on xs (pick (is_track xs t) (Done 0) (Refused 20 0))

-- ---- a step

-- it gives the sample of its number, and stands before the one after it
pub record Onward (xs : List ℕ) (at : Stand) (s : Sample) (next : Stand) : Type 0 where
  pub is : drop at.walk.number (table_samples xs at) ≡ s ∷ drop (at.walk.number + 1) (table_samples xs at)
  pub samples : table_samples xs next ≡ table_samples xs at
  pub number : next.walk.number ≡ at.walk.number + 1
  pub ready : StandsIn xs next

-- and the end past the last
unfoldable pub NextAs : List ℕ → Stand → Option (Sample × Stand) → Type 0
NextAs xs at (Some (s, next)) = Onward xs at s next
NextAs xs at None = length (table_samples xs at) ≡ at.walk.number

-- what a walk gives step by step, up to the end
pub data Turns (xs : List ℕ) : Stand → List Sample → Type 0 where
  ended : {at : Stand} → NextAs xs at None → Turns xs at []
  given : {at : Stand} {s : Sample} {l : List Sample} (next : Stand) → NextAs xs at (Some (s, next)) → Turns xs next l → Turns xs at (s ∷ l)
