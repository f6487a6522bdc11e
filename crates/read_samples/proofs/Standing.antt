-- Laws of the walk that stands in a file. Assumes nothing.
use Prim.Native.Nat.{ℕ}
use mathlib.Core.Path.{◌≡◌, refl}
use mathlib.Core.Bool.{false}
use mathlib.Core.List.{List}
use lib.ListN.{length}
use Rattle.wire.specs.Tests.{pick}
use Rattle.layout.specs.Slots.{slot_in}
use Rattle.layout.specs.declared.track.Track.{Track}
use Rattle.judge.specs.Judgement.{judged, Accepted}
use Rattle.judge.specs.Calls.{answer_on}
use Rattle.judge.proofs.Calls.{answer_accepted}
use Rattle.judge.proofs.Exact.{accepted_meets}
use Rattle.read_tracks.specs.Reads.{is_track}
use Rattle.read_tracks.specs.Tracks.{Numbered}
use Rattle.read_tracks.proofs.Reading.{laid_offsets}
use Rattle.sample_walk.specs.declared.walk.Sample.{Sample}
use Rattle.sample_walk.specs.declared.walk.SampleWalk.{SampleWalk}
use Rattle.sample_walk.specs.Samples.{samples_at}
use Rattle.sample_walk.specs.Walks.{Sampled, Before, Gives, sample_start}
use Rattle.sample_walk.proofs.Walks.{start_before}
use Rattle.read_samples.specs.declared.stand.Stand.{Stand}
use Rattle.read_samples.specs.Stands.{table_samples, StandsIn, Starts, Onward}
use Rattle.read_samples.proofs.Tables.{numbered_walked, laid_runs, laid_sizes}
use Rattle.rule.specs.Answers.{Done, Refused}

-- ---- a step, over the tables as they are read

module _ {xs : List ℕ} {at : Stand} (r : StandsIn xs at) {a b c : List ℕ} (e : a ≡ slot_in xs at.stsc)
    (f : b ≡ slot_in xs at.stsz) (g : c ≡ slot_in xs at.stco) where
  pub ready_step : Sampled a b c × Before a b c at.walk
  ready_step = rw (e, f, g) (r.tables, r.before)

  pub stand_gives : {s : Sample} {w : SampleWalk} → Gives a b c at.walk.number s w
      → Onward xs at s (record { stsc = at.stsc; stsz = at.stsz; stco = at.stco; walk = w })
  stand_gives h =
      let i = rw (e, f, g) at h in
      record {
        is = i.is;
        samples = refl;
        number = i.number;
        ready = record { stsc = r.stsc; stsz = r.stsz; stco = r.stco; tables = r.tables; before = i.walk };
      }

  pub stand_ends : length (samples_at a b c) ≡ at.walk.number → length (table_samples xs at) ≡ at.walk.number
  stand_ends h = rw (e, f, g) at h

-- ---- the start, or 20

pub stand_none : (xs : List ℕ) (t : ℕ) → judged xs ≡ Accepted → is_track xs t ≡ false
    → Refused 20 0 ≡ answer_on xs (pick (is_track xs t) (Done 0) (Refused 20 0))
stand_none xs t j h = answer_accepted xs refl _ j (rw h)

module _ (xs : List ℕ) (t : ℕ) (j : judged xs ≡ Accepted) {k : Track} (n : Numbered xs t k) {w : SampleWalk} (s : w ≡ sample_start) where
  pub stand_starts : Starts xs t (record { stsc = k.stsc; stsz = k.stsz; stco = k.stco; walk = w })
  stand_starts =
      let l = n.laid in
      let d = numbered_walked xs t (accepted_meets xs j) n in
      let e = laid_runs l refl in
      let f = laid_sizes l refl in
      let g = laid_offsets l refl in
      record {
        accepted = j;
        there = n.there;
        ready =
            rw s (record {
              stsc = l.stsc.lies;
              stsz = l.stsz.lies;
              stco = l.stco.lies;
              tables = rw (e, f, g) d;
              before = rw (e, f, g) (start_before _ _ _ d);
            });
        first = rw s refl;
        samples = rw (e, f, g);
      }
