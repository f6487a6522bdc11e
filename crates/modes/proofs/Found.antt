-- A track as it is found in a file: its entries, and its first sample that fails. Assumes nothing.
use Prim.Native.Nat.{ℕ}
use mathlib.Core.Path.{◌≡◌, ap, ◌∙◌}
use mathlib.Core.Bool.{Bool}
use mathlib.Core.List.{List}
use lib.ListN.{drop}
use Rattle.codes.specs.Codes.{STSC, STSZ, STCO}
use Rattle.boxes.specs.Boxes.{FRONT, boxes}
use Rattle.movie.specs.Movie.{sample_table}
use Rattle.movie.specs.Named.{list_in}
use Rattle.layout.specs.Slots.{slot_in}
use Rattle.layout.specs.Track.{Laid}
use Rattle.layout.specs.declared.track.Track.{Track}
use Rattle.rule.specs.Results.{Exact}
use Rattle.rule.specs.Results.ToWrite.{gives}
use Rattle.sample_walk.specs.Samples.{samples_at}
use Rattle.std.specs.declared.option.Option.{Option}
use Rattle.modes.specs.declared.reason.Reason.{Reason}
use Rattle.modes.specs.declared.Failing.{Failing}
use Rattle.modes.specs.Track.{speech_only, why_of, failing_from, failing_in, failing_numbers}
use Rattle.rule.specs.Answers.{Answer}

pub laid_list : {xs b : List ℕ} {k : Track} → Laid xs b k → {stsd list : List ℕ} → stsd ≡ slot_in xs k.stsd → list ≡ drop FRONT stsd → list ≡ list_in b
unfolding list_in
laid_list l e f = f ∙ ap (drop FRONT) (e ∙ l.stsd.is)

-- of the track with payload b
module _ (b : List ℕ) {list : List ℕ} (e : list ≡ list_in b) where
  pub found_only : {i : Bool} → i ≡ speech_only (boxes list) → i ≡ speech_only (boxes (list_in b))
  found_only o = rw e at o

  module _ (xs : List ℕ) {stsc stsz stco : List ℕ} (g : stsc ≡ sample_table STSC b) (h : stsz ≡ sample_table STSZ b) (i : stco ≡ sample_table STCO b) where
    pub found_failing : {r : Option (Failing Reason)} → r ≡ failing_from (why_of xs (boxes list)) 1 (samples_at stsc stsz stco)
        → {out left : List ℕ} {a : Answer} → Exact (gives (failing_numbers r)) out a left → Exact (gives (failing_numbers (failing_in xs b))) out a left
    unfolding failing_in
    found_failing o x = rw (o, g, h, i, e) at x
