-- The samples that a walk gives, in turn and up to the end, are the track's, every one of them. Assumes nothing.
use Prim.Native.Nat.{ℕ}
use mathlib.Core.Path.{◌≡◌, sym, ap, ◌∙◌}
use mathlib.Core.List.{List, [], ◌∷◌}
use lib.ListN.{drop}
use lib.Seq.{drop-length}
use Rattle.read_tracks.specs.Reads.{track_body}
use Rattle.sample_walk.specs.declared.walk.Sample.{Sample}
use Rattle.read_samples.specs.declared.stand.Stand.{Stand}
use Rattle.read_samples.specs.Reads.{track_samples}
use Rattle.read_samples.specs.Stands.{table_samples, Starts, NextAs, Turns}
use Rattle.read_samples.specs.Stands.Turns.{ended, given}

-- those from the one of its number on
turns_rest : (xs : List ℕ) (at : Stand) (l : List Sample) → Turns xs at l → l ≡ drop at.walk.number (table_samples xs at)
unfolding NextAs
turns_rest xs at [] (ended e) = sym (rw (← e) (drop-length (table_samples xs at)))
turns_rest xs at (s ∷ l) (given next g r) = sym (g.is ∙ ap (λ m. s ∷ m) (sym (rw (g.samples, g.number) at (turns_rest xs next l r))))

pub turns_all : (xs : List ℕ) (t : ℕ) (at : Stand) → Starts xs t at → (l : List Sample) → Turns xs at l → l ≡ track_samples (track_body xs t)
turns_all xs t at s l r = rw (s.first, s.samples) at (turns_rest xs at l r)
