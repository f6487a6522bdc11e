-- A file that meets the rules: the ways down to its tracks and their tables. Assumes nothing.
use Prim.Native.Nat.{ℕ, ◌<◌}
use mathlib.Core.Path.{◌≡◌}
use mathlib.Core.Bool.{true}
use mathlib.Core.List.{List}
use Rattle.codes.specs.Codes.{STBL}
use Rattle.boxes.specs.Boxes.{boxes}
use Rattle.boxes.specs.Containers.{FILE, DEPTH}
use Rattle.boxes.specs.Seek.{find}
use Rattle.movie.specs.Movie.{tracks, track, minf}
use Rattle.rule.specs.Rule.{Rule, all_in}
use Rattle.rule_shape.specs.Three.{three_rule}
use Rattle.rule_shape.proofs.Descent.{Met, in_track, in_stbl}
use Rattle.rule_tracks.specs.Six.{six_rule}
use Rattle.rule_tracks.specs.Seven.{seven_rule}
use Rattle.rule_tracks.specs.Eight.{eight_rule}
use Rattle.rule_tracks.proofs.Chunked.{Chunked}
use Rattle.judge.specs.Acceptance.{Holds, Meets}

module _ (xs : List ℕ) (m : Meets xs) where
  pub file_met : (r : Rule) → Holds r xs → Met r DEPTH FILE xs
  file_met r q = record { three = m.three; rule = q }

  pub file_chunked : Chunked (boxes xs) DEPTH FILE xs
  file_chunked = record { three = m.three; six = m.six; seven = m.seven; eight = m.eight }

  module _ (t : ℕ) (k : t < tracks xs) where
    down : (r : Rule) → Holds r xs → all_in r 1 STBL (find STBL (minf (track xs t))) ≡ true
    down r q = (in_stbl (in_track (file_met r q) t k)).rule

    pub track_chunked : Chunked (boxes xs) 1 STBL (find STBL (minf (track xs t)))
    track_chunked = record { three = down three_rule m.three; six = down six_rule m.six; seven = down seven_rule m.seven; eight = down (eight_rule (boxes xs)) m.eight }
