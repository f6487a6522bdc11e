-- The judgement of a file together with its tracks.
use Rattle.std.specs.Prelude.{ℕ, ◌≡◌, List, Result, Ok, Err}
use Rattle.layout.specs.declared.every.Tracks.{Tracks}
use Rattle.layout.specs.Every.{TracksAt}
use Rattle.rule.specs.declared.Refusal.{Refusal}
use Rattle.judge.specs.Judgement.{judged, Accepted}

-- where the file is accepted, what its tracks say
abbrev pub WithTracks : List ℕ → Result Tracks Refusal → Type 0
WithTracks xs (Ok t) = (judged xs ≡ Accepted) × TracksAt xs t
WithTracks xs (Err e) = judged xs ≡ Err e
