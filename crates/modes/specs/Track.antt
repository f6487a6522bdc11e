-- K11: "Answer the first sample that fails and why".
use Rattle.std.specs.Prelude.{ℕ, ◌+◌, ◌-◌, Bool, true, List, [], ◌∷◌, ◌++◌, length, Option, Some, None}
use Rattle.wire.specs.Clauses.{is_eq, either}
use Rattle.codes.specs.Codes.{SAMR, SAWB}
use Rattle.boxes.specs.Box.{Box, header}
use Rattle.boxes.specs.Boxes.{boxes}
use Rattle.boxes.specs.Seek.{by_number}
use Rattle.movie.specs.Named.{list_in}
use Rattle.mdat.specs.Samples.{sample_bytes}
use Rattle.rule.specs.Rule.{all_list}
use Rattle.rule.specs.Results.{ToWrite}
use Rattle.judge.specs.Calls.{result_on}
use Rattle.read_tracks.specs.Reads.{is_track, track_body}
use Rattle.sample_walk.specs.declared.walk.Sample.{Sample}
use Rattle.read_samples.specs.Reads.{track_samples}
use Rattle.modes.specs.declared.reason.Reason.{Reason}
use Rattle.modes.specs.declared.Failing.{Failing}
use Rattle.modes.specs.Sample.{speech_of, why, reason_number}

-- ---- the entries of a track

-- "20 for a track that .. has other entries"
unfoldable pub speech_only : List Box → Bool
speech_only l = all_list (λ x. either (is_eq x.code SAMR ∷ is_eq x.code SAWB ∷ [])) true l

-- entry n, from 0, header and all
unfoldable pub entry_bytes : List Box → ℕ → List ℕ
entry_bytes [] n = []
entry_bytes (x ∷ l) n = by_number n (header x ++ x.body) (λ m. entry_bytes l m)

-- ---- its samples

-- why a sample of the file xs fails, by "the mode_set in their own description"; it has so many samples after it
unfoldable pub why_of : List ℕ → List Box → Sample → ℕ → Option Reason
why_of xs l s left = why (speech_of (entry_bytes l (s.description - 1))) left (sample_bytes xs s)

-- the first that fails, counted from n, and why
abbrev pub named : {R : Type 0} → ℕ → Option R → Option (Failing R) → Option (Failing R)
named n None later = later
named n (Some w) later = Some (record { number = n; why = w })

unfoldable pub failing_from : {R : Type 0} → (Sample → ℕ → Option R) → ℕ → List Sample → Option (Failing R)
failing_from f n [] = None
failing_from f n (s ∷ l) = named n (f s (length l)) (failing_from f (n + 1) l)

-- of the track with payload b
unfoldable pub failing_in : List ℕ → List ℕ → Option (Failing Reason)
failing_in xs b = failing_from (why_of xs (boxes (list_in b))) 1 (track_samples b)

-- nothing where none fails
unfoldable pub failing_numbers : Option (Failing Reason) → List ℕ
failing_numbers None = []
failing_numbers (Some f) = f.number ∷ reason_number f.why ∷ []

-- ---- the call: 20, 25

unfoldable pub modes_result : List ℕ → ℕ → ToWrite
modes_result xs t =
    result_on xs ((20, is_track xs t) ∷ (20, speech_only (boxes (list_in (track_body xs t)))) ∷ []) (failing_numbers (failing_in xs (track_body xs t)))
