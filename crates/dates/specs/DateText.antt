-- Dates and times as they are printed.
use Rattle.std.specs.Prelude.{ℕ, ◌+◌, ◌/◌, ◌%◌, List, [], ◌∷◌, ◌++◌}
use Rattle.wire.specs.Tests.{if_eq}
use Rattle.wire.specs.Text.{text}
use Rattle.dates.specs.declared.Date.{Date}
use Rattle.dates.specs.Dates.{date_of}

-- the last two digits of a number
abbrev pub two_digits : ℕ → List ℕ
two_digits n = (48 + n / 10 % 10) ∷ (48 + n % 10) ∷ []

-- "2026-11-15"
unfoldable pub day_text : Date → List ℕ
day_text d = two_digits (d.year / 100) ++ two_digits (d.year % 100) ++ text "-" ++ two_digits d.month ++ text "-" ++ two_digits d.day

-- "14:05:09"
unfoldable pub clock_text : Date → List ℕ
clock_text d = two_digits d.hour ++ text ":" ++ two_digits d.minute ++ text ":" ++ two_digits d.second

-- "2026-11-15 14:05:09"
unfoldable pub date_text : Date → List ℕ
date_text d = day_text d ++ text " " ++ clock_text d

-- 0 is no time
unfoldable pub time_text : ℕ → List ℕ
time_text t = if_eq t 0 (text "no time") (date_text (date_of t))
