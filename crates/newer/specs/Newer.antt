-- "Newer of two: given two accepted files, each with its clock's minutes ahead of universal time, compare mvhd modification
-- time less 60 times the minutes"
use Rattle.std.specs.Prelude.{ℕ, ◌-◌, List, [], ◌∷◌, ℤ, length, take, drop, Result, Ok, Err}
use Rattle.wire.specs.Tests.{pick, if_eq}
use Rattle.wire.specs.Clauses.{every}
use Rattle.wire.specs.Numbers.{word}
use Rattle.codes.specs.Codes.{MVHD}
use Rattle.boxes.specs.Seek.{find, by_number}
use Rattle.rule.specs.Answers.{refusal}
use Rattle.clocks.specs.declared.Order.{Order}
use Rattle.clocks.specs.declared.Order.TheVariants.{Earlier, Same, Later}
use Rattle.clocks.specs.Clocks.{zone_fine, less, order_number, order}
use Rattle.movie.specs.Movie.{movie}
use Rattle.movie.specs.Entries.{Entry, entries}
use Rattle.judge.specs.Judgement.{judged}
use Rattle.judge.specs.Calls.{when_accepted}
use Rattle.newer.specs.declared.Part.{Part}
use Rattle.newer.specs.declared.FileRefusal.{FileRefusal}

-- ---- the order

-- "mvhd and mdhd have .. modification at 8"
unfoldable pub modified : List ℕ → ℕ
modified xs = word 4 (find MVHD (movie xs)) 8

-- "whether the first is earlier, same or later"
unfoldable pub order_of : List ℕ → ℤ → List ℕ → ℤ → Order
order_of xs y ys z = order (less (modified xs) y) (less (modified ys) z)

-- ---- the answer

abbrev pub Outcome : Type 0
Outcome = Result Part FileRefusal

pattern abbrev pub Found : Part → Outcome
Found f = Ok f

-- a refusal that names a file
abbrev pub refusal_of : ℕ → ℕ → ℕ → FileRefusal
refusal_of file n p = record { file = file; refusal = refusal n p }

abbrev pub RefusedIn : ℕ → ℕ → ℕ → Outcome
RefusedIn file n p = Err (refusal_of file n p)

-- entry i, from 0, of some entries of a file, and 20 where there is none; with the order, and which file it is
unfoldable pub among : Order → ℕ → ℕ → List Entry → Outcome
among o file i [] = RefusedIn 0 20 0
among o file i (e ∷ es) = by_number i (Found (record { order = o; file = file; place = e.place; span = length e.bytes })) (λ j. among o file j es)

-- entry i, from 1, of a file
unfoldable pub entry_in : Order → ℕ → List ℕ → ℕ → Outcome
entry_in o file xs i = if_eq i 0 (RefusedIn 0 20 0) (among o file (i - 1) (entries xs))

-- "an entry of the later file .. on same, of the first"
abbrev pub entry_of : Order → List ℕ → List ℕ → ℕ → Outcome
entry_of Earlier xs ys i = entry_in Earlier 2 ys i
entry_of Same xs ys i = entry_in Same 1 xs i
entry_of Later xs ys i = entry_in Later 1 xs i

-- "22 is given for the minutes only and comes before 20"
unfoldable pub in_zones : List ℕ → ℤ → List ℕ → ℤ → ℕ → Outcome
in_zones xs y ys z i = pick (every (zone_fine y ∷ zone_fine z ∷ [])) (entry_of (order_of xs y ys z) xs ys i) (RefusedIn 0 22 0)

-- "A refusal of 1 to 10 names the file": 1 or 2, and 0 for any other refusal
unfoldable pub newest_of : List ℕ → ℤ → List ℕ → ℤ → ℕ → Outcome
newest_of xs y ys z i = when_accepted (RefusedIn 1) (judged xs) (when_accepted (RefusedIn 2) (judged ys) (in_zones xs y ys z i))

-- ---- in the paper's numbers

-- 0, or the refusal's number; the file; the order's number, or the refusal's place
abbrev pub told_by : Outcome → List ℕ
told_by (Found f) = 0 ∷ f.file ∷ order_number f.order ∷ []
told_by (Err e) = e.refusal.number ∷ e.file ∷ e.refusal.place ∷ []

-- "is handed back as a part of that file .. every refusal hands back an empty part"
unfoldable pub part_of : List ℕ → List ℕ → Outcome → List ℕ
part_of xs ys (Found f) = take f.span (drop f.place (if_eq f.file 1 xs ys))
part_of xs ys (Err e) = []
