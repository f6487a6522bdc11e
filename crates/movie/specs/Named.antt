-- An entry by its number, from 0 and in file order.
use Rattle.std.specs.Prelude.{ℕ, ◌+◌, ◌-◌, ◌≤◌, ◌<◌, ◌≡◌, List, [], ◌∷◌, ◌++◌, length, take, drop, Option, Some, None}
use Rattle.wire.specs.Tests.{if_eq, if_lt}
use Rattle.codes.specs.Codes.{MOOV, TRAK}
use Rattle.boxes.specs.declared.walk.BoxAt.{BoxAt}
use Rattle.boxes.specs.Boxes.{boxes, FRONT}
use Rattle.boxes.specs.Seek.{ANY, count, by_number, nth as nth_in, start_in, Cut}
use Rattle.movie.specs.declared.entry.EntryAt.{EntryAt}
use Rattle.movie.specs.declared.entry.Spot.{Spot}
use Rattle.movie.specs.Ways.{to_stsd, follow}
use Rattle.movie.specs.Movie.{movie, tracks, track as track_of}
use Rattle.movie.specs.Stsds.{Stsd, stsd_of, stsds_from}
use Rattle.movie.specs.Entries.{Entry, entries_of, entries_in, entries}

-- what stands past the front of the `stsd` of a track whose payload is b
unfoldable pub list_in : List ℕ → List ℕ
list_in b = drop FRONT (follow to_stsd b)

-- how many entries a box of `moov` holds: none where it is no `trak`
unfoldable pub held : ℕ → List ℕ → ℕ
held c b = if_eq c TRAK (count ANY (boxes (list_in b))) 0

-- the `stsd` of track t, from 0, and how far into the file its list starts
abbrev pub stsd_at : List ℕ → ℕ → Stsd
stsd_at xs t = stsd_of (t + 1) (track_of xs t) (start_in MOOV 0 (boxes xs) + start_in TRAK t (movie xs))

unfoldable pub list_start : List ℕ → ℕ → ℕ
list_start xs t = (stsd_at xs t).start + FRONT

-- entry i of the boxes of `moov` is entry n of track t, both from 0, wherever those boxes start
pub record InTrack (ys : List ℕ) (i t n : ℕ) : Type 0 where
  pub some : t < count TRAK (boxes ys)
  pub small : t ≤ length ys
  pub few : n < count ANY (boxes (list_in (nth_in TRAK t (boxes ys))))
  pub rest : ℕ → List Entry
  pub is : (p : ℕ) → drop i (entries_in (stsds_from 0 (boxes ys) p)) ≡ drop n (entries_of (stsd_of (t + 1) (nth_in TRAK t (boxes ys)) (p + start_in TRAK t (boxes ys)))) ++ rest p

-- track t and number n there
abbrev pub In : ℕ → ℕ → Option Spot
In t n = Some (record { track = t; nth = n })

abbrev pub SpotAs : List ℕ → ℕ → Option Spot → Type 0
SpotAs ys i (Some s) = InTrack ys i s.track s.nth
SpotAs ys i None = (p : ℕ) → length (entries_in (stsds_from 0 (boxes ys) p)) ≤ i

-- what an answer says of an entry
abbrev pub entry_as : List ℕ → EntryAt → Entry
entry_as xs e = record { track = e.track; place = e.place; bytes = take e.span (drop e.place xs) }

-- it is entry n of track t, both from 0: the box of that number there
pub record Placed (xs : List ℕ) (t n : ℕ) (e : EntryAt) : Type 0 where
  pub track : e.track ≡ t + 1
  pub nth : e.nth ≡ n
  pub box : BoxAt
  pub cut : Cut (list_in (track_of xs t)) ANY n box
  pub span : e.span ≡ box.span
  pub place : e.place ≡ list_start xs t + box.at

unfoldable pub PlacedAs : List ℕ → ℕ → ℕ → Option EntryAt → Type 0
PlacedAs xs t n (Some e) = Placed xs t n e
PlacedAs xs t n None = count ANY (boxes (list_in (track_of xs t))) ≤ n

-- it is entry i: those from number i on are it and those from i + 1 on
pub record EntryIs (xs : List ℕ) (i : ℕ) (e : EntryAt) : Type 0 where
  pub is : drop i (entries xs) ≡ entry_as xs e ∷ drop (i + 1) (entries xs)
  pub inside : e.place + e.span ≤ length xs
  pub first : 1 ≤ e.track
  pub last : e.track ≤ tracks xs

unfoldable pub NamedAs : List ℕ → ℕ → Option EntryAt → Type 0
NamedAs xs i (Some e) = EntryIs xs i e
NamedAs xs i None = length (entries xs) ≤ i

-- ---- the same as functions

-- in which track the entry i of those `stsd`s is, and its number there, both from 0
unfoldable pub spot_in : List Stsd → ℕ → Option Spot
spot_in [] i = None
spot_in (s ∷ l) i = if_lt i (length (entries_of s)) (In (s.track - 1) i) (spot_in l (i - length (entries_of s)))

-- the bytes of entry i, and none where there is no such entry
unfoldable pub bytes_at : ℕ → List Entry → List ℕ
bytes_at i [] = []
bytes_at i (e ∷ es) = by_number i e.bytes (λ j. bytes_at j es)
