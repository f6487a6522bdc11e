-- Where the lists of sample entries of a file stand, one for each track.
use Rattle.std.specs.Prelude.{ℕ, ◌<◌, ◌≡◌, List}
use Rattle.wire.specs.Tests.{if_eq}
use Rattle.boxes.specs.Boxes.{boxes}
use Rattle.boxes.specs.Seek.{ANY, count}
use Rattle.movie.specs.Movie.{track, tracks as tracks_of}
use Rattle.movie.specs.Named.{list_in, list_start}
use Rattle.layout.specs.declared.gather.Slot.{Slot}
use Rattle.layout.specs.declared.entries.Lists.{Lists}
use Rattle.layout.specs.Slots.{slot_in, Lies}

-- the slot s of the file xs is the list of track t, from 0, and counts its entries
pub record ListAt (xs : List ℕ) (t : ℕ) (s : Slot) : Type 0 where
  pub lies : Lies xs s
  pub is : slot_in xs s ≡ list_in (track xs t)
  pub counted : s.n ≡ count ANY (boxes (list_in (track xs t)))
  pub place : 0 < s.n → s.from ≡ list_start xs t

-- the one of track t, of four
unfoldable pub list_slot : Lists → ℕ → Slot
list_slot l t = if_eq t 0 l.one (if_eq t 1 l.two (if_eq t 2 l.three l.four))

pub record ListsAt (xs : List ℕ) (l : Lists) : Type 0 where
  pub tracks : l.tracks ≡ tracks_of xs
  pub one : ListAt xs 0 l.one
  pub two : ListAt xs 1 l.two
  pub three : ListAt xs 2 l.three
  pub four : ListAt xs 3 l.four
