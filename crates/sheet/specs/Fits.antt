-- What the writers go by: a file whose entries fit a sheet. Every accepted file is one.
use Rattle.std.specs.Prelude.{ℕ, ◌≤◌, ◌<◌, ◌≡◌, List, length}
use Rattle.boxes.specs.Containers.{LONGEST}
use Rattle.boxes.specs.Boxes.{after}
use Rattle.movie.specs.Movie.{tracks as tracks_of, track}
use Rattle.movie.specs.Entries.{entries}
use Rattle.movie.specs.Named.{list_in}
use Rattle.sheet.specs.Sheet.{SLOTS}

pub record SheetFits (xs : List ℕ) : Type 0 where
  pub most : length xs ≤ LONGEST
  pub few : length (entries xs) ≤ SLOTS
  pub tracks : tracks_of xs ≤ 4
  pub tiled : (t : ℕ) → t < tracks_of xs → length (after (list_in (track xs t))) ≡ 0
