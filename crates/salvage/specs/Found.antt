-- What the code has found once the tests of the file hold.
use Rattle.std.specs.Prelude.{ℕ, ◌+◌, ◌≤◌, ◌≡◌, true, List, length}
use Rattle.boxes.specs.Boxes.{HEAD}
use Rattle.boxes.specs.Containers.{LONGEST}
use Rattle.rule.specs.Results.{length_fine}
use Rattle.frames.specs.declared.codec.Codec.{Codec}
use Rattle.frames.specs.declared.run.Run.{Run}
use Rattle.frames.specs.Modes.{RunOf}
use Rattle.from_amr.specs.Dump.{MOST_FRAMES}
use Rattle.salvage.specs.Unfinished.{size_field, unfinished}
use Rattle.salvage.specs.Salvage.{kept_frames}

-- where the payload starts, and the run of what is kept, which ends inside
pub record Found (k : Codec) (xs : List ℕ) (start : ℕ) (run : Run) : Type 0 where
  pub fine : length_fine xs ≡ true
  pub most : length xs ≤ LONGEST
  pub such : unfinished xs ≡ true
  pub starts : start ≡ size_field xs + HEAD
  pub frames : RunOf (kept_frames k xs) run
  pub some : 1 ≤ run.count
  pub few : run.count ≤ MOST_FRAMES
  pub inside : start + run.bytes ≤ length xs
