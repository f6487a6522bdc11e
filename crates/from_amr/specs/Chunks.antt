-- The one chunk of a file, as code holds it beside the bytes of its frames.
use Rattle.std.specs.Prelude.{ℕ, ◌≤◌, List}
use Rattle.frames.specs.Modes.{RunOf}
use Rattle.from_amr.specs.declared.chunk.Chunk.{Chunk}

-- of the frames l, no more than the most
pub record ChunkOf (l : List (List ℕ)) (k : Chunk) : Type 0 where
  pub told : RunOf l k.run
  pub few : k.run.count ≤ 65536
