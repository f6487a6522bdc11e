-- What a salvage leaves; and what a recorder leaves that dies while it writes the file of frames.
use Rattle.std.specs.Prelude.{ℕ, ◌-◌, ◌<◌, ◌≡◌, false, List, [], ◌∷◌, ◌++◌, length, take, drop}
use Rattle.wire.specs.Tests.{if_le}
use Rattle.codes.specs.Codes.{MDAT}
use Rattle.boxes.specs.declared.walk.Form.TheVariants.{Open}
use Rattle.boxes.specs.Box.{write}
use Rattle.frames.specs.declared.codec.Codec.{Codec}
use Rattle.frames.specs.Frames.{good, joined}
use Rattle.from_amr.specs.File.{ftyp_box}
use Rattle.from_amr.specs.Dump.{MOST_FRAMES}
use Rattle.salvage.specs.Salvage.{payload_of, kept_frames, kept, dropped, first_dropped}
use Rattle.promise_kept.specs.Samples.{samples}
use Rattle.promise_amr.specs.Made.{Recording}

-- a file ys that is salvaged from xs: the recording of the kept frames. "Kept bytes and dropped bytes make up the payload": those dropped
-- stand at the file's end, from the place on that is told, and start with a bad frame where fewer than the most are kept
pub record Salvaged (k : Codec) (xs ys : List ℕ) : Type 0 where
  pub recording : Recording k (kept_frames k xs) ys
  pub joined : joined (samples ys 0) ≡ kept k xs
  pub split : kept k xs ++ dropped k xs ≡ payload_of xs
  pub first : drop (first_dropped k xs) xs ≡ dropped k xs
  pub until : length (kept_frames k xs) < MOST_FRAMES → good k (dropped k xs) ≡ false

-- the file of frames as it stands after n bytes of them: its `ftyp`, its `mdat` with size 0, and these bytes
unfoldable pub cut_after : ℕ → List (List ℕ) → List ℕ
cut_after n l = write (ftyp_box ∷ record { form = Open; code = MDAT; body = take n (joined l) } ∷ [])

-- the frames that lie whole in the first n bytes of them
unfoldable pub whole_in : ℕ → List (List ℕ) → List (List ℕ)
whole_in n [] = []
whole_in n (f ∷ l) = if_le (length f) n (f ∷ whole_in (n - length f) l) []
