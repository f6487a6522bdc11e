-- Any two results that the promise of a call allows are equal: each of them named, so that a promise that says less is refused here. Assumes nothing.
use Prim.Native.Nat.{ℕ}
use mathlib.Core.Path.{◌≡◌}
use mathlib.Core.List.{List}
use lib.IntN.{ℤ}
use Rattle.release.specs.declared.Release.{Release}
use Rattle.rule.specs.Results.{ToWrite, Exact}
use Rattle.rule.proofs.Results.{one_answer}
use Rattle.read_tracks.specs.Reads.{track_result, offsets_result}
use Rattle.read_samples.specs.Reads.{samples_result}
use Rattle.modes.specs.Track.{modes_result}
use Rattle.sheet.specs.Reader.{sheet_result}
use Rattle.sheet_table.specs.Table.{table_result}
use Rattle.listing.specs.Listing.{listing_result}
use Rattle.outline.specs.Outline.{outline_result}
use Rattle.entry_fields.specs.Numbers.{read_result, write_result}
use Rattle.edit_shift.specs.Shift.{shift_result}
use Rattle.edit_replace.specs.Replace.{replace_result}
use Rattle.edit_move.specs.Moving.{move_result}
use Rattle.rule.specs.Answers.{Answer}

-- what a call that comes to g may answer and leave is one answer and one room
abbrev pub One : ToWrite → Type 0
One g = (out : List ℕ) (r s : Answer) (a b : List ℕ) → Exact g out r a → Exact g out s b → (r ≡ s) × (a ≡ b)

pub one : (g : ToWrite) → One g
one g out r s a b x y = one_answer g out x y

module _ (file : List ℕ) where
  pub one_track : (t : ℕ) → One (track_result file t)
  one_track t = one _

  pub one_offsets : (t : ℕ) → One (offsets_result file t)
  one_offsets t = one _

  pub one_samples : (t : ℕ) → One (samples_result file t)
  one_samples t = one _

  pub one_modes : (t : ℕ) → One (modes_result file t)
  one_modes t = one _

  pub one_sheet : One (sheet_result file)
  one_sheet = one _

  pub one_listing : One (listing_result file)
  one_listing = one _

  pub one_outline : One (outline_result file)
  one_outline = one _

  pub one_shift : (z : ℤ) → One (shift_result z file)
  one_shift z = one _

  pub one_replace : (i : ℕ) (new : List ℕ) → One (replace_result file i new)
  one_replace i new = one _

  pub one_move : One (move_result file)
  one_move = one _

pub one_table : (sheet : List ℕ) (t : ℕ) → One (table_result sheet t)
one_table sheet t = one _

pub one_read : (release : Release) (entry : List ℕ) → One (read_result release entry)
one_read release entry = one _

pub one_write : (release : Release) (fields : List ℕ) → One (write_result release fields)
one_write release fields = one _
