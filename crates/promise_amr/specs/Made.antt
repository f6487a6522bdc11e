-- What a file that is made of frames is, and one that is made of a dump.
use Rattle.std.specs.Prelude.{ℕ, ◌≡◌, true, Some, List, [], ◌∷◌}
use Rattle.wire.specs.Numbers.{Bytes}
use Rattle.codes.specs.Codes.{STTS, GP6}
use Rattle.movie.specs.Movie.{tracks, track, sample_table, scale, movie_ticks}
use Rattle.movie.specs.Entries.{Entry, entries}
use Rattle.sample_tables.specs.Times.{media_ticks}
use Rattle.release.specs.declared.Release.TheVariants.{Release6}
use Rattle.entry_records.specs.declared.field.Record.TheVariants.{Speech}
use Rattle.entry_records.specs.Texts.{amr_text}
use Rattle.entry_records.specs.Records.{read_of}
use Rattle.frames.specs.declared.codec.Codec.{Codec}
use Rattle.frames.specs.Frames.{frames, joined}
use Rattle.frames.specs.Modes.{mode_set}
use Rattle.judge.specs.Judgement.{judged, Accepted}
use Rattle.judge.specs.Acceptance.{editable}
use Rattle.brands.specs.Calls.{brand_answer}
use Rattle.from_amr.specs.Boxes.{scale_by, entry_by}
use Rattle.from_amr.specs.File.{ticks_of}
use Rattle.from_amr.specs.Dump.{opens, without_magic}
use Rattle.promise_kept.specs.Samples.{samples}
use Rattle.rule.specs.Answers.{Done}

-- its one entry stands where the paper's printed listing has it
abbrev pub entry_of : Codec → List (List ℕ) → Entry
entry_of k l = record { track = 1; place = 397; bytes = amr_text (entry_by k (mode_set l)) }

-- a file ys of the frames l: it is accepted, and edits take it; the samples of its one track are the frames, each of the codec's ticks;
-- its one entry reads back as the record with the frames' modes; and `3gp6` answers yes
pub record Recording (k : Codec) (l : List (List ℕ)) (ys : List ℕ) : Type 0 where
  pub accepted : judged ys ≡ Accepted
  pub editable : editable ys ≡ true
  pub bytes : Bytes ys
  pub tracks : tracks ys ≡ 1
  pub samples : samples ys 0 ≡ l
  pub scale : scale (track ys 0) ≡ scale_by k
  pub media : media_ticks (sample_table STTS (track ys 0)) ≡ ticks_of k l
  pub movie : movie_ticks (track ys 0) ≡ ticks_of k l
  pub entry : entries ys ≡ entry_of k l ∷ []
  pub reads : read_of Release6 (entry_of k l).bytes ≡ Some (Speech (entry_by k (mode_set l)))
  pub brand : brand_answer ys GP6 ≡ Done 1

-- a file ys of the dump xs: "the samples, joined, are the dump without its magic"
pub record FromDump (xs ys : List ℕ) : Type 0 where
  pub codec : Codec
  pub opens : opens codec xs ≡ true
  pub recording : Recording codec (frames codec (without_magic codec xs)) ys
  pub joined : joined (samples ys 0) ≡ without_magic codec xs
