-- How long the entries of records are. Assumes nothing.
use Prim.Native.Nat.{ℕ}
use mathlib.Core.Path.{◌≡◌, refl}
use lib.ListN.{length}
use Rattle.wire.specs.Numbers.{bytes_on, bytes}
use Rattle.entry_heads.specs.Heads.{box_header, common_head, audio_head, visual_start, visual_head}
use Rattle.entry_records.specs.declared.field.Amr.{Amr}
use Rattle.entry_records.specs.declared.field.H263.{H263}
use Rattle.entry_records.specs.Texts.{amr_text, plain_text, rated_text}

pub amr_length : (f : Amr) → length (amr_text f) ≡ 53
unfolding amr_text audio_head common_head box_header bytes bytes_on
amr_length f = refl

pub plain_length : (span inner : ℕ) (f : H263) → length (plain_text span inner f) ≡ 101
unfolding plain_text visual_head visual_start common_head box_header bytes bytes_on
plain_length span inner f = refl

pub rated_length : (f : H263) → length (rated_text f) ≡ 117
unfolding rated_text plain_text visual_head visual_start common_head box_header bytes bytes_on
rated_length f = refl
