-- Rules 4 and 9 of the file that frames become. Assumes nothing.
use Prim.Native.Nat.{ℕ}
use mathlib.Core.Path.{◌≡◌, refl}
use mathlib.Core.Bool.{true}
use mathlib.Core.List.{List}
use Rattle.wire.specs.Tests.{if_eq, if_le}
use Rattle.wire.specs.Clauses.{is_eq, is_le, is_lt, every}
use Rattle.wire.specs.Numbers.{bytes_on, bytes, word}
use Rattle.wire.specs.Sums.{all_to}
use Rattle.boxes.specs.Box.{header, write}
use Rattle.boxes.specs.Boxes.{form_of, whole, boxes}
use Rattle.boxes.specs.Seek.{meant, count}
use Rattle.frames.specs.declared.codec.Codec.{Codec}
use Rattle.frames.specs.declared.codec.Codec.TheVariants.{Amr, Wideband}
use Rattle.rule.specs.Rule.{all_list}
use Rattle.rule_headers.specs.Forms.{brands_form, head_form, handler_form, if_box, form}
use Rattle.rule_headers.specs.Identities.{fresh, different}
use Rattle.rule_headers.specs.Four.{tracks_fine, four_rule}
use Rattle.rule_lists.specs.Nine.{is_url, all_urls, all_urls_in, nine_rule}
use Rattle.judge.specs.Acceptance.{Holds}
use Rattle.from_amr.specs.Fields.{fields}
use Rattle.from_amr.specs.Boxes.{ftyp, mvhd, tkhd, mdhd, hdlr, dref}
use Rattle.from_amr.specs.File.{file_of}
use Rattle.promise_amr.proofs.Reading.{Reads}
use Rattle.promise_amr.proofs.Ruled.{of_leaves, holds}

headers : (k : Codec) (l : List (List ℕ)) → of_leaves k l four_rule ≡ true
unfolding form if_box if_eq brands_form head_form handler_form every is_eq is_le is_lt ftyp mvhd tkhd mdhd hdlr fields bytes bytes_on word if_le
headers Amr l = refl
headers Wideband l = refl

module _ (k : Codec) (l : List (List ℕ)) (b : Reads k l) where
  -- one track has an ID of its own
  pub four : Holds four_rule (file_of k l)
  unfolding tracks_fine every if_eq different fresh all_to count meant
  four = holds k l b four_rule (rw b.moov.list) (headers k l) refl

  pub nine : Holds nine_rule (file_of k l)
  unfolding all_urls_in if_eq all_urls all_list is_url every is_eq dref fields bytes bytes_on word if_le boxes form_of whole write header
  nine = holds k l b nine_rule refl refl refl
