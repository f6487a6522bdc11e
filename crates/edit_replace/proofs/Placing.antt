-- The place of an entry: what is written there, and the kind of what stands there. Assumes nothing.
use Rattle.std.specs.Prelude.{Option, None}
use Prim.Native.Nat.{ℕ, ◌-◌}
use mathlib.Core.Path.{◌≡◌, refl, sym, ap, subst, ◌∙◌}
use mathlib.Core.Bool.{false}
use mathlib.Core.List.{List, ◌++◌}
use Rattle.wire.specs.Tests.{if_eq}
use Rattle.wire.specs.Numbers.{Bytes, word}
use Rattle.wire.proofs.Tests.{eq_nay}
use Rattle.codes.specs.Codes.{MOOV, TRAK}
use Rattle.boxes.specs.declared.walk.BoxAt.{BoxAt}
use Rattle.boxes.specs.Box.{Box, header}
use Rattle.boxes.specs.Boxes.{HEAD, boxes}
use Rattle.boxes.specs.Walk.{payload, box_at}
use Rattle.boxes.specs.Seek.{ANY, find, nth, start_in, Cut}
use Rattle.boxes.specs.Way.{around, over_nth, over_turn, edit_way, tail_by}
use Rattle.boxes.proofs.Whole.{Good}
use Rattle.boxes.proofs.Reading.{parts}
use Rattle.boxes.proofs.Every.{all_here}
use Rattle.boxes.proofs.Turning.{nth_at}
use Rattle.boxes.proofs.Cutting.{cut_payload}
use Rattle.movie.specs.declared.entry.Spot.{Spot}
use Rattle.movie.specs.Movie.{track}
use Rattle.movie.specs.Stsds.{stsds_from, stsds}
use Rattle.movie.specs.Entries.{entries}
use Rattle.movie.specs.Named.{list_in, spot_in, bytes_at, In}
use Rattle.movie.proofs.Asking.{spot_past, named_none}
use Rattle.movie.proofs.Naming.{bytes_list, cut_is}
use Rattle.movie.proofs.Spots.{bytes_at_lem}
use Rattle.entry_heads.specs.Kinds.{kind_of}
use Rattle.entry_heads.specs.Heads.{head_size}
use Rattle.rule.specs.Results.{Exact}
use Rattle.rule.proofs.Results.{test_not}
use Rattle.judge.specs.Acceptance.{Meets}
use Rattle.edit_offsets.specs.Close.{shut_at, closed}
use Rattle.edit_offsets.specs.Settle.{settled}
use Rattle.edit_replace.specs.declared.place.Place.{Place}
use Rattle.edit_replace.specs.Replace.{kind_at, record_code, takes, record_at, record_replaced, replace_of}
use Rattle.edit_replace.specs.Places.{Found, FoundAs, Within, way_in, record_there, place_text, place_result}
use Rattle.edit_replace.specs.Fitting.{entry_result}
use Rattle.edit_replace.proofs.Shutting.{payload_is, around_is, cut_shut}
use Rattle.edit_replace.proofs.Taking.{code_told, kind_none, takes_none}
use Rattle.rule.specs.Answers.{Answer, Refused}

-- ---- what is written there

pub record_in : (xs : List ℕ) (b : BoxAt) (p : Place) (i : Within xs b p) (keep : ℕ) (new : List ℕ) → Bytes xs → Meets xs
    → record_there xs (shut_at b) p keep new ≡ record_at (In i.t p.nth) keep new (closed xs)
unfolding record_there edit_way over_turn
record_in xs b p i keep new v m =
    let g : List ℕ → List ℕ = λ ys. edit_way (way_in p.nth) (tail_by keep new) ys in
    let h : List ℕ → List ℕ = λ ys. over_nth TRAK i.t g ys in
    ap (around xs (shut_at b)) (nth_at TRAK i.t g (payload xs b) i.place.trak) ∙ around_is xs v m i.moov (h (payload xs b))
    ∙ ap (λ (ys : List ℕ). around (closed xs) (shut_at b) (h ys)) (sym (payload_is xs v m i.moov)) ∙ nth_at MOOV 0 h (closed xs) (cut_shut xs v m i.moov)

-- ---- the entry there is entry i

module _ (xs : List ℕ) (i : ℕ) (new : List ℕ) {b : BoxAt} (c : Cut xs MOOV 0 b) where
  moov_is : payload xs b ≡ find MOOV (boxes xs)
  moov_is = cut_payload xs MOOV 0 b c

  module _ {p : Place} (f : Found (payload xs b) (i - 1) p) where
    pub within : Within xs b p
    within = record { t = f.t; moov = c; place = f.place }

    track_is : payload (payload xs b) p.trak ≡ track xs f.t
    unfolding track
    track_is = cut_payload (payload xs b) TRAK f.t p.trak f.place.trak ∙ ap (λ (ys : List ℕ). nth TRAK f.t (boxes ys)) moov_is

    module _ (v : Bytes xs) (m : Meets xs) (z : i ≡ 0 → ⊥) where
      entry_cut : Cut (list_in (track xs f.t)) ANY p.nth p.entry
      entry_cut = rw track_is at f.place.entry

      abbrev x : Box
      x = box_at (list_in (track xs f.t)) p.entry

      bytes_are : bytes_at (i - 1) (entries xs) ≡ header x ++ x.body
      bytes_are = bytes_at_lem (i - 1) (entries xs) (cut_is xs v (rw moov_is at f.within) entry_cut)

      good : Good x
      good = all_here entry_cut.p x entry_cut.q (rw entry_cut.list at (parts (list_in (track xs f.t)) (bytes_list xs f.t v)).good)

      kind_is : kind_of p.entry.code ≡ kind_at xs i
      unfolding kind_at
      kind_is = eq_nay _ _ _ _ _ z (ap kind_of (sym (ap (λ (ys : List ℕ). word 4 ys 4) bytes_are ∙ code_told x good)))

      text_is : place_text xs b p (kind_at xs i) new ≡ replace_of xs i new
      unfolding place_text replace_of record_replaced stsds
      text_is =
          let q = start_in MOOV 0 (boxes xs) in
          let n : ℕ = head_size (kind_at xs i) - HEAD in
          let a : record_there xs (shut_at b) p n new ≡ record_at (In f.t p.nth) n new (closed xs) = record_in xs b p (record { t = f.t; moov = c; place = f.place }) n new v m in
          let u : In f.t p.nth ≡ spot_in (stsds xs) (i - 1) = f.spot q ∙ ap (λ (m : List ℕ). spot_in (stsds_from 0 (boxes m) q) (i - 1)) moov_is in
          ap (settled xs) a ∙ ap (λ (s : Option Spot). settled xs (record_at s n new (closed xs))) u

      pub place_exact : {out left : List ℕ} {r : Answer} → Exact (place_result xs b p (kind_of p.entry.code) new) out r left → Exact (entry_result xs i new) out r left
      unfolding place_result entry_result
      place_exact e = rw (kind_is, text_is) at e

  -- ---- there is none

  none_takes : 0 ≡ kind_at xs i → takes (kind_at xs i) new ≡ false
  unfolding record_code if_eq
  none_takes e = rw (← e) (takes_none 0 new {code = 0} refl refl)

  pub none_exact : 0 ≡ kind_at xs i → (out : List ℕ) → Exact (entry_result xs i new) out (Refused 20 0) out
  unfolding entry_result
  none_exact e out = test_not 20 _ _ _ out (none_takes e)

  pub nowhere_exact : (r : Option Place) → FoundAs (payload xs b) (i - 1) r → r ≡ None → (out : List ℕ) → Exact (entry_result xs i new) out (Refused 20 0) out
  unfolding FoundAs
  nowhere_exact r s e out = let g = subst (FoundAs (payload xs b) (i - 1)) e s in none_exact (kind_none xs i (named_none xs (i - 1) _ (spot_past xs moov_is (i - 1) None g refl) refl)) out
