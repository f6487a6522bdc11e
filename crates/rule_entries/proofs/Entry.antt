-- What rule 10's answers say. Assumes nothing.
use Prim.Native.Nat.{ℕ, ◌+◌, ◌-◌}
use native.Mathlib.Omega.{arith}
use mathlib.Core.Path.{◌≡◌, refl, sym, ap, ◌∙◌}
use mathlib.Core.List.{List, [], ◌∷◌, ◌++◌, append_assoc}
use lib.ListN.{length, take, drop, length-append}
use lib.Seq.{take_at}
use Rattle.wire.specs.Numbers.{Bytes}
use Rattle.codes.specs.Codes.{TRAK}
use mathlib.Core.Bool.{Bool, true, false}
use Rattle.boxes.specs.declared.walk.Walk.{Walk}
use Rattle.boxes.specs.declared.walk.BoxAt.{BoxAt}
use Rattle.boxes.specs.Box.{Box, head, size, header}
use Rattle.boxes.specs.Boxes.{FRONT, boxes}
use Rattle.boxes.specs.Walk.{payload, box_at, Ran, Over}
use Rattle.boxes.specs.Seek.{meant}
use Rattle.boxes.proofs.Whole.{length_header}
use Rattle.boxes.proofs.Meaning.{meant_or, meant_yes, meant_no}
use Rattle.boxes.proofs.Seeking.{length_payload, ran_bytes}
use Rattle.movie.specs.Ways.{to_stsd, follow, start_along}
use Rattle.movie.specs.Stsds.{stsds_from}
use Rattle.movie.specs.Named.{list_in}
use Rattle.movie.proofs.Boxed.{stsds_hit, stsds_miss}
use Rattle.release.specs.declared.Release.{Release}
use Rattle.std.specs.Prelude.{Option}
use Rattle.entry_rules.specs.declared.entry.Around.{Around}
use Rattle.entry_rules.specs.Entries.{entry_rule}
use Rattle.rule.specs.Verdict.{sooner, unless, Verdict, Fine, Bad}
use Rattle.rule.specs.Judge.{judge_list}
use Rattle.rule.proofs.Places.{sooner_none}
use Rattle.rule.proofs.Traverse.{Found, found_none, found_over}
use Rattle.rule.proofs.Firsts.{listed_more, listed_bad, listed_over}
use Rattle.rule_entries.specs.Ten.{around_of, bytes_of, entry_fine, entries_judged, stsds_judged}

-- ---- one entry

-- the bytes of a box that a step found are its header and its payload
pub bytes_is : {xs : List ℕ} {at : ℕ} {b : BoxAt} {w : Walk} → Bytes xs → Ran xs at b w → bytes_of xs b ≡ header (box_at xs b) ++ payload xs b
bytes_is {xs} {at} {b} {w} v s =
    let n : b.at + b.span - b.at ≡ b.span = omega arith in
    let m : length (header (box_at xs b) ++ payload xs b) ≡ b.span = rw (length-append, length_header, length_payload s) (omega (arith, s.least, s.head)) in
    let d : drop b.at xs ≡ header (box_at xs b) ++ payload xs b ++ drop w.at xs = ap (λ (i : ℕ). drop i xs) s.start ∙ ran_bytes s v ∙ sym (append_assoc (header (box_at xs b)) (payload xs b) (drop w.at xs)) in
    rw n (ap (take b.span) d ∙ take_at (header (box_at xs b) ++ payload xs b) (drop w.at xs) b.span m)

-- ---- the loop over the entries of a list

abbrev pub entry_at : Option Around → Release → Box → ℕ → Verdict
entry_at a release x q = unless (entry_fine a release x) q

abbrev pub no_end : ℕ → Verdict
no_end q = Fine

-- every entry before a place meets its rule
abbrev pub Met : Option Around → Release → List ℕ → ℕ → ℕ → Type 0
Met a release xs base at = Found (entry_at a release) no_end xs base (entries_judged a release xs base) Fine at

pub entries_none : (a : Option Around) (release : Release) (xs : List ℕ) (base : ℕ) → Met a release xs base 0
unfolding entries_judged sooner
entries_none a release xs base = found_none (entry_at a release) no_end xs base Fine

module _ (a : Option Around) (release : Release) {xs : List ℕ} {base at : ℕ} (i : Met a release xs base at) where
  module _ (h : Bytes xs) {b : BoxAt} {w : Walk} (s : Ran xs at b w) {r : Bool} (e : r ≡ entry_rule a release (bytes_of xs b)) where
    own : r ≡ entry_fine a release (box_at xs b)
    own = e ∙ ap (λ (ys : List ℕ). entry_rule a release ys) (bytes_is h s)

    pub entries_more : r ≡ true → Met a release xs base w.at
    entries_more z = listed_more (entry_fine a release) i s (sym own ∙ z)

    pub entries_bad : r ≡ false → Bad (base + b.at) ≡ entries_judged a release xs base
    entries_bad z = listed_bad (entry_fine a release) i s (sym own ∙ z)

  pub entries_over : Over xs at → Fine ≡ entries_judged a release xs base
  entries_over o = listed_over (entry_fine a release) i o

-- ---- a box of `moov`

-- its entries: none where it is no `trak`
abbrev pub box_judged : Release → Box → ℕ → Verdict
box_judged release x p = stsds_judged release (stsds_from 0 (x ∷ []) p)

module _ (release : Release) (x : Box) (p : ℕ) where
  -- those of a track
  abbrev track_judged : Verdict
  track_judged = entries_judged (around_of x.body) release (drop FRONT (follow to_stsd x.body)) (p + head x + start_along to_stsd x.body + FRONT)

  box_hit : meant TRAK x.code ≡ 1 → box_judged release x p ≡ track_judged
  unfolding stsds_from stsds_judged
  box_hit e = rw (stsds_hit x e [] 0 p) (sooner_none track_judged)

  box_miss : meant TRAK x.code ≡ 0 → box_judged release x p ≡ Fine
  unfolding stsds_from stsds_judged
  box_miss e = rw (stsds_miss x e [] 0 p)

  -- as code asks
  pub box_track : x.code ≡ TRAK → {h : ℕ} → h ≡ head x → {v : Verdict} → v ≡ entries_judged (around_of x.body) release (list_in x.body) (p + h + start_along to_stsd x.body + FRONT) → v ≡ box_judged release x p
  unfolding list_in
  box_track e {h} w q =
      q ∙ ap (λ (n : ℕ). entries_judged (around_of x.body) release (list_in x.body) (p + n + start_along to_stsd x.body + FRONT)) w ∙ sym (box_hit (sym (meant_yes TRAK x.code (λ z. omega arith) e)))

  pub box_other : (x.code ≡ TRAK → ⊥) → Fine ≡ box_judged release x p
  box_other e = sym (box_miss (sym (meant_no TRAK x.code (λ z. omega arith) e)))

-- ---- the loop over the boxes of `moov`

by_boxes : (release : Release) (l : List Box) (t p : ℕ) → stsds_judged release (stsds_from t l p) ≡ judge_list (box_judged release) no_end l p
unfolding stsds_from stsds_judged judge_list sooner
by_boxes release [] t p = refl
by_boxes release (x ∷ l) t p =
    meant_or TRAK x.code
    (λ e. ap (stsds_judged release) (stsds_hit x e l t p) ∙ rw (box_hit release x p e, by_boxes release l (t + 1) (p + size x)))
    (λ e. ap (stsds_judged release) (stsds_miss x e l t p) ∙ rw (box_miss release x p e) (by_boxes release l t (p + size x)))

module _ (release : Release) (xs : List ℕ) (base : ℕ) where
  abbrev pub whole : Verdict
  whole = stsds_judged release (stsds_from 0 (boxes xs) base)

  pub stsds_none : Found (box_judged release) no_end xs base whole Fine 0
  unfolding sooner
  stsds_none = rw (by_boxes release (boxes xs) 0 base) (found_none (box_judged release) no_end xs base Fine)

  pub stsds_over : {found : Verdict} {at : ℕ} → Found (box_judged release) no_end xs base whole found at → Over xs at → found ≡ stsds_judged release (stsds_from 0 (boxes xs) base)
  stsds_over {found} i o = sym (sooner_none found) ∙ found_over (box_judged release) no_end xs base i o
