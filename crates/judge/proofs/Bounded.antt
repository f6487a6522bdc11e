-- Rules 5, 9 and 10 name places of what they judge. Assumes nothing.
use Prim.Native.Nat.{ℕ, ◌+◌, ◌≤◌}
use native.Mathlib.Omega.{arith}
use mathlib.Core.Path.{◌≡◌, refl, subst}
use mathlib.Core.List.{List, [], ◌∷◌}
use lib.ListN.{length, drop, length-drop, drop_of_length-le}
use Rattle.wire.proofs.Tests.{le_yea, le_nay, lt_or}
use Rattle.codes.specs.Codes.{MOOV, TRAK, MDIA, MINF, DINF, DREF, STBL, STSD}
use Rattle.boxes.specs.Box.{Box, size}
use Rattle.boxes.specs.Boxes.{FRONT, boxes, total}
use Rattle.boxes.specs.Seek.{nth, find}
use Rattle.boxes.proofs.Whole.{short_not}
use Rattle.boxes.proofs.Reading.{boxes_stop}
use Rattle.boxes.proofs.Placing.{total_is, place_most, start_most}
use Rattle.movie.specs.Ways.{follow, start_along, place_along}
use Rattle.movie.specs.Movie.{stored_count}
use Rattle.movie.specs.Stsds.{Stsd, stsds_from}
use Rattle.movie.proofs.Stsds.{Each, each_from}
use Rattle.movie.proofs.Stsds.Each.{none as no_more, more}
use Rattle.release.specs.declared.Release.{Release}
use Rattle.std.specs.Prelude.{Option}
use Rattle.entry_rules.specs.declared.entry.Around.{Around}
use Rattle.rule.specs.Verdict.{unless, Verdict, Fine}
use Rattle.rule.specs.Judge.{judge_list}
use Rattle.rule.proofs.Bounds.{named, Bounded, sooner_most, unless_most, if_most, list_most}
use Rattle.rule_lists.specs.Five.{list_form_in, MOST, passing, five}
use Rattle.rule_lists.specs.Nine.{is_url, url_at, nine}
use Rattle.rule_entries.specs.Ten.{around_of, entry_fine, entries_judged, stsds_judged, ten_at, ten}

-- ---- a list of boxes behind the first n bytes of a payload that starts at q

listed_most : (f : Box → ℕ → Verdict) → ((x : Box) (p : ℕ) → named (f x p) ≤ p + size x)
    → (n : ℕ) (b : List ℕ) (q : ℕ) → named (judge_list f (λ i. Fine) (boxes (drop n b)) (q + n)) ≤ q + length b
unfolding judge_list
listed_most f h n b q =
    lt_or (length b) n
    (λ k. let e : boxes (drop n b) ≡ [] = rw (drop_of_length-le b {i = n} (omega arith)) (boxes_stop [] (short_not [] (omega arith))) in rw e (omega arith))
    (λ k. list_most (q + length b) f (λ i. Fine) h (boxes (drop n b)) (q + n) (omega (arith, total_is (drop n b), length-drop n b)) (λ i e. omega arith))

-- ---- the `stsd`s

-- the payload at the end of a way lies inside
along_inside : (cs b : List ℕ) → start_along cs b + length (follow cs b) ≤ length b
unfolding follow start_along
along_inside [] b = omega arith
along_inside (c ∷ cs) b = omega (arith, total_is b, start_most c 0 (boxes b), along_inside cs (find c (boxes b)))

along_most : (c : ℕ) (cs b : List ℕ) → place_along (c ∷ cs) b ≤ length b
unfolding place_along
along_most c [] b = omega (arith, total_is b, place_most c 0 (boxes b))
along_most c (d ∷ cs) b = omega (arith, total_is b, start_most c 0 (boxes b), along_most d cs (find c (boxes b)))

-- its place, and all of its payload, lie before place m
record Within (m : ℕ) (s : Stsd) : Type 0 where
  place : s.place ≤ m
  whole : s.start + length s.body ≤ m

within_each : (m t : ℕ) (l : List Box) (p : ℕ) → p + total l ≤ m → Each (Within m) t (stsds_from t l p)
within_each m t l p h =
    each_from (Within m) l t p
    (λ n k.
    let b = nth TRAK n l in
    let s = start_most TRAK n l in
    record {
      place = omega (arith, along_most MDIA (MINF ∷ STBL ∷ STSD ∷ []) b);
      whole = omega (arith, along_inside (MDIA ∷ MINF ∷ STBL ∷ STSD ∷ []) b);
    })

-- ---- rule 5

passing_most : (m most n : ℕ) {t : ℕ} {l : List Stsd} → Each (Within m) t l → named (passing most n l) ≤ m
unfolding passing
passing_most m most n no_more = omega arith
passing_most m most n (more {s = s} {l = l} e w a) =
    lt_or most (n + stored_count s.body)
    (λ k. subst (λ (v : Verdict). named v ≤ m) (le_nay _ _ _ _ _ k refl) w.place)
    (λ k. subst (λ (v : Verdict). named v ≤ m) (le_yea _ _ _ _ _ k refl) (passing_most m most (n + stored_count s.body) a))

pub five_bounded : Bounded five
five_bounded =
    record {
      leaf = λ k c b p q h. unless_most _ (list_form_in k c b) p (omega arith);
      node = λ k xs home p h. if_most _ k MOOV _ (passing_most _ MOST 0 (within_each _ 0 (boxes xs) p (omega (arith, total_is xs))));
      end = λ xs p. omega arith;
    }

-- ---- rule 9

pub nine_bounded : Bounded nine
nine_bounded =
    record {
      leaf = λ k c b p q h.
          if_most _ k DINF _ (if_most _ c DREF _
          (listed_most url_at (λ x i. unless_most _ (is_url x.code x.body) i (omega arith)) FRONT b q));
      node = λ k xs home p h. omega arith;
      end = λ xs p. omega arith;
    }

-- ---- rule 10

entries_most : (m : ℕ) (a : Option Around) (release : Release) (s : Stsd) → Within m s → named (entries_judged a release (drop FRONT s.body) (s.start + FRONT)) ≤ m
unfolding entries_judged
entries_most m a release s w = omega (arith, w.whole, listed_most (λ x i. unless (entry_fine a release x) i) (λ x i. unless_most _ (entry_fine a release x) i (omega arith)) FRONT s.body s.start)

judged_most : (m : ℕ) (release : Release) {t : ℕ} {l : List Stsd} → Each (Within m) t l → named (stsds_judged release l) ≤ m
unfolding stsds_judged
judged_most m release no_more = omega arith
judged_most m release (more {s = s} e w a) = sooner_most m _ _ (entries_most m (around_of s.trak) release s w) (judged_most m release a)

pub ten_bounded : (release : Release) → Bounded (ten release)
unfolding ten_at
ten_bounded release =
    record {
      leaf = λ k c b p q h. omega arith;
      node = λ k xs home p h. if_most _ k MOOV _ (judged_most _ release (within_each _ 0 (boxes xs) p (omega (arith, total_is xs))));
      end = λ xs p. omega arith;
    }
