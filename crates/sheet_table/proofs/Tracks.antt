-- "track 0 or above the sheet's highest": the tracks that have no entry in a sheet of the form. Assumes nothing.
use Prim.Native.Nat.{ℕ, ◌+◌, ◌≤◌, ◌<◌}
use native.Mathlib.Omega.{arith}
use mathlib.Core.Path.{◌≡◌, refl, sym, ap, ◌∙◌}
use mathlib.Core.Bool.{true, false}
use mathlib.Core.List.{List, [], ◌∷◌}
use lib.ListN.{length}
use Rattle.wire.proofs.Tests.{both, eq_yea, eq_nay, eq_or, lt_or}
use Rattle.wire.proofs.Clauses.{is_le_lem, not_le, le_is, fails, holds, done, clause}
use Rattle.movie.specs.Entries.{Entry}
use Rattle.sheet_table.specs.Form.{unsheet, follows, steps, formed}
use Rattle.sheet_table.specs.Table.{own_entries, highest, has_track}

-- what a slot's track tells that follows one of track p
record Follows (p u : ℕ) : Type 0 where
  falls : p ≤ u
  skips : u ≤ p + 1
  first : 1 ≤ u

follows_is : (p u : ℕ) → follows p u ≡ true → Follows p u
unfolding follows
follows_is p u f = record { falls = le_is _ _ (clause 0 _ f); skips = le_is _ _ (clause 1 _ f); first = le_is _ _ (clause 2 _ f) }

steps_first : (p : ℕ) (e : Entry) (es : List Entry) → steps p (e ∷ es) ≡ true → Follows p e.track × (steps e.track es ≡ true)
unfolding steps
steps_first p e es s = let b = both (follows p e.track) (steps e.track es) s in (follows_is p e.track b.0, b.1)

own_other : (t : ℕ) (e : Entry) (es : List Entry) → (e.track ≡ t → ⊥) → own_entries t (e ∷ es) ≡ own_entries t es
unfolding own_entries
own_other t e es h = sym (eq_nay _ _ _ _ _ h refl)

own_first : (t : ℕ) (e : Entry) (es : List Entry) → e.track ≡ t → own_entries t (e ∷ es) ≡ e ∷ own_entries t es
unfolding own_entries
own_first t e es h = sym (eq_yea _ _ _ _ _ h refl)

-- ---- no entry

track_none : (p : ℕ) (es : List Entry) → steps p es ≡ true → own_entries 0 es ≡ []
unfolding own_entries
track_none p [] s = refl
track_none p (e ∷ es) s =
    let f = steps_first p e es s in
    own_other 0 e es (λ z. omega (arith, f.0.first)) ∙ track_none e.track es f.1

track_above : (t : ℕ) (es : List Entry) → highest es < t → own_entries t es ≡ []
unfolding own_entries highest
track_above t [] h = refl
track_above t (e ∷ es) h = own_other t e es (λ z. omega arith) ∙ track_above t es (omega arith)

-- ---- some entry

track_some : (p t : ℕ) (es : List Entry) → steps p es ≡ true → p < t → t ≤ highest es → 1 ≤ length (own_entries t es)
unfolding highest
track_some p t [] s l h = absurd (omega arith)
track_some p t (e ∷ es) s l h =
    let f = steps_first p e es s in
    eq_or e.track t
    (λ d. rw (own_first t e es d) (omega arith))
    (λ n. let u : e.track < t = omega (arith, f.0.skips) in rw (own_other t e es n) (track_some e.track t es f.1 u (omega arith)))

-- ---- a sheet's tracks are those of its entries

pub formed_steps : (xs : List ℕ) → formed xs ≡ true → steps 0 (unsheet xs) ≡ true
unfolding formed
formed_steps xs f = clause 3 _ f

module _ (t : ℕ) (es : List Entry) (s : steps 0 es ≡ true) where
  pub has_track_lem : 1 ≤ length (own_entries t es) → true ≡ has_track t es
  unfolding has_track
  has_track_lem h =
      holds _ _ (is_le_lem 1 t (lt_or 0 t (λ l. l) (λ l. let e : t ≡ 0 = omega arith in absurd (omega (arith, ap length (ap (λ (u : ℕ). own_entries u es) e ∙ track_none 0 es s))))))
      (holds _ _ (is_le_lem t (highest es) (lt_or (highest es) t (λ l. absurd (omega (arith, ap length (track_above t es l)))) (λ l. l))) done)

  pub no_track : length (own_entries t es) ≡ 0 → false ≡ has_track t es
  unfolding has_track
  no_track e =
      lt_or 0 t
      (λ l. fails 1 _ (not_le t (highest es) (lt_or (highest es) t (λ a. a) (λ a. absurd (omega (arith, track_some 0 t es s l a))))))
      (λ l. fails 0 _ (not_le 1 t (omega arith)))
