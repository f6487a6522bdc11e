-- Two lists of entries that are the same but for places and, at one number, bytes. Assumes nothing.
use Prim.Native.Nat.{ℕ, zero, suc, ◌+◌, ◌-◌, ◌≤◌}
use native.Mathlib.Omega.{arith}
use mathlib.Core.Path.{◌≡◌, refl, sym, ap, ◌∙◌}
use mathlib.Core.List.{List, [], ◌∷◌, ◌++◌, append_assoc, map, map-append}
use lib.ListN.{length, length-append, length-map}
use lib.Seq.{drop_at}
use Rattle.movie.specs.Entries.{Entry, entries}
use Rattle.movie.specs.Named.{bytes_at}
use Rattle.movie.proofs.Spots.{bytes_at_lem}
use Rattle.edit_replace.specs.Replace.{kind_at}
use Rattle.promise_differs.specs.OneEntry.{entry_with, OneEntry}

-- ---- wherever they stand

abbrev pub unplaced : Entry → Entry
unplaced e = record { track = e.track; place = 0; bytes = e.bytes }

abbrev pub bare : List Entry → List Entry
bare es = map unplaced es

bare_bytes : (j : ℕ) (es : List Entry) → bytes_at j (bare es) ≡ bytes_at j es
unfolding bytes_at
bare_bytes j [] = refl
bare_bytes zero (e ∷ es) = refl
bare_bytes (suc j) (e ∷ es) = bare_bytes j es

bare_tracks : (es : List Entry) → map (λ e. e.track) (bare es) ≡ map (λ e. e.track) es
bare_tracks [] = refl
bare_tracks (e ∷ es) = ap (λ (l : List ℕ). e.track ∷ l) (bare_tracks es)

-- ---- but for one

-- number i, from 0, has its bytes by f
pub record OneOf (f : List ℕ → List ℕ) (i : ℕ) (es ds : List Entry) : Type 0 where
  pub before : List Entry
  pub one : Entry
  pub past : List Entry
  pub was : bare es ≡ before ++ one ∷ past
  pub made : bare ds ≡ before ++ record { track = one.track; place = one.place; bytes = f one.bytes } ∷ past
  pub nth : length before ≡ i

module _ {f : List ℕ → List ℕ} {i : ℕ} (a b : List Entry) (e : bare b ≡ bare a) {es ds : List Entry} (r : OneOf f i es ds) where
  -- behind others
  pub one_behind : OneOf f (length a + i) (a ++ es) (b ++ ds)
  one_behind =
      record {
        before = bare a ++ r.before;
        one = r.one;
        past = r.past;
        was = rw (map-append, r.was) (sym (append_assoc (bare a) r.before _));
        made = rw (map-append, r.made, e) (sym (append_assoc (bare a) r.before _));
        nth = rw (length-append, length-map) (omega (arith, r.nth));
      }

  -- before others
  pub one_before : OneOf f i (es ++ a) (ds ++ b)
  one_before =
      record {
        before = r.before;
        one = r.one;
        past = r.past ++ bare a;
        was = rw (map-append, r.was) (append_assoc r.before (_ ∷ r.past) (bare a));
        made = rw (map-append, r.made, e) (append_assoc r.before (_ ∷ r.past) (bare a));
        nth = r.nth;
      }

-- ---- by number

other_at : (a : List Entry) (x y : Entry) (l : List Entry) (j : ℕ) → (j ≡ length a → ⊥) → bytes_at j (a ++ x ∷ l) ≡ bytes_at j (a ++ y ∷ l)
unfolding bytes_at
other_at [] x y l zero z = absurd (z refl)
other_at [] x y l (suc j) z = refl
other_at (w ∷ a) x y l zero z = refl
other_at (w ∷ a) x y l (suc j) z = other_at a x y l j (λ q. z (ap suc q))

length_one : (es a : List Entry) (x : Entry) (l : List Entry) → bare es ≡ a ++ x ∷ l → length es ≡ length a + suc (length l)
length_one es a x l e = sym (length-map es unplaced) ∙ ap length e ∙ length-append a (x ∷ l)

-- of two files
pub one_entry_lem : (xs : List ℕ) (i : ℕ) (new ys : List ℕ) → 1 ≤ i → OneOf (entry_with (kind_at xs i) new) (i - 1) (entries xs) (entries ys) → OneEntry xs i new ys
one_entry_lem xs i new ys h r =
    let was = length_one (entries xs) r.before r.one r.past r.was in
    let made = length_one (entries ys) r.before _ r.past r.made in
    let here : (x : Entry) → bytes_at (i - 1) (r.before ++ x ∷ r.past) ≡ x.bytes =
    λ x. bytes_at_lem (i - 1) _ (drop_at r.before (x ∷ r.past) (i - 1) r.nth) in
    record {
      first = h;
      last = omega (arith, r.nth);
      same = omega arith;
      there = rw (← bare_bytes (i - 1) (entries ys), ← bare_bytes (i - 1) (entries xs), r.was, r.made, here r.one) (here _);
      others = λ j z.
          rw (← bare_bytes j (entries ys), ← bare_bytes j (entries xs), r.was, r.made)
          (other_at r.before _ r.one r.past j (λ q. z (omega (arith, r.nth))));
      tracks = rw (← bare_tracks (entries ys), ← bare_tracks (entries xs), r.was, r.made) (simp map-append);
    }
