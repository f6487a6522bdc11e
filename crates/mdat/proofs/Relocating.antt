-- Laws of relocation, between files with the same payloads. Assumes nothing.
use Prim.Native.Nat.{ℕ, ◌+◌, ◌≤◌, ◌<◌}
use native.Mathlib.Omega.{arith}
use mathlib.Core.Path.{◌≡◌, refl, sym, ap, ◌∙◌}
use mathlib.Core.Bool.{true}
use mathlib.Core.List.{List, []}
use lib.ListN.{length, get_or, take, drop}
use Rattle.wire.proofs.Clauses.{is_le_lem, le_is}
use Rattle.boxes.specs.Box.{Box, write}
use Rattle.mdat.specs.Payloads.{mdats, Spot, nowhere, spot, resolve, place_of, fits, in_at}
use Rattle.mdat.specs.Relocate.{relocate}
use Rattle.mdat.proofs.Places.{There, there}
use Rattle.mdat.proofs.Resolving.{resolved}

-- ---- the n bytes from o on lie inside a payload

pub record Lies (l : List Box) (o n : ℕ) : Type 0 where
  pub j : ℕ
  pub i : ℕ
  pub found : resolve l o ≡ spot j i
  pub room : i + n ≤ length (get_or (mdats l) j [])

pub in_lies : (l : List Box) (o n : ℕ) → in_at l o n ≡ true → Lies l o n
unfolding in_at
in_lies l o n h = go (resolve l o) refl h
  where
    go : (s : Spot) → resolve l o ≡ s → fits (mdats l) n s ≡ true → Lies l o n
    go nowhere e f = let z : ◌≡◌ {A = ℕ} 0 1 = cc in absurd (omega arith)
    go (spot j i) e f = record { j = j; i = i; found = e; room = le_is _ _ f }

pub lies_in : {l : List Box} {o n : ℕ} → Lies l o n → in_at l o n ≡ true
unfolding in_at
lies_in s = rw s.found (is_le_lem _ _ s.room)

-- ---- where an offset goes

module _ (l m : List Box) (o : ℕ) where
  pub relocate_to : (j i : ℕ) → resolve l o ≡ spot j i → relocate l m o ≡ place_of m j i
  unfolding relocate
  relocate_to j i e = rw e

  pub relocate_out : resolve l o ≡ nowhere → relocate l m o ≡ o
  unfolding relocate
  relocate_out e = rw e

module _ (l m : List Box) (same : mdats l ≡ mdats m) where
  -- what stands at it, as far into the same payload
  lands : (o n : ℕ) (s : Lies l o n) → There m s.j s.i n
  lands o n s = there m s.j s.i n (rw (← same) (resolved l o s.j s.i s.found).which) (rw (← same) s.room)

  pub relocate_found : (o n : ℕ) (s : Lies l o n) → resolve m (relocate l m o) ≡ spot s.j s.i
  relocate_found o n s = rw (relocate_to l m o s.j s.i s.found) (lands o n s).back

  -- it is in a payload as before
  pub relocate_in : (o n : ℕ) → in_at l o n ≡ true → in_at m (relocate l m o) n ≡ true
  relocate_in o n h =
      let s = in_lies l o n h in
      lies_in (record { j = s.j; i = s.i; found = relocate_found o n s; room = rw (← same) s.room })

  -- it has the same bytes
  pub relocate_bytes : (o n : ℕ) → in_at l o n ≡ true → take n (drop o (write l)) ≡ take n (drop (relocate l m o) (write m))
  relocate_bytes o n h =
      let s = in_lies l o n h in
      let r = resolved l o s.j s.i s.found in
      let t = there l s.j s.i n r.which s.room in
      ap (λ (p : ℕ). take n (drop p (write l))) r.is
      ∙ t.bytes ∙ rw same (sym (lands o n s).bytes)
      ∙ ap (λ (p : ℕ). take n (drop p (write m))) (sym (relocate_to l m o s.j s.i s.found))

  -- it is a place of the file
  pub relocate_below : length (write m) < 4294967296 → (o : ℕ) → o < 4294967296 → relocate l m o < 4294967296
  relocate_below n o h = go (resolve l o) refl
    where
      go : (s : Spot) → resolve l o ≡ s → relocate l m o < 4294967296
      go nowhere e = rw (relocate_out l m o e) h
      go (spot j i) e =
          let t = resolved l o j i e in
          let w = lands o 0 (record { j = j; i = i; found = e; room = omega (arith, t.into) }) in
          rw (relocate_to l m o j i e) (omega (arith, w.high))
