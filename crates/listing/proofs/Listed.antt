-- Laws of the lines of a file. Assumes nothing.
use Rattle.std.specs.Prelude.{Option, Some, None}
use Prim.Native.Nat.{ℕ, ◌+◌, ◌-◌, ◌≤◌, ◌<◌}
use native.Mathlib.Omega.{arith}
use native.Mathlib.Numerals.{add-one}
use mathlib.Core.Path.{◌≡◌, refl, sym, ◌∙◌}
use mathlib.Core.Bool.{Bool}
use mathlib.Core.List.{List, [], ◌∷◌, ◌++◌}
use lib.ListN.{length, take, drop, length-take, length-drop, drop_of_length-le}
use lib.Seq.{drop-drop}
use Rattle.wire.specs.Writing.{Put, Rest}
use Rattle.wire.specs.Numbers.{word}
use Rattle.wire.specs.Clauses.{one_if}
use Rattle.codes.specs.Codes.{STTS}
use Rattle.wire.proofs.Writing.{pen_none, pen_then, pen_is}
use Rattle.wire.proofs.Resting.{rest_all, rest_more, rest_none}
use Rattle.sample_tables.specs.declared.time.MediaTicks.{MediaTicks}
use Rattle.sample_tables.specs.Times.{media_ticks}
use Rattle.movie.specs.declared.entry.EntryAt.{EntryAt}
use Rattle.movie.specs.Movie.{tracks, track, sample_table, handler, scale}
use Rattle.movie.specs.Entries.{Entry, entries}
use Rattle.movie.specs.Named.{entry_as, NamedAs}
use Rattle.movie.proofs.Asking.{named_at, named_none}
use Rattle.rule_shape.proofs.Descent.{tracks_few}
use Rattle.layout.specs.declared.every.ReadTrack.{ReadTrack}
use Rattle.layout.specs.Slots.{slot_in}
use Rattle.layout.specs.Every.{TrackAt}
use Rattle.judge.specs.Acceptance.{Meets}
use Rattle.brands.specs.Brands.{brand_holds}
use Rattle.read_tracks.specs.Tracks.{Readable}
use Rattle.read_tracks.proofs.Accepted.{readable}
use Rattle.read_tracks.proofs.Reading.{media_is}
use Rattle.listing.specs.Lines.{track_line, entry_named, entry_placed, entry_line, brand_line}
use Rattle.listing.specs.Listing.{line_of, track_lines, entry_lines, first_line, brand_of}

-- ---- tracks

-- an accepted file has 1 to 4
pub few_tracks : {xs : List ℕ} → Meets xs → tracks xs ≤ 4
few_tracks {xs} m = (tracks_few xs m.three).1

pub track_read : (xs : List ℕ) → Meets xs → (t : ℕ) {b : List ℕ} → t < tracks xs → b ≡ track xs t → Readable b
track_read xs m t h e = rw e (readable xs m t h)

-- the slot of its `stts`
pub stts_is : {xs : List ℕ} (t : ℕ) {k : ReadTrack} → TrackAt xs t k → {ys : List ℕ} → ys ≡ slot_in xs k.stts → ys ≡ sample_table STTS (track xs t)
unfolding sample_table
stts_is t a f = f ∙ a.stts.is

pub line_of_lem : (t : ℕ) (b : List ℕ) {stts : List ℕ} {h s : ℕ} {m : MediaTicks} → stts ≡ sample_table STTS b → h ≡ handler b → m.0 ≡ media_ticks stts → s ≡ scale b
    → {out after : List ℕ} {at r : ℕ} → Put (track_line t h m s) out at r after → Put (line_of t b) out at r after
unfolding line_of
line_of_lem t b f h m s p = pen_is (rw (h, media_is b f m, s)) p

module _ (xs : List ℕ) {out : List ℕ} {from : ℕ} where
  pub tracks_none : Put (track_lines xs 0) out from from out
  unfolding track_lines
  tracks_none = pen_none out from

  pub tracks_more : (n : ℕ) {b mid after : List ℕ} {m r : ℕ} → Put (track_lines xs n) out from m mid → b ≡ track xs n → Put (line_of (n + 1) b) mid m r after → Put (track_lines xs (n + 1)) out from r after
  unfolding track_lines
  tracks_more n p e q = rw add-one (pen_then p (rw e at q))

-- ---- entries

-- what was found of an entry, printed
pub found_line : (xs : List ℕ) (i track place span : ℕ) {n c : ℕ} → place + span ≤ length xs → n ≡ place + span → c ≡ word 4 (take (n - place) (drop place xs)) 4
    → {out mid after : List ℕ} {at m r : ℕ} → Put (entry_named i track c) out at m mid → Put (entry_placed place span) mid m r after
    → Put (entry_line i (record { track = track; place = place; bytes = take span (drop place xs) })) out at r after
unfolding entry_line
found_line xs i track place span h e f p q =
    let z : place + span - place ≡ span = omega arith in
    let l : length (take span (drop place xs)) ≡ span = length-take span (drop place xs) ∙ rw length-drop (omega arith) in
    pen_is (rw (f, e, z, l)) (pen_then p q)

module _ (xs : List ℕ) (i : ℕ) {r : Option EntryAt} (s : NamedAs xs i r) {out : List ℕ} {at : ℕ} where
  pub entry_found : (e : EntryAt) → r ≡ Some e → {after : List ℕ} {n : ℕ} → Put (entry_line (i + 1) (entry_as xs e)) out at n after → Put (first_line (i + 1) (drop i (entries xs))) out at n after
  unfolding first_line
  entry_found e f p = pen_is (sym (rw (named_at xs i r s e f).is)) p

  pub entry_missing : r ≡ None → Put (first_line (i + 1) (drop i (entries xs))) out at at out
  unfolding first_line
  entry_missing f = pen_is (sym (rw (drop_of_length-le (entries xs) {i = i} (named_none xs i r s f)))) (pen_none out at)

first_then : (i : ℕ) (es : List Entry) → entry_lines i es ≡ first_line i es ++ entry_lines (i + 1) (drop 1 es)
unfolding entry_lines first_line
first_then i [] = refl
first_then i (e ∷ es) = refl

module _ (es : List Entry) (out₀ : List ℕ) (from : ℕ) where
  pub entries_start : Rest (entry_lines 1 es) (entry_lines (0 + 1) (drop 0 es)) out₀ from out₀ from
  entries_start = rest_all (entry_lines 1 es) out₀ from

  module _ (i : ℕ) {out : List ℕ} {at : ℕ} (w : Rest (entry_lines 1 es) (entry_lines (i + 1) (drop i es)) out₀ from out at) where
    pub entries_more : {mid : List ℕ} {m : ℕ} → Put (first_line (i + 1) (drop i es)) out at m mid → Rest (entry_lines 1 es) (entry_lines (i + 1 + 1) (drop (i + 1) es)) out₀ from mid m
    entries_more p = rest_more w (first_then (i + 1) (drop i es) ∙ rw (drop-drop 1 i es)) p

    pub entries_all : length es ≤ i → Put (entry_lines 1 es) out₀ from at out
    unfolding entry_lines
    entries_all h = rest_none w (rw (drop_of_length-le es {i = i} h))

-- ---- brands

pub brand_line_lem : (code : ℕ) (xs : List ℕ) {k : Bool} → k ≡ brand_holds code xs → {out after : List ℕ} {at r : ℕ} → Put (brand_line code (one_if k)) out at r after → Put (brand_of code xs) out at r after
unfolding brand_of
brand_line_lem code xs e p = rw e at p
