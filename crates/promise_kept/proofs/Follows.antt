-- Every chunk offset of an edited file has moved by as much as its `mdat`. Assumes nothing.
use Prim.Native.Nat.{ℕ, ◌<◌}
use native.Mathlib.Omega.{arith}
use mathlib.Core.Path.{◌≡◌, refl, ◌∙◌}
use mathlib.Core.Bool.{true}
use mathlib.Core.List.{List, []}
use Rattle.wire.specs.Tests.{if_le}
use Rattle.wire.specs.Numbers.{Bytes, word}
use Rattle.codes.specs.Codes.{STBL, STSC, STSZ, STCO}
use Rattle.boxes.specs.Box.{Box, write}
use Rattle.boxes.specs.Boxes.{boxes}
use Rattle.boxes.specs.Seek.{nth, find}
use Rattle.boxes.specs.Kin.{Kin}
use Rattle.sample_tables.specs.Tables.{items}
use Rattle.sample_tables.specs.Chunks.{offset_at}
use Rattle.mdat.specs.Payloads.{mdats}
use Rattle.mdat.specs.Relocate.{relocate}
use Rattle.mdat.specs.Rules.{chunks_lie}
use Rattle.mdat.proofs.Eight.{eight_at, chunk_in_lem}
use Rattle.mdat.proofs.Relocating.{Lies, in_lies, relocate_to}
use Rattle.mdat.proofs.Resolving.{resolved}
use Rattle.movie.specs.Ways.{follow}
use Rattle.movie.specs.Movie.{track, sample_table}
use Rattle.release.specs.Releases.{release_of}
use Rattle.judge.specs.Acceptance.{Meets}
use Rattle.promise_kept.specs.Follows.{Follows, AllFollow}
use Rattle.promise_kept.proofs.Content.{Content}
use Rattle.promise_kept.proofs.Arranges.{Arranges}
use Rattle.promise_kept.proofs.Tracking.{kin_track}
use Rattle.promise_kept.proofs.Tables.{track_eight}
use Rattle.promise_kept.proofs.Settling.{new, Changes, edit_kin}
use Rattle.promise_kept.proofs.Following.{in_order, stbl_moved, same_payloads}
use Rattle.promise_kept.proofs.Sampling.{same_track}
use Rattle.promise_kept.proofs.Starts.{payload_of}

-- an offset whose n bytes lie in a payload, relocated
follows : (l m : List Box) → mdats l ≡ mdats m → (o n : ℕ) → Lies l o n → Follows l m o (relocate l m o)
follows l m same o n s =
    let f = resolved l o s.j s.i s.found in
    let p = payload_of s.j l f.which in
    let q = payload_of s.j m (rw (← same) f.which) in
    let e = relocate_to l m o s.j s.i s.found ∙ q.place s.i in
    let d = f.is ∙ p.place s.i in
    record {
      j = s.j;
      which = p.which;
      start = omega arith;
      end = rw p.body (omega (arith, f.into));
      there = omega arith;
      moved = omega arith;
    }

module _ {A : List Box → List Box} (a : Arranges A) (xs ys : List ℕ) (w : Bytes xs) (m : Meets xs) (c : Content (release_of (boxes xs)) xs ys) where
  abbrev result : List ℕ
  result = write (A (boxes (new a xs ys w m c)))

  -- of two `stbl`, where every chunk lay in a payload
  abbrev Moved : List ℕ → List ℕ → Type 0
  Moved b b' =
      chunks_lie (boxes xs) (find STSC (boxes b)) (find STSZ (boxes b)) (find STCO (boxes b)) ≡ true
      → (items (find STCO (boxes b')) ≡ items (find STCO (boxes b)))
      × ((k : ℕ) → k < items (find STCO (boxes b)) → Follows (boxes xs) (boxes result) (offset_at (find STCO (boxes b)) k) (offset_at (find STCO (boxes b')) k))

  moved_none : Moved [] []
  unfolding boxes nth word if_le
  moved_none q = (refl, λ k h. absurd (omega arith))

  moved_stbl : (b b' : List ℕ) → Kin (Changes a xs ys w m c) 1 STBL b b' → Moved b b'
  moved_stbl b b' h q =
      let r = stbl_moved a xs ys w m c b b' h in (
        r.same,
        λ k n.
            rw (r.offsets k n)
            (follows (boxes xs) (boxes result) (rw (in_order a xs ys w m c) (same_payloads a xs ys w m c)) _ _
            (in_lies (boxes xs) _ _ (chunk_in_lem (boxes xs) (find STSC (boxes b)) (find STSZ (boxes b)) (find STCO (boxes b)) k (eight_at (boxes xs) _ _ _ q k n)))),
      )

  pub edit_follows : AllFollow xs (write (A (boxes (new a xs ys w m c))))
  unfolding sample_table follow
  edit_follows = record { same = λ t. (at t).0; each = λ t. (at t).1 }
    where
      at : (t : ℕ) → (items (sample_table STCO (track result t)) ≡ items (sample_table STCO (track xs t)))
          × ((k : ℕ) → k < items (sample_table STCO (track xs t)) → Follows (boxes xs) (boxes result) (offset_at (sample_table STCO (track xs t)) k) (offset_at (sample_table STCO (track result t)) k))
      at t = rw (same_track a xs ys w m c t) (kin_track (Changes a xs ys w m c) Moved moved_none moved_stbl xs (new a xs ys w m c) (edit_kin a xs ys w m c) t (track_eight xs m t))
