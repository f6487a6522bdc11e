-- An edit keeps every track, and every sample of it byte for byte and in order. Assumes nothing.
use Prim.Native.Nat.{ℕ}
use native.Mathlib.Omega.{arith}
use mathlib.Core.Path.{◌≡◌, refl, sym}
use mathlib.Core.Bool.{true}
use mathlib.Core.List.{List, []}
use Rattle.wire.specs.Tests.{if_eq, if_le}
use Rattle.wire.specs.Numbers.{Bytes, word}
use Rattle.codes.specs.Codes.{MOOV, TRAK, STBL, STSC, STSZ, STCO}
use Rattle.boxes.specs.Box.{Box, write}
use Rattle.boxes.specs.Boxes.{boxes}
use Rattle.boxes.specs.Containers.{FILE, parent, kind_in}
use Rattle.boxes.specs.Seek.{count, nth, find}
use Rattle.boxes.specs.Kin.{Kin}
use Rattle.boxes.proofs.Kin.{kin_count, kin_child}
use Rattle.mdat.specs.Rules.{chunks_lie}
use Rattle.sample_walk.specs.Samples.{join_to, samples_at}
use Rattle.mdat.specs.Samples.{samples_of}
use Rattle.mdat.proofs.Keeping.{file_samples_kept}
use Rattle.movie.specs.Ways.{follow}
use Rattle.movie.specs.Movie.{tracks, track, sample_table}
use Rattle.rule_tracks.proofs.Kept.{same_table}
use Rattle.release.specs.Releases.{release_of}
use Rattle.judge.specs.Acceptance.{Meets}
use Rattle.promise_kept.specs.Samples.{samples}
use Rattle.promise_kept.proofs.Content.{Content}
use Rattle.promise_kept.proofs.Arranges.{Arranges}
use Rattle.promise_kept.proofs.Arranging.{arranged_after, arranged_bytes}
use Rattle.promise_kept.proofs.Tracking.{kin_track}
use Rattle.promise_kept.proofs.Tables.{track_eight}
use Rattle.promise_kept.proofs.Settling.{xs_tiled, new, new_bytes, new_tiled, new_small, new_shut, Changes, edit_kin, edit_sound}
use Rattle.promise_kept.proofs.Following.{in_order, stbl_moved, same_payloads}

module _ {A : List Box → List Box} (a : Arranges A) (xs ys : List ℕ) (w : Bytes xs) (m : Meets xs) (c : Content (release_of (boxes xs)) xs ys) where
  abbrev mid : List ℕ
  mid = new a xs ys w m c

  abbrev result : List ℕ
  result = write (A (boxes (new a xs ys w m c)))

  -- the same `moov`, and so the same tracks
  same_moov : find MOOV (boxes result) ≡ find MOOV (boxes mid)
  same_moov = rw (in_order a xs ys w m c, a.found MOOV (λ z. omega arith) (boxes mid))

  pub same_track : (t : ℕ) → track (write (A (boxes (new a xs ys w m c)))) t ≡ track (new a xs ys w m c) t
  unfolding track
  same_track t = rw same_moov

  -- as many tracks
  pub edit_tracks : tracks result ≡ tracks xs
  unfolding kind_in parent if_eq
  edit_tracks =
      rw same_moov (sym (kin_child (Changes a xs ys w m c) 5 FILE xs mid (edit_kin a xs ys w m c) MOOV (λ z. omega arith) (λ b b'. count TRAK (boxes b) ≡ count TRAK (boxes b')) refl (λ z. omega arith)
      (λ b b' h. kin_count (Changes a xs ys w m c) 4 MOOV b b' h TRAK) 0))

  -- samples by the payload of an `stbl`
  abbrev cut : List ℕ → List ℕ → List (List ℕ)
  cut file b = samples_of file (find STSC (boxes b)) (find STSZ (boxes b)) (find STCO (boxes b))

  -- where every chunk lay in a payload
  abbrev Same : List ℕ → List ℕ → Type 0
  Same b b' = chunks_lie (boxes xs) (find STSC (boxes b)) (find STSZ (boxes b)) (find STCO (boxes b)) ≡ true → cut xs b ≡ cut result b'

  same_none : Same [] []
  unfolding boxes nth samples_of samples_at join_to word if_le
  same_none q = refl

  same_stbl : (b b' : List ℕ) → Kin (Changes a xs ys w m c) 1 STBL b b' → Same b b'
  unfolding kind_in parent if_eq
  same_stbl b b' h q =
      let G = Changes a xs ys w m c in
      let t = (edit_sound a xs ys w m c).tables in
      rw (← same_table G t 0 b b' h STSC (λ z. omega arith) refl t.stsc, ← same_table G t 0 b b' h STSZ (λ z. omega arith) refl t.stsz)
      (file_samples_kept xs result w (arranged_bytes a mid (new_bytes a xs ys w m c) (new_tiled a xs ys w m c) (new_small a xs ys w m c) (new_shut a xs ys w m c)) (xs_tiled a xs ys w m c)
      (arranged_after a mid (new_bytes a xs ys w m c) (new_tiled a xs ys w m c) (new_small a xs ys w m c) (new_shut a xs ys w m c)) (rw (in_order a xs ys w m c) (same_payloads a xs ys w m c))
      (find STSC (boxes b)) (find STSZ (boxes b)) (find STCO (boxes b)) (find STCO (boxes b'))
      (stbl_moved a xs ys w m c b b' h) q)

  -- each sample of each track
  pub edit_samples : (t : ℕ) → samples result t ≡ samples xs t
  unfolding samples sample_table follow
  edit_samples t =
      rw (same_track t) (sym (kin_track (Changes a xs ys w m c) Same same_none same_stbl xs mid (edit_kin a xs ys w m c) t (track_eight xs m t)))
