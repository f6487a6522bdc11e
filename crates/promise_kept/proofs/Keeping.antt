-- Demand 3: what an edit makes of an accepted file is accepted, and has the same samples. Assumes nothing.
use Prim.Native.Nat.{ℕ, ◌≤◌}
use native.Mathlib.Omega.{arith}
use mathlib.Core.Path.{◌≡◌, refl, sym, ap, subst, ◌∙◌}
use mathlib.Core.List.{List}
use lib.ListN.{length}
use Rattle.wire.specs.Numbers.{Bytes}
use Rattle.boxes.specs.Box.{Box, write}
use Rattle.boxes.specs.Boxes.{boxes}
use Rattle.boxes.specs.Kin.{All2}
use Rattle.boxes.specs.Kin.All2.{nil, cons}
use Rattle.boxes.proofs.Whole.{head_least}
use Rattle.boxes.proofs.Reading.{lengths, length_cons}
use Rattle.mdat.proofs.Keeping.{tiled}
use Rattle.release.specs.Releases.{release_of}
use Rattle.judge.specs.Judgement.{judged, Accepted}
use Rattle.judge.specs.Acceptance.{Meets}
use Rattle.judge.proofs.Exact.{meets_accepted}
use Rattle.edit_offsets.specs.Settle.{settled}
use Rattle.promise_kept.specs.Kept.{Kept, Keeps}
use Rattle.promise_kept.proofs.Content.{Content}
use Rattle.promise_kept.proofs.Arranges.{Arranges, stay}
use Rattle.promise_kept.proofs.Arranging.{arranged_length, arranged_bytes}
use Rattle.promise_kept.proofs.Settling.{xs_tiled, new, new_bytes, new_tiled, new_small, new_shut, new_length, edit_kin, settled_is, ys_tiled}
use Rattle.promise_kept.proofs.Accepting.{same_release, edit_plain, edit_meets}
use Rattle.promise_kept.proofs.Sampling.{edit_tracks, edit_samples}
use Rattle.promise_kept.proofs.Follows.{edit_follows}

-- ---- what is kept, in a row

-- a file keeps itself
pub kept_refl : (xs : List ℕ) → Bytes xs → judged xs ≡ Accepted → Kept xs xs
kept_refl xs w m = record { accepted = m; release = refl; editable = λ q. q; tracks = refl; samples = λ t. refl; bytes = w }

-- what two edits in a row keep
pub kept_then : (xs ys zs : List ℕ) → Kept xs ys → Kept ys zs → Kept xs zs
kept_then xs ys zs k h =
    record {
      accepted = h.accepted;
      release = h.release ∙ k.release;
      editable = λ q. h.editable (k.editable q);
      tracks = h.tracks ∙ k.tracks;
      samples = λ t. h.samples t ∙ k.samples t;
      bytes = h.bytes;
    }

-- ---- rule 1

least_kept : {R : Box → Box → Type 0} {l m : List Box} → All2 R l m → 8 ≤ length (write l) → 8 ≤ length (write m)
least_kept nil h = h
least_kept (cons {y = y} {m = m} r a) h = omega (arith, length_cons y m, head_least y.form)

-- ---- the theorem

module _ {A : List Box → List Box} (a : Arranges A) (xs ys : List ℕ) (w : Bytes xs) (m : Meets xs) (c : Content (release_of (boxes xs)) xs ys) where
  abbrev mid : List ℕ
  mid = new a xs ys w m c

  abbrev result : List ℕ
  result = write (A (boxes (new a xs ys w m c)))

  long : length result ≡ length mid
  long = arranged_length a mid (new_bytes a xs ys w m c) (new_tiled a xs ys w m c) (new_small a xs ys w m c) (new_shut a xs ys w m c)

  least : 8 ≤ length mid
  least =
      let z = ap length (xs_tiled a xs ys w m c) in
      omega (arith, least_kept (edit_kin a xs ys w m c).0 (omega (arith, lengths xs, m.least)), lengths mid)

  kept : Kept xs result
  kept =
      record {
        accepted = meets_accepted result (edit_meets a xs ys w m c (omega (arith, long, least)) (omega (arith, long, new_length a xs ys w m c, c.small)));
        release = same_release a xs ys w m c;
        editable = edit_plain a xs ys w m c;
        tracks = edit_tracks a xs ys w m c;
        samples = edit_samples a xs ys w m c;
        bytes = arranged_bytes a mid (new_bytes a xs ys w m c) (new_tiled a xs ys w m c) (new_small a xs ys w m c) (new_shut a xs ys w m c);
      }

  -- an edit of the content and an order of the boxes, chunk offsets following, keep a file: it is accepted and has the same samples
  pub keeps : Keeps xs (settled xs (write (A (boxes ys))))
  keeps = subst (Keeps xs) (sym (settled_is a xs ys w m c)) (record { kept = kept; follow = edit_follows a xs ys w m c })

-- the same of an edit that leaves the boxes in their order
pub keeps_stay : (xs ys : List ℕ) → Bytes xs → Meets xs → Content (release_of (boxes xs)) xs ys → Keeps xs (settled xs ys)
keeps_stay xs ys w m c = subst (λ (zs : List ℕ). Keeps xs (settled xs zs)) (tiled ys c.bytes (ys_tiled stay xs ys w m c)) (keeps stay xs ys w m c)
