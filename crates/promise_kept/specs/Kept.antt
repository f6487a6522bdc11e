-- What an edit keeps of the file xs that it makes into ys.
use Rattle.std.specs.Prelude.{ℕ, ◌≡◌, true, List}
use Rattle.wire.specs.Numbers.{Bytes}
use Rattle.boxes.specs.Boxes.{boxes}
use Rattle.movie.specs.Movie.{tracks}
use Rattle.release.specs.Releases.{release_of}
use Rattle.judge.specs.Judgement.{judged, Accepted}
use Rattle.judge.specs.Acceptance.{editable}
use Rattle.promise_kept.specs.Samples.{samples}
use Rattle.promise_kept.specs.Follows.{AllFollow}

-- it is accepted, of the same release, edits still take it, and it has as many tracks, each with the same samples
pub record Kept (xs ys : List ℕ) : Type 0 where
  pub accepted : judged ys ≡ Accepted
  pub release : release_of (boxes ys) ≡ release_of (boxes xs)
  pub editable : editable xs ≡ true → editable ys ≡ true
  pub tracks : tracks ys ≡ tracks xs
  pub samples : (t : ℕ) → samples ys t ≡ samples xs t
  pub bytes : Bytes ys

-- and every chunk offset follows its `mdat`
pub record Keeps (xs ys : List ℕ) : Type 0 where
  pub kept : Kept xs ys
  pub follow : AllFollow xs ys
