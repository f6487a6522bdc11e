-- The judgement, and then the movie ticks of the track.
use Rattle.std.specs.Prelude.{Ok, Err}
use borrow.Author.Rules.{rules}
use mathlib.Core.Path.{◌≡◌, refl, ap}
use Rattle.read_tracks.specs.declared.said.Said.{Said}
use Rattle.read_tracks.proofs.Reading.{said_ok, said_err}
use Rattle.judge.proofs.Calls.{met, when_accepted_lem, when_passed}
use Rattle.read_tracks.specs.Reads.{movie_length}
use Rattle.read_tracks.proofs.movie_ticks.Goals as goal

pub said_in-requires : goal.said_in-requires
unfolding movie_length
said_in-requires c = let a = c.in_ok-tracks.ensures in (met _ refl a.0, a.1)

pub returns : goal.returns
unfolding movie_length
returns c = let p = said_ok _ _ c.said_in.ensures c.in_ok-said.was in
    when_accepted_lem _ refl _ _ c.in_ok-tracks.ensures.0 (rw p.0 (ap (λ (s : Said). Ok s.movie) p.1))

pub returns-in_err-said : goal.returns-in_err-said
unfolding movie_length
returns-in_err-said c = let p = said_err _ _ c.said_in.ensures c.in_err-said.was in
    let f : c.from_residual-in_err-said.result ≡ Err c.in_err-said.field-0.0 = search rules in
    when_accepted_lem _ refl _ _ c.in_ok-tracks.ensures.0 (rw (f, p.0, p.1))

pub returns-in_err-tracks : goal.returns-in_err-tracks
unfolding movie_length
returns-in_err-tracks c = when_passed _ refl _ _ c.in_err-tracks.ensures c.from_residual.ensures.1
