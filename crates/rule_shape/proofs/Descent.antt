-- From a rule that holds of a file down to the boxes that rule 3 puts in it. Assumes nothing.
use Prim.Native.Nat.{ℕ, suc, ◌≤◌, ◌<◌}
use native.Mathlib.Omega.{arith}
use mathlib.Core.Path.{◌≡◌, refl, sym, ◌∙◌}
use mathlib.Core.Bool.{true}
use mathlib.Core.List.{List}
use Rattle.wire.specs.Tests.{if_eq}
use Rattle.codes.specs.Codes.{MOOV, TRAK, MDIA, MINF, STBL}
use Rattle.boxes.specs.Boxes.{boxes}
use Rattle.boxes.specs.Containers.{FILE, DEPTH, parent, kind_in}
use Rattle.boxes.specs.Seek.{ANY, count, find}
use Rattle.boxes.proofs.Reading.{All}
use Rattle.boxes.proofs.Every.{all_with, each_nth}
use Rattle.movie.specs.Movie.{movie, tracks, track, minf}
use Rattle.rule.specs.Rule.{Rule, all_in}
use Rattle.rule.proofs.Opened.{opened, leaves_of, inside_of}
use Rattle.rule_shape.specs.Three.{needed, three_rule}
use Rattle.rule_shape.proofs.Needs.{needs, needs_code, shape_one, shape_tracks}

-- rule 3 and the rule r hold of a container of kind k, d deep
pub record Met (r : Rule) (d k : ℕ) (xs : List ℕ) : Type 0 where
  pub three : all_in three_rule d k xs ≡ true
  pub rule : all_in r d k xs ≡ true

module _ {r : Rule} {d k : ℕ} {xs : List ℕ} (m : Met r (suc d) k xs) where
  pub node_met : r.node k xs ≡ true
  node_met = (opened r d k xs m.rule).node

  -- each container in it
  pub met_inside : All (λ x. (kind_in k x.code ≡ 0 → ⊥) → Met r d (kind_in k x.code) x.body) (boxes xs)
  met_inside = all_with (λ x p q z. record { three = p z; rule = q z }) (opened three_rule d k xs m.three).inside (opened r d k xs m.rule).inside

  module _ (c : ℕ) where
    -- those of a code
    pub each_met : (c ≡ ANY → ⊥) → kind_in k c ≡ c → All (λ x. x.code ≡ c → Met r d c x.body) (boxes xs)
    each_met z e =
        let o : kind_in k c ≡ 0 → ⊥ = λ y. z (sym e ∙ y) in
        all_with (λ x p q h. record { three = rw e at (p h); rule = rw e at (q h) }) (inside_of (opened three_rule d k xs m.three) c o) (inside_of (opened r d k xs m.rule) c o)

    -- the box of a code that it needs
    module _ (n : needs k c ≡ true) where
      pub needed_some : 0 < count c (boxes xs)
      needed_some = omega (arith, shape_one (boxes xs) k c (opened three_rule d k xs m.three).node n)

      pub needed_leaf : kind_in k c ≡ 0 → r.leaf k c (find c (boxes xs)) ≡ true
      needed_leaf e = each_nth c (needs_code k c n) (λ b. r.leaf k c b ≡ true) 0 (boxes xs) (leaves_of (opened r d k xs m.rule) c e) needed_some

      pub needed_node : kind_in k c ≡ c → Met r d c (find c (boxes xs))
      needed_node e = each_nth c (needs_code k c n) (Met r d c) 0 (boxes xs) (each_met (needs_code k c n) e) needed_some

-- ---- the movie

module _ {r : Rule} {xs : List ℕ} (m : Met r DEPTH FILE xs) where
  pub in_moov : Met r 5 MOOV (find MOOV (boxes xs))
  unfolding needed kind_in parent if_eq
  in_moov = needed_node m MOOV refl refl

  -- each of its tracks
  pub each_track : All (λ x. x.code ≡ TRAK → Met r 4 TRAK x.body) (movie xs)
  unfolding kind_in parent if_eq
  each_track = each_met in_moov TRAK (λ z. omega arith) refl

  pub in_track : (t : ℕ) → t < tracks xs → Met r 4 TRAK (track xs t)
  unfolding track
  in_track t k = each_nth TRAK (λ z. omega arith) (Met r 4 TRAK) t (movie xs) each_track k

-- ---- a track

module _ {r : Rule} {b : List ℕ} (m : Met r 4 TRAK b) where
  pub in_mdia : Met r 3 MDIA (find MDIA (boxes b))
  unfolding needed kind_in parent if_eq
  in_mdia = needed_node m MDIA refl refl

  pub in_stbl : Met r 1 STBL (find STBL (minf b))
  unfolding needed kind_in parent if_eq
  in_stbl = needed_node (needed_node in_mdia MINF refl refl) STBL refl refl

-- "1 to 4 trak"
pub tracks_few : (xs : List ℕ) → all_in three_rule DEPTH FILE xs ≡ true → (1 ≤ tracks xs) × (tracks xs ≤ 4)
tracks_few xs h = shape_tracks (movie xs) (node_met (in_moov (record { three = h; rule = h })))
