-- What `front` answers, from its tests on the header h and the data bytes d, and back. Assumes nothing.
use Prim.Native.Nat.{ℕ, ◌+◌, ◌/◌, ◌%◌, ◌≤◌, ◌<◌}
use native.Mathlib.Omega.{arith}
use mathlib.Core.Path.{◌≡◌, refl}
use mathlib.Core.Bool.{Bool, true, false}
use mathlib.Core.List.{List}
use lib.ListN.{length}
use Rattle.std.specs.declared.option.Option.{Option}
use Rattle.std.specs.declared.option.Option.TheVariants.{Some, None}
use Rattle.wire.specs.Tests.{pick}
use Rattle.frames.specs.declared.codec.Codec.{Codec}
use Rattle.frames.specs.Codecs.{NONE, data_bytes}
use Rattle.frames.specs.Frames.{header_of, type_of, frame_size, good}
use Rattle.frames.proofs.Fronts.{unknown_not, cut_not, front_good}

module _ (k : Codec) (xs : List ℕ) where
  pub front_none : good k xs ≡ false → None ≡ pick (good k xs) (Some (frame_size k xs)) None
  front_none e = rw e

  module _ (h d : ℕ) (e : h ≡ header_of xs) (q : d ≡ data_bytes k (h / 8 % 16)) where
    data_is : d ≡ data_bytes k (type_of xs)
    unfolding type_of
    data_is = rw e at q

    pub unknown_none : NONE ≤ d → None ≡ pick (good k xs) (Some (frame_size k xs)) None
    unknown_none l = front_none (unknown_not k xs (omega (arith, data_is)))

    pub cut_none : length xs < 1 + d → None ≡ pick (good k xs) (Some (frame_size k xs)) None
    unfolding frame_size
    cut_none l = front_none (cut_not k xs (omega (arith, data_is)))

    pub front_some : h / 128 ≡ 0 → h % 4 ≡ 0 → d < NONE → 1 + d ≤ length xs → Some (1 + d) ≡ pick (good k xs) (Some (frame_size k xs)) None
    unfolding frame_size
    front_some u v l i =
        let f = front_good k xs (record { there = omega arith; high = rw e at u; low = rw e at v; known = rw data_is at l; inside = rw data_is at i }) in
        rw (f, data_is)

-- ---- back

pub front_was : (t : Bool) (s : ℕ) (o : Option ℕ) {size : ℕ} → o ≡ pick t (Some s) None → o ≡ Some size → (t ≡ true) × (size ≡ s)
front_was true s o e z = (refl, cc)
front_was false s o e z = (cc, cc)

pub front_was_none : (t : Bool) (s : ℕ) (o : Option ℕ) → o ≡ pick t (Some s) None → o ≡ None → t ≡ false
front_was_none true s o e z = cc
front_was_none false s o e z = refl
