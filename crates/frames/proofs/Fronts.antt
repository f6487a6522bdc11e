-- The tests of the frame at the front, each way, and what a good frame is. Assumes nothing.
use Prim.Native.Nat.{ℕ, ◌/◌, ◌%◌, ◌≤◌, ◌<◌}
use native.Mathlib.Omega.{arith}
use mathlib.Core.Path.{◌≡◌, sym}
use mathlib.Core.Bool.{true, false}
use mathlib.Core.List.{List}
use lib.ListN.{length}
use Rattle.wire.proofs.Clauses.{is_eq_lem, not_eq, eq_is, is_lt_lem, not_lt, lt_is, is_le_lem, not_le, le_is, fails, done, holds, clause}
use Rattle.frames.specs.declared.codec.Codec.{Codec}
use Rattle.frames.specs.Codecs.{NONE, data_bytes}
use Rattle.frames.specs.Frames.{header_of, type_of, frame_size, good}

pub type_fits : (xs : List ℕ) → type_of xs < 16
unfolding type_of
type_fits xs = omega arith

module _ (k : Codec) (xs : List ℕ) where
  -- ---- one test that fails

  pub short_not : length xs < 1 → good k xs ≡ false
  unfolding good
  short_not h = sym (fails 0 _ (not_le 1 (length xs) h))

  pub high_not : (header_of xs / 128 ≡ 0 → ⊥) → good k xs ≡ false
  unfolding good
  high_not h = sym (fails 1 _ (not_eq (header_of xs / 128) 0 h))

  pub low_not : (header_of xs % 4 ≡ 0 → ⊥) → good k xs ≡ false
  unfolding good
  low_not h = sym (fails 2 _ (not_eq (header_of xs % 4) 0 h))

  pub unknown_not : NONE ≤ data_bytes k (type_of xs) → good k xs ≡ false
  unfolding good
  unknown_not h = sym (fails 3 _ (not_lt (data_bytes k (type_of xs)) NONE h))

  pub cut_not : length xs < frame_size k xs → good k xs ≡ false
  unfolding good
  cut_not h = sym (fails 4 _ (not_le (frame_size k xs) (length xs) h))

  -- ---- all that hold

  -- what a good frame at the front is
  pub record Front : Type 0 where
    pub there : 1 ≤ length xs
    pub high : header_of xs / 128 ≡ 0
    pub low : header_of xs % 4 ≡ 0
    pub known : data_bytes k (type_of xs) < NONE
    pub inside : frame_size k xs ≤ length xs

  pub front_good : Front → good k xs ≡ true
  unfolding good
  front_good f =
      sym (holds _ _ (is_le_lem 1 (length xs) f.there) (holds _ _ (is_eq_lem (header_of xs / 128) 0 f.high) (holds _ _ (is_eq_lem (header_of xs % 4) 0 f.low)
      (holds _ _ (is_lt_lem (data_bytes k (type_of xs)) NONE f.known) (holds _ _ (is_le_lem (frame_size k xs) (length xs) f.inside) done)))))

  pub good_front : good k xs ≡ true → Front
  unfolding good
  good_front e =
      record {
        there = le_is 1 (length xs) (clause 0 _ e);
        high = eq_is (header_of xs / 128) 0 (clause 1 _ e);
        low = eq_is (header_of xs % 4) 0 (clause 2 _ e);
        known = lt_is (data_bytes k (type_of xs)) NONE (clause 3 _ e);
        inside = le_is (frame_size k xs) (length xs) (clause 4 _ e);
      }

  -- ---- its size

  pub size_least : 1 ≤ frame_size k xs
  unfolding frame_size
  size_least = omega arith

  pub size_inside : good k xs ≡ true → frame_size k xs ≤ length xs
  size_inside e = (good_front e).inside
