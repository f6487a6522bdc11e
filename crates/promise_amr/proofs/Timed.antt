-- The ticks of the file that frames become: its samples' and its track's are the same. Assumes nothing.
use Prim.Native.Nat.{ℕ, ◌≤◌, ◌<◌}
use native.Mathlib.Omega.{arith}
use native.Mathlib.Nat.{zero-add, zero-mul, mul-le-mul_left, mul-le-mul_right}
use mathlib.Core.Path.{◌≡◌, sym}
use mathlib.Core.List.{List, [], ◌∷◌}
use lib.ListN.{length}
use Rattle.wire.specs.Tests.{if_eq, if_le}
use Rattle.wire.specs.Numbers.{bytes_on, bytes, word}
use Rattle.wire.specs.Sums.{sum_to}
use Rattle.wire.proofs.Numbers.{word_bytes}
use Rattle.codes.specs.Codes.{STTS}
use Rattle.boxes.specs.Seek.{meant, nth}
use Rattle.movie.specs.Movie.{track, sample_table, movie_ticks}
use Rattle.sample_tables.specs.Times.{delta, ticks_to, media_ticks}
use Rattle.frames.specs.declared.codec.Codec.{Codec}
use Rattle.frames.specs.declared.codec.Codec.TheVariants.{Amr, Wideband}
use Rattle.from_amr.specs.Fields.{fields}
use Rattle.from_amr.specs.Boxes.{sample_ticks, tkhd, one_for, stts}
use Rattle.from_amr.specs.File.{ticks_of, file_of}
use Rattle.promise_amr.proofs.Reading.{Reads}
use Rattle.promise_amr.proofs.Found.{track_is, table_is}
use Rattle.promise_amr.proofs.Agreed.{one_for_lem, one_timed}

ticks_fit : (k : Codec) → sample_ticks k ≤ 320
ticks_fit Amr = omega arith
ticks_fit Wideband = omega arith

module _ (k : Codec) (n : ℕ) where
  one_delta : (n ≡ 0 → ⊥) → delta (stts k n) 0 ≡ sample_ticks k
  unfolding fields bytes bytes_on word if_le
  one_delta h = rw (one_for_lem n (4 ∷ n ∷ 4 ∷ sample_ticks k ∷ []) h) (word_bytes 4 (sample_ticks k) [] (omega (arith, ticks_fit k)))

  pub movie_there : n < 4294967296 → word 4 (tkhd n) 20 ≡ n
  unfolding tkhd fields bytes bytes_on word if_le
  movie_there h = word_bytes 4 n [] h

pub media_ticks_lem : (k : Codec) (l : List (List ℕ)) → length l < 4294967296 → media_ticks (stts k (length l)) ≡ ticks_of k l
unfolding ticks_to sum_to one_for if_eq fields bytes bytes_on word if_le
media_ticks_lem k [] f = sym (zero-mul (sample_ticks k))
media_ticks_lem k (x ∷ l) f =
    let t = one_timed k (length (x ∷ l)) (λ e. omega arith) f in
    rw (t.0, t.1, one_delta k (length (x ∷ l)) (λ e. omega arith)) (zero-add (ticks_of k (x ∷ l)))

module _ (k : Codec) (l : List (List ℕ)) (b : Reads k l) where
  pub media_is : length l < 4294967296 → media_ticks (sample_table STTS (track (file_of k l) 0)) ≡ ticks_of k l
  unfolding nth meant if_eq
  media_is f = rw (track_is k l b, table_is k l b STTS) (media_ticks_lem k l f)

  pub movie_is : length l ≤ 65536 → movie_ticks (track (file_of k l) 0) ≡ ticks_of k l
  unfolding movie_ticks nth meant if_eq
  movie_is f =
      rw (track_is k l b, b.trak.list) (movie_there k (ticks_of k l) (omega (arith, mul-le-mul_right (sample_ticks k) f, mul-le-mul_left 65536 (ticks_fit k))))
