-- How many entries a file has: the lists of its tracks, one after the other. Assumes nothing.
use Prim.Native.Nat.{ℕ, ◌+◌, ◌*◌, ◌^◌, ◌≤◌, ◌<◌}
use native.Mathlib.Omega.{arith}
use mathlib.Core.Path.{◌≡◌, ap, ◌∙◌}
use mathlib.Core.List.{List, []}
use lib.ListN.{length, drop, length-append, drop_of_length-le}
use Rattle.boxes.specs.Boxes.{boxes}
use Rattle.boxes.specs.Containers.{LONGEST}
use Rattle.boxes.specs.Seek.{ANY, start_in}
use Rattle.boxes.proofs.Placing.{total_is}
use Rattle.codes.specs.Codes.{MOOV}
use Rattle.movie.specs.Movie.{movie, tracks, track}
use Rattle.movie.specs.Stsds.{Stsd, stsds_from, stsds}
use Rattle.movie.specs.Entries.{entries_in, entries}
use Rattle.movie.specs.Named.{list_in}
use Rattle.layout.specs.declared.gather.Slot.{Slot}
use Rattle.layout.specs.Entries.{ListAt}
use Rattle.layout.proofs.Slots.{slot_length}
use Rattle.layout.proofs.Numbering.{length_stsds, count_total, own, from_here, long}

pub record Tally (xs : List ℕ) (t sum : ℕ) : Type 0 where
  pub most : t ≤ tracks xs
  pub few : sum ≤ t * LONGEST
  pub is : length (entries xs) ≡ sum + length (entries_in (drop t (stsds xs)))

pub tally_none : (xs : List ℕ) → Tally xs 0 0
unfolding entries
tally_none xs = record { most = omega arith; few = omega arith; is = omega arith }

module _ {xs : List ℕ} {t sum : ℕ} (k : Tally xs t sum) where
  module _ {s : Slot} (a : ListAt xs t s) (m : length xs ≤ LONGEST) where
    few_here : s.n ≤ LONGEST
    few_here =
        omega (
          arith,
          a.counted,
          count_total ANY (boxes (list_in (track xs t))),
          total_is (list_in (track xs t)),
          ap length a.is,
          slot_length
              a.lies,
          a.lies.inside,
        )

    pub tally_fits : t < 4 → sum + s.n < 2 ^ 63
    tally_fits h = omega (arith, k.few, few_here)

    pub tally_more : t < tracks xs → Tally xs (t + 1) (sum + s.n)
    unfolding stsds
    tally_more h =
        let p = start_in MOOV 0 (boxes xs) in
        record {
          most = omega arith;
          few = omega (arith, k.few, few_here);
          is = k.is ∙ omega (
            arith,
            ap length (from_here xs h p),
            length-append (own xs h p) (entries_in (drop (t + 1)
                (stsds_from 0 (movie xs) p))),
            long xs h p,
            a.counted,
          );
        }

  pub tally_end : tracks xs ≤ t → sum ≡ length (entries xs)
  unfolding stsds entries_in
  tally_end h =
      let p = start_in MOOV 0 (boxes xs) in
      let e : drop t (stsds_from 0 (movie xs) p) ≡ [] = drop_of_length-le (stsds_from 0 (movie xs) p) {i = t} (omega (arith, length_stsds (movie xs) 0 p)) in
      omega (arith, k.is, ap (λ (l : List Stsd). length (entries_in l)) e)
