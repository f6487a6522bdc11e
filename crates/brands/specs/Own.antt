-- What the brands ask of a file, once for all four.
use Rattle.std.specs.Prelude.{◌≡◌, List, ℕ}
use Rattle.codes.specs.Codes.{FTYP, ISOM}
use Rattle.boxes.specs.Boxes.{boxes}
use Rattle.boxes.specs.Seek.{find}
use Rattle.release.specs.Compatible.{brand_listed}
use Rattle.brands.specs.declared.conditions.Own.{Own}
use Rattle.brands.specs.Brands.{isom_or_avc1, few as few_of, early as early_of, ready as ready_of}

pub record OwnAt (xs : List ℕ) (o : Own) : Type 0 where
  pub isom : o.isom ≡ brand_listed ISOM (find FTYP (boxes xs))
  pub base : o.base ≡ isom_or_avc1 (find FTYP (boxes xs))
  pub early : o.early ≡ early_of xs
  pub few : o.few ≡ few_of xs
  pub ready : o.ready ≡ ready_of xs
