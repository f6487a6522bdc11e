-- Which codec a dump is of, by its magic, branch by branch of the code. Assumes nothing.
use Prim.Native.Nat.{ℕ}
use mathlib.Core.Path.{◌≡◌, sym, ◌∙◌}
use mathlib.Core.Bool.{Bool, true, false}
use mathlib.Core.List.{List}
use Rattle.std.specs.Prelude.{nat_eq}
use Rattle.std.specs.List.{starts_with}
use Rattle.rule.specs.Results.{Exact}
use Rattle.rule.proofs.Results.{exact_refuses}
use Rattle.frames.specs.declared.codec.Codec.{Codec}
use Rattle.frames.specs.declared.codec.Codec.TheVariants.{Amr, Wideband}
use Rattle.from_amr.specs.Dump.{magic, opens, dump_of, from_amr}
use Rattle.rule.specs.Answers.{Answer, Refused}

-- the dump, asked whether it starts with a magic
module _ (k : Codec) (xs : List ℕ) {t : Bool} (e : t ≡ starts_with nat_eq xs (magic k)) where
  pub opens_so : t ≡ true → opens k xs ≡ true
  unfolding opens
  opens_so h = sym e ∙ h

  pub opens_not : t ≡ false → opens k xs ≡ false
  unfolding opens
  opens_not h = sym e ∙ h

module _ (xs : List ℕ) {out left : List ℕ} {r : Answer} where
  pub from_first : opens Amr xs ≡ true → Exact (dump_of Amr xs) out r left → Exact (from_amr xs) out r left
  unfolding from_amr
  from_first a x = rw a x

  pub from_second : opens Amr xs ≡ false → opens Wideband xs ≡ true → Exact (dump_of Wideband xs) out r left → Exact (from_amr xs) out r left
  unfolding from_amr
  from_second a b x = rw (a, b) x

pub from_neither : (xs out : List ℕ) → opens Amr xs ≡ false → opens Wideband xs ≡ false → Exact (from_amr xs) out (Refused 40 0) out
unfolding from_amr
from_neither xs out a b = rw (a, b) (exact_refuses 40 0 out)
