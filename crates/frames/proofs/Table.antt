-- The tables of frame bytes are those of the definition, and so are the mode bits: one computed test a table. Assumes nothing.
use Prim.Native.Nat.{ℕ, ◌≤◌, ◌<◌}
use mathlib.Core.Path.{◌≡◌, refl, sym}
use mathlib.Core.Bool.{Bool, true}
use mathlib.Core.List.{List, [], ◌∷◌}
use lib.ListN.{length, get_or}
use Rattle.wire.specs.Tests.{if_lt}
use Rattle.wire.specs.Clauses.{is_eq, is_le, every}
use Rattle.wire.proofs.Tests.{lt_yea, lt_nay}
use Rattle.wire.proofs.Clauses.{clause, eq_is, le_is}
use Rattle.frames.specs.declared.codec.Codec.{Codec}
use Rattle.frames.specs.declared.codec.Codec.TheVariants.{Amr, Wideband}
use Rattle.frames.specs.Codecs.{sizes, bare, NONE, data_bytes}
use Rattle.frames.proofs.Entries.{each, at}

-- the table of a codec, as the code has it
abbrev pub table : Codec → List ℕ
table Amr = 12 ∷ 13 ∷ 15 ∷ 17 ∷ 19 ∷ 20 ∷ 26 ∷ 31 ∷ 5 ∷ 255 ∷ 255 ∷ 255 ∷ 255 ∷ 255 ∷ 255 ∷ 0 ∷ []
table Wideband = 17 ∷ 23 ∷ 32 ∷ 36 ∷ 40 ∷ 46 ∷ 50 ∷ 58 ∷ 60 ∷ 5 ∷ 255 ∷ 255 ∷ 255 ∷ 255 ∷ 0 ∷ 0 ∷ []

-- an entry is that of the definition, and at most NONE
right : Codec → ℕ → ℕ → Bool
right k t x = every (is_eq x (data_bytes k t) ∷ is_le x NONE ∷ [])

tested : (k : Codec) → each (right k) 0 (table k) ≡ true
unfolding right every is_eq is_le data_bytes if_lt
tested Amr = refl
tested Wideband = refl

sixteen : (k : Codec) → length (table k) ≡ 16
sixteen Amr = refl
sixteen Wideband = refl

pub record Entry (k : Codec) (t x : ℕ) : Type 0 where
  pub is : x ≡ data_bytes k t
  pub most : x ≤ NONE

pub entry : (k : Codec) (t : ℕ) → t < 16 → Entry k t (get_or (table k) t 0)
unfolding right
entry k t h =
    let e = at (right k) (table k) (tested k) t (rw sixteen h) in
    let x = get_or (table k) t 0 in
    record { is = eq_is x (data_bytes k t) (clause 0 _ e); most = le_is x NONE (clause 1 _ e) }

-- a type between those with data and those without is unknown
pub data_none : (k : Codec) (t : ℕ) → length (sizes k) ≤ t → t < bare k → data_bytes k t ≡ NONE
unfolding data_bytes
data_none k t h g = sym (lt_nay _ _ _ _ _ h (lt_yea _ _ _ _ _ g refl))
