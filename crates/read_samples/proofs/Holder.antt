-- The type of `held::Samples` over a signature of one lifetime, and what a proof has of such a struct. The laws take `Logic`.
--     Row, Kind, Laws    its type, its description and its laws.        vals, tells    its machine value, and that it has no other
--     typed              that value is of its type.        stand_of    what is known of its stand
--     lends              what the file owns is had beside what the struct owns, which is kept whole: the struct is Copy
use mathlib.Core.Path.{◌≡◌}
use mathlib.Core.List.{List, [], ◌∷◌}
use lib.Dec.{T as Holds}
use lib.ListN.{length}
use seplogic.Ra.Ura.{Ura}
use mir.Syntax.{named}
use mir.Val.{Val, WT, has_ty}
use base.Logic.{ent, sep}
use base.Fml.{Fml}
use types.Logic.{Logic, sem}
use contract.Lifetimes.{Lfts}
use types.Kit.{‵, ◌⊛◌, given, ◌$◌, ◌∵◌, !, qed, move, drop, use1, split, learn, done}
use denote.RattleType.{RattleType}
use denote.Laws.{Is, Tells}
use denote.Builtin.{u8}
use denote.Signature.{named_lft}
use denote.Slice.{slice_val, ShrSlice}
use denote.Struct.Declared.{Declared}
use denote.Struct.Laws as LL
use denote.Struct.Rest.{all_own, rest, own_open, own_out}
use denote.Struct.Values.{Values}
use Rattle.read_samples.specs.declared.held.Samples.{Samples}
use Rattle.read_samples.specs.contracts.held.Samples as T
use Rattle.read_samples.proofs.held.Samples.TheLaws as T'
use Rattle.read_samples.specs.contracts.stand.Stand as S
use Rattle.read_samples.proofs.stand.Stand.TheLaws as S'

abbrev pub Row : Lfts 1 → RattleType
Row κs = T.the_row (named_lft 1 0 tt κs)

abbrev pub Kind : Lfts 1 → Declared
Kind κs = T.the_type (named_lft 1 0 tt κs)

abbrev pub Laws : (κs : Lfts 1) → LL.Laws (Kind κs)
Laws κs = T'.the_laws (named_lft 1 0 tt κs)

abbrev pub vals : Lfts 1 → Samples → List Val
vals κs = LL.vals (Kind κs) (Laws κs)

abbrev pub tells : (κs : Lfts 1) → Tells (Row κs) (Is (Row κs)) (vals κs)
tells κs = LL.tells (Kind κs) (Laws κs)

-- its fields' values
abbrev pub fields : Samples → Values (Kind ([], tt)).parts
fields d = (d.file, (d.at, tt))

-- the machine value of the file
abbrev pub file : Samples → Val
file d = slice_val d.file.ref_ptr (length d.file.now)

pub stand_of : (κs : Lfts 1) (d : Samples) → Is (Row κs) d (T'.lowered d ∷ []) → Is S.the_row d.at (S'.lowered d.at ∷ [])
stand_of κs d p = (LL.owed (Kind κs) (Laws κs) d (T'.lowered d ∷ []) p).1.0

module _ (κs : Lfts 1) (d : Samples) where
  -- what the file owns, and the whole
  abbrev pub Lent : Fml
  Lent = (ShrSlice (named 0) κs.0 u8).own_val d.file (file d ∷ [])

  abbrev pub Own : Fml
  Own = (Row κs).own_val d (T'.lowered d ∷ [])

  abbrev Owns : Fml
  Owns = all_own (Kind κs).parts (Laws κs) (fields d)

  abbrev Rest : Fml
  Rest = rest (Kind κs).parts (Laws κs) 0 (fields d)

  module _ {M : Type 1} {𝓤 : Ura M} (𝓛 : Logic 𝓤) where
    pub typed : Is (Row κs) d (T'.lowered d ∷ []) → Holds (has_ty (T'.mir (named 0)) (T'.lowered d)) × WT (T'.lowered d)
    typed p = ((LL.lawful (Kind κs) (Laws κs) 𝓛).typed d (T'.lowered d ∷ []) p).0

    pub lends : ent 𝓤 (sem 𝓛 Own) (sep 𝓤 (sem 𝓛 Lent) (sem 𝓛 Own))
    lends =
        qed 𝓛 (‵ Own ∷ []) ∵
        use1 𝓛 (‵ Own ⊛ ‵ Own) ((LL.copy (Kind κs) (T'.the_copy (named_lft 1 0 tt κs)) 𝓛).twice d (T'.lowered d ∷ [])) $ split ! $
        use1 𝓛 (given (T'.lowered d ∷ [] ≡ T'.lowered d ∷ []) (‵ Owns)) (own_open 𝓛 (Kind κs) (Laws κs) (fields d) (T'.lowered d)) $ learn ! (λ _.
        use1 𝓛 (‵ Lent ⊛ ‵ Rest) (own_out 𝓛 (Kind κs).parts (Laws κs) 0 (fields d)) $ split ! $ move ! (1 ∷ []) $ drop ! $ done !)
