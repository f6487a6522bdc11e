-- K7: the descriptors in the `esds` of an entry, read and written back.
use Rattle.std.specs.Prelude.{ℕ, ◌+◌, ◌-◌, List, [], ◌∷◌, ◌++◌, length, take, drop, get_or, Err, Result, Ok}
use Rattle.wire.specs.Tests.{if_eq}
use Rattle.wire.specs.Clauses.{is_eq, every}
use Rattle.wire.specs.Numbers.{word}
use Rattle.entry_heads.specs.Kinds.{kind_of}
use Rattle.entry_heads.specs.Heads.{head_size}
use Rattle.descriptors.specs.Parts.{TOP}
use Rattle.descriptors.specs.Trees.{Tree, tree, all_fit, in_order, wanted_parts}
use Rattle.movie.specs.Entries.{Entry, entries}
use Rattle.rule.specs.Results.{ToWrite, asked}
use Rattle.rule.specs.Results.ToWrite.{gives, refuses}
use Rattle.judge.specs.Judgement.{judged}
use Rattle.judge.specs.Calls.{when_accepted}
use Rattle.esds.specs.declared.value.Values.{Values}
use Rattle.esds.specs.declared.value.Esds.{Esds}
use Rattle.rule.specs.declared.Refusal.{Refusal}
use Rattle.esds.specs.Values.{values_in, esds_in, has_esds, kind_rule, fixed_in}
use Rattle.esds.specs.Texts.{BEFORE, esds_text, values_rule}

-- ---- the numbers

abbrev pub value_numbers : Values → List ℕ
value_numbers v = v.kind ∷ v.number ∷ v.object ∷ v.stream ∷ v.buffer ∷ v.maximum ∷ v.average ∷ v.specific ∷ []

abbrev pub esds_numbers : Esds → List ℕ
esds_numbers e = value_numbers e.values ++ (e.place ∷ e.span ∷ [])

-- an answer in the paper's numbers
abbrev pub opened_result : Result Esds Refusal → ToWrite
opened_result (Ok e) = gives (esds_numbers e)
opened_result (Err e) = refuses e.number e.place

-- ---- the reader

-- "50 doesn't fit .., 51 missing or surplus part, 52 wrong fixed number, lowest first"; the descriptors start at place p
unfoldable pub tree_result : (kind p : ℕ) → Tree → ToWrite
tree_result kind p t =
    asked ((50, all_fit t) ∷ (51, wanted_parts (in_order t)) ∷ (52, fixed_in t (values_in kind t)) ∷ [])
    (gives (esds_numbers (esds_in kind p t)))

-- of an entry xs of a kind, at place p, whose `esds` stands behind its head; 20 for another kind
unfoldable pub opened_as : (kind p : ℕ) → List ℕ → ToWrite
opened_as kind p xs =
    asked ((20, has_esds kind) ∷ []) (tree_result kind (p + (head_size kind + BEFORE)) (tree TOP (drop (head_size kind + BEFORE) xs)))

-- the first of some entries; 20 where there is none
unfoldable pub first_opened : List Entry → ToWrite
first_opened [] = refuses 20 0
first_opened (e ∷ l) = opened_as (kind_of (word 4 e.bytes 4)) e.place e.bytes

-- entry i, from 1
unfoldable pub entry_opened : List ℕ → ℕ → ToWrite
entry_opened xs i = if_eq i 0 (refuses 20 0) (first_opened (drop (i - 1) (entries xs)))

-- 1 to 10, 20, 50, 51, 52, 25
unfoldable pub esds_read : List ℕ → ℕ → ToWrite
esds_read xs i = when_accepted refuses (judged xs) (entry_opened xs i)

-- the specific information as a part of the file, empty where it isn't there and where the call is refused
abbrev pub specific_part : List ℕ → ToWrite → List ℕ
specific_part xs (gives ns) = take (get_or ns 9 0) (drop (get_or ns 8 0) xs)
specific_part xs (refuses n p) = []

-- ---- the writer

-- the values of eight numbers
abbrev pub values_of : List ℕ → Values
values_of ns =
    record {
      kind = get_or ns 0 0;
      number = get_or ns 1 0;
      object = get_or ns 2 0;
      stream = get_or ns 3 0;
      buffer = get_or ns 4 0;
      maximum = get_or ns 5 0;
      average = get_or ns 6 0;
      specific = get_or ns 7 0;
    }

-- 20, 50, 52, 25: "20 for another count of fields or another kind"
unfoldable pub esds_write : List ℕ → List ℕ → ToWrite
esds_write ns s =
    asked
    ((20, every (is_eq (length ns) 8 ∷ has_esds (get_or ns 0 0) ∷ []))
    ∷ (50, values_rule (values_of ns) s)
    ∷ (52, kind_rule (values_of ns))
    ∷ [])
    (gives (esds_text (values_of ns) s))
