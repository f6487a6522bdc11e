-- The values in an `esds`: where they stand in its tree of descriptors, and which of them are fixed.
use Rattle.std.specs.Prelude.{ℕ, ◌+◌, ◌/◌, ◌%◌, Bool, List, [], ◌∷◌, length}
use Rattle.wire.specs.Tests.{if_eq}
use Rattle.wire.specs.Clauses.{is_eq, every, either}
use Rattle.wire.specs.Numbers.{word}
use Rattle.entry_heads.specs.Kinds.{Mp4vKind, Mp4aKind}
use Rattle.descriptors.specs.Parts.{ES, CONFIGURATION, fixed_of}
use Rattle.descriptors.specs.Trees.{Tree, first_head, first_own, first_held, after_first}
use Rattle.esds.specs.declared.value.Values.{Values}
use Rattle.esds.specs.declared.value.Esds.{Esds}

-- ---- the parts of a tree

-- the own bytes of the decoder configuration, and of the SL configuration
unfoldable pub configuration : Tree → List ℕ
configuration t = first_own (first_held t)

unfoldable pub sl : Tree → List ℕ
sl t = first_own (after_first (first_held t))

-- what the decoder configuration holds
unfoldable pub specific : Tree → Tree
specific t = first_held (first_held t)

-- ---- what they say

-- "ES number", "object type, stream type, buffer size and both bit rates", of which "maximum [stands] first, then average"
unfoldable pub values_by : (kind : ℕ) (es configuration : List ℕ) (specific : ℕ) → Values
values_by kind es configuration specific =
    record {
      kind = kind;
      number = word 2 es 0;
      object = word 1 configuration 0;
      stream = word 1 configuration 1 / 4;
      buffer = word 3 configuration 2;
      maximum = word 4 configuration 5;
      average = word 4 configuration 9;
      specific = specific;
    }

-- 1 where the specific information is there, else 0: every header has a length
unfoldable pub given : Tree → ℕ
given t = if_eq (first_head (specific t)) 0 0 1

unfoldable pub values_in : (kind : ℕ) → Tree → Values
values_in kind t = values_by kind (first_own t) (configuration t) (given t)

-- how far into the descriptors the specific information stands: behind two headers with the own bytes of their parts, and its own header
unfoldable pub specific_at : Tree → ℕ
specific_at t = first_head t + fixed_of ES + (first_head (first_held t) + fixed_of CONFIGURATION) + first_head (specific t)

-- the values, and the place and the length of the specific information, both 0 where it isn't there; the descriptors start at place p
unfoldable pub esds_in : (kind p : ℕ) → Tree → Esds
esds_in kind p t =
    record {
      values = values_in kind t;
      place = if_eq (given t) 0 0 (p + specific_at t);
      span = if_eq (given t) 0 0 (length (first_own (specific t)));
    }

-- ---- the fixed numbers

-- "Object type is 0x20 in `mp4v` and 0x40 in `mp4a`, stream type 4 and 5"
unfoldable pub has_esds : (kind : ℕ) → Bool
has_esds kind = either (is_eq kind Mp4vKind ∷ is_eq kind Mp4aKind ∷ [])

unfoldable pub kind_rule : Values → Bool
kind_rule v =
    every (is_eq v.object (if_eq v.kind Mp4vKind 0x20 0x40) ∷ is_eq v.stream (if_eq v.kind Mp4vKind 4 5) ∷ [])

-- 52: "The flags byte after the ES number is 0", "upstream bit 0, reserved bit 1", "predefined 2"; and by the kind
unfoldable pub fixed_by : (es configuration sl : List ℕ) → Values → Bool
fixed_by es configuration sl v =
    every
    (is_eq (word 1 es 2) 0
    ∷ is_eq (word 1 configuration 1 / 2 % 2) 0
    ∷ is_eq (word 1 configuration 1 % 2) 1
    ∷ is_eq (word 1 sl 0) 2
    ∷ kind_rule v
    ∷ [])

unfoldable pub fixed_in : Tree → Values → Bool
fixed_in t v = fixed_by (first_own t) (configuration t) (sl t) v
