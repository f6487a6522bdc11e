-- Where a chunk is looked for: a start can only make the search shorter.
use Rattle.std.specs.Prelude.{ℕ, ◌+◌, ◌-◌, ◌*◌, ◌≤◌, ◌<◌, ◌≡◌, Bool, true, false, List, [], ◌∷◌, ◌++◌, length, drop, get_or}
use Rattle.wire.specs.Tests.{pick}
use Rattle.wire.specs.Clauses.{is_eq, is_le, every}
use Rattle.codes.specs.Codes.{MDAT}
use Rattle.boxes.specs.declared.walk.BoxAt.{BoxAt}
use Rattle.boxes.specs.Box.{Box}
use Rattle.boxes.specs.Boxes.{boxes, total}
use Rattle.boxes.specs.Seek.{find, start_in}
use Rattle.mdat.specs.declared.payload.Payload.{Payload}
use Rattle.std.specs.declared.result.Result.{Result}
use Rattle.std.specs.declared.result.Result.TheVariants.{Ok, Err}
use Rattle.mdat.specs.declared.payload.Missed.{Missed}
use Rattle.mdat.specs.declared.payload.Missed.TheVariants.{Out, Far}
use Rattle.mdat.specs.Rules.{lies}

-- a search for what stands at place o may start at place p: one of the file's boxes starts there, and before o, or p is the front
pub record Start (xs : List ℕ) (o p : ℕ) : Type 0 where
  pub front : List Box
  pub list : boxes xs ≡ front ++ boxes (drop p xs)
  pub long : total front ≡ p
  pub before : p ≤ o - 1

-- p is the payload of an `mdat` of the file, or nothing lies in it; a box starts where it ends
pub record Media (xs : List ℕ) (p : Payload) : Type 0 where
  pub inside : (o n : ℕ) → p.start ≤ o → o + n ≤ p.end → lies (boxes xs) 0 o n ≡ true
  pub next : Start xs (p.end + 1) p.end

-- of any file whose first `mdat` has the payload from `start` to `end`: r is one of its payloads
pub record FirstMedia (start end : ℕ) (r : Payload) : Type 0 where
  pub media : (xs : List ℕ) → end - start ≡ length (find MDAT (boxes xs))
      → (0 < length (find MDAT (boxes xs)) → start ≡ start_in MDAT 0 (boxes xs)) → Media xs r

-- how many bytes of the file have one number of the index
abbrev pub STRIDE : ℕ
STRIDE = 256

-- how many numbers the longest file has
abbrev pub PLACES : ℕ
PLACES = 4097

-- number j of the index: where a search past the first j strides may start
pub record Index (xs index : List ℕ) : Type 0 where
  pub start : (j : ℕ) → j < length index → Start xs (STRIDE * j + 1) (get_or index j 0)

-- the n bytes from place o on, by a box that has place o
unfoldable pub held_by : BoxAt → ℕ → ℕ → Result Payload Missed
held_by b o n =
    pick (every (is_eq b.code MDAT ∷ is_le (b.at + b.head) o ∷ is_le (o + n) (b.at + b.span) ∷ []))
    (Ok (record { start = b.at + b.head; end = b.at + b.span })) (Err Out)

-- what an answer says: they lie inside, and in this payload; they don't; or why the search was given up
abbrev pub looked : List ℕ → (hit miss far : Type 0) → Result Payload Missed → Type 0
looked xs hit miss far (Ok p) = hit × Media xs p
looked xs hit miss far (Err Out) = miss
looked xs hit miss far (Err Far) = far

pub record LookedAs (xs : List ℕ) (hit miss far : Type 0) (r : Result Payload Missed) : Type 0 where
  pub says : looked xs hit miss far r

-- the same of a test that holds or fails
abbrev pub TestedAs : List ℕ → Bool → (far : Type 0) → Result Payload Missed → Type 0
TestedAs xs t far r = LookedAs xs (t ≡ true) (t ≡ false) far r

-- of any file with the index: r is a start for place o, where a box starts at `end`
pub record Nearest (index : List ℕ) (end o r : ℕ) : Type 0 where
  pub start : (xs : List ℕ) → Start xs (end + 1) end → Index xs index → Start xs o r

-- a box's start `at` was noted for the places up to its end, the next being number r: an index stays one
pub record Noted (at end r : ℕ) (old new : List ℕ) : Type 0 where
  pub same : length new ≡ length old
  pub past : r < length old → end ≤ STRIDE * r
  pub kept : (xs : List ℕ) → Start xs (at + 1) at → Index xs old → Index xs new
