-- Counting and finding boxes by their code.
use Rattle.std.specs.Prelude.{ℕ, zero, suc, ◌+◌, ◌-◌, ◌≤◌, ◌≡◌, Bool, true, false, List, [], ◌∷◌, ◌++◌, length, take, drop, Option, Some, None, Result, Ok, Err}
use Rattle.wire.specs.Tests.{pick, if_eq}
use Rattle.wire.specs.Clauses.{every}
use Rattle.boxes.specs.declared.walk.BoxAt.{BoxAt}
use Rattle.boxes.specs.declared.walk.Form.{Form}
use Rattle.boxes.specs.declared.walk.Form.TheVariants.{Plain}
use Rattle.boxes.specs.Box.{Box, is_plain, head_of, head, size, write}
use Rattle.boxes.specs.Boxes.{boxes, after, tiles}
use Rattle.boxes.specs.Walk.{box_at}

-- boxes tile the part, or the tiling is torn where the bytes past the last box start
abbrev pub Tiling : Type 0
Tiling = Result (Unit {0}) ℕ

abbrev pub Whole : Tiling
Whole = Ok tt

abbrev pub Torn : ℕ → Tiling
Torn p = Err p

unfoldable pub tiling_of : List ℕ → Tiling
tiling_of xs = pick (tiles xs) Whole (Torn (length xs - length (after xs)))

-- any box is meant by the number 0, which is no code of the format
abbrev pub ANY : ℕ
ANY = 0

-- 1 where c means a box of code d, else 0
unfoldable pub meant : ℕ → ℕ → ℕ
meant c d = if_eq c ANY 1 (if_eq d c 1 0)

unfoldable pub count : ℕ → List Box → ℕ
count c [] = 0
count c (x ∷ l) = meant c x.code + count c l

abbrev pub by_number : {A : Type 0} → ℕ → A → (ℕ → A) → A
by_number zero a f = a
by_number (suc n) a f = f n

-- the payload of the n-th box that c means, from 0, and nothing where there is none
unfoldable pub nth : ℕ → ℕ → List Box → List ℕ
nth c n [] = []
nth c n (x ∷ l) = if_eq (meant c x.code) 0 (nth c n l) (by_number n x.body (λ m. nth c m l))

-- the payload of the first
abbrev pub find : ℕ → List Box → List ℕ
find c l = nth c 0 l

-- how far into the part the n-th box that c means starts, and f of it further; past all boxes where there is none
unfoldable pub place_by : (Box → ℕ) → ℕ → ℕ → List Box → ℕ
place_by f c n [] = 0
place_by f c n (x ∷ l) = if_eq (meant c x.code) 0 (size x + place_by f c n l) (by_number n (f x) (λ m. size x + place_by f c m l))

-- where it starts, and where its payload does
unfoldable pub place_in : ℕ → ℕ → List Box → ℕ
place_in c n l = place_by (λ x. 0) c n l

unfoldable pub start_in : ℕ → ℕ → List Box → ℕ
start_in c n l = place_by head c n l

-- the form of the n-th box that c means; that of a plain one where there is none
unfoldable pub form_in : ℕ → ℕ → List Box → Form
form_in c n [] = Plain
form_in c n (x ∷ l) = if_eq (meant c x.code) 0 (form_in c n l) (by_number n x.form (λ m. form_in c m l))

-- b is the n-th box that c means: the boxes before it, and those after it
pub record Cut (xs : List ℕ) (c n : ℕ) (b : BoxAt) : Type 0 where
  pub p : List Box
  pub q : List Box
  pub list : boxes xs ≡ p ++ box_at xs b ∷ q
  pub nth : count c p ≡ n
  pub hit : meant c b.code ≡ 1
  pub before : take b.at xs ≡ write p
  pub past : drop (b.at + b.span) xs ≡ write q ++ after xs
  pub head : b.head ≡ head_of b.form
  pub eight : 8 ≤ b.head
  pub least : b.head ≤ b.span
  pub inside : b.at + b.span ≤ length xs

abbrev pub SeenAs : List ℕ → ℕ → ℕ → Option BoxAt → Type 0
SeenAs xs c n (Some b) = Cut xs c n b
SeenAs xs c n None = count c (boxes xs) ≤ n

-- the boxes before place at are p, and c means `seen` of them
pub record Passed (xs : List ℕ) (c seen at : ℕ) : Type 0 where
  pub p : List Box
  pub list : boxes xs ≡ p ++ boxes (drop at xs)
  pub hits : count c p ≡ seen
  pub bytes : take at xs ≡ write p
  pub rest : after xs ≡ after (drop at xs)
  pub few : seen ≤ at
  pub inside : at ≤ length xs

-- ---- plain boxes alone

-- "only the plain 8-byte header is read"
unfoldable pub all_plain : List Box → Bool
all_plain [] = true
all_plain (x ∷ l) = pick (is_plain x.form) (all_plain l) false

-- such boxes tile the part
abbrev pub plain_tiles : List ℕ → Bool
plain_tiles xs = every (tiles xs ∷ all_plain (boxes xs) ∷ [])

-- c means `seen` of the boxes before place at, which are plain
pub record Tallied (xs : List ℕ) (c seen at : ℕ) : Type 0 where
  pub passed : Passed xs c seen at
  pub plain : all_plain (boxes xs) ≡ all_plain (boxes (drop at xs))
