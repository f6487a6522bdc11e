-- The `esds` of an entry by its number: 20, or what its descriptors give; and the specific information as a part of the file. Assumes nothing.
use Rattle.std.specs.Prelude.{Option, Some, None, Result, Ok, Err}
use Prim.Native.Nat.{ℕ, ◌+◌, ◌-◌, ◌≤◌}
use native.Mathlib.Omega.{arith}
use mathlib.Core.Path.{◌≡◌, refl, sym, ap, ◌∙◌}
use mathlib.Core.List.{List, []}
use lib.ListN.{length, take, drop, drop_of_length-le}
use Rattle.wire.specs.Numbers.{word}
use Rattle.wire.proofs.Tests.{eq_yea, eq_nay, eq_any}
use mathlib.Core.Bool.{Bool, true, false}
use Rattle.codes.specs.Codes.{SOUN, VIDE}
use Rattle.entry_heads.specs.Kinds.{kind_of, handler_of}
use Rattle.entry_heads.specs.Heads.{VISUAL, head_size}
use Rattle.descriptors.specs.Parts.{TOP}
use Rattle.descriptors.specs.Trees.{tree}
use Rattle.movie.specs.declared.entry.EntryAt.{EntryAt}
use Rattle.movie.specs.Entries.{entries}
use Rattle.movie.specs.Named.{NamedAs, EntryIs}
use Rattle.rule.specs.Results.{ToWrite, asked, Exact}
use Rattle.rule.specs.Results.ToWrite.{gives, refuses}
use Rattle.rule.proofs.Results.{exact_refuses}
use Rattle.esds.specs.declared.value.Esds.{Esds}
use Rattle.std.specs.Result.{IsErrAnd}
use Rattle.rule.specs.declared.Refusal.{Refusal}
use Rattle.rule.proofs.SameRefusal.{passed_on}
use Rattle.esds.specs.Values.{has_esds}
use Rattle.esds.specs.Texts.{BEFORE}
use Rattle.esds.specs.Calls.{esds_numbers, opened_result, tree_result, opened_as, first_opened, entry_opened, specific_part}
use Rattle.rule.specs.Answers.{Answer, Refused}

-- no head is longer than a visual one
pub head_most : (kind : ℕ) {n : ℕ} → n ≡ head_size kind → n ≤ VISUAL
unfolding head_size
head_most kind e =
    rw e (eq_any (λ (n : ℕ). n ≤ VISUAL) (handler_of kind) SOUN _ _ (omega arith)
    (eq_any (λ (n : ℕ). n ≤ VISUAL) (handler_of kind) VIDE _ _ (omega arith) (omega arith)))

-- ---- an entry

module _ (p : ℕ) (xs : List ℕ) {w kind : ℕ} {o : Bool} (c : w ≡ word 4 xs 4) (k : kind ≡ kind_of w) (h : o ≡ has_esds kind) where
  kind_is : kind_of (word 4 xs 4) ≡ kind
  kind_is = rw (← c) (sym k)

  pub other_kind : o ≡ false → refuses 20 0 ≡ opened_as (kind_of (word 4 xs 4)) p xs
  unfolding opened_as asked
  other_kind z = rw (kind_is, sym h ∙ z)

  pub this_kind : o ≡ true → {n : ℕ} {ys : List ℕ} {r : ToWrite} → n ≡ head_size kind → ys ≡ drop (n + BEFORE) xs
      → r ≡ tree_result kind (p + (n + BEFORE)) (tree TOP ys) → r ≡ opened_as (kind_of (word 4 xs 4)) p xs
  unfolding opened_as asked
  this_kind z e q f = rw (kind_is, sym h ∙ z, ← e, ← q) f

-- ---- by its number

module _ (xs : List ℕ) (i : ℕ) where
  pub entry_zero : i ≡ 0 → refuses 20 0 ≡ entry_opened xs i
  unfolding entry_opened
  entry_zero z = eq_yea _ _ _ _ _ z refl

  module _ (n : i ≡ 0 → ⊥) {w : Option EntryAt} (a : NamedAs xs (i - 1) w) where
    pub entry_missing : w ≡ None → refuses 20 0 ≡ entry_opened xs i
    unfolding entry_opened first_opened NamedAs
    entry_missing h =
        let l : length (entries xs) ≤ i - 1 = rw h at a in
        eq_nay _ _ _ _ _ n (rw (drop_of_length-le (entries xs) {i = i - 1} l))

    pub entry_there : (e : EntryAt) → w ≡ Some e → EntryIs xs (i - 1) e
    unfolding NamedAs
    entry_there e h = rw h at a

    -- its bytes are ys
    pub entry_opened_lem : (e : EntryAt) {ys : List ℕ} {r : ToWrite} → w ≡ Some e → ys ≡ take (e.place + e.span - e.place) (drop e.place xs)
        → r ≡ opened_as (kind_of (word 4 ys 4)) e.place ys → r ≡ entry_opened xs i
    unfolding entry_opened first_opened
    entry_opened_lem e h f q =
        let z : e.place + e.span - e.place ≡ e.span = omega arith in
        let u = (entry_there e h).is in
        eq_nay _ _ _ _ _ n (rw (u, ← z, ← f) q)

-- ---- the calls

module _ {g : ToWrite} {o : Result Esds Refusal} (q : opened_result o ≡ g) where
  pub opened_gives : (out : List ℕ) (e : Esds) → o ≡ Ok e → {a : Answer} {left : List ℕ} → Exact (gives (esds_numbers e)) out a left → Exact g out a left
  opened_gives out e h x = let u : gives (esds_numbers e) ≡ g = ap opened_result (sym h) ∙ q in rw (← u) x

  pub opened_refuses : (out : List ℕ) {f : Refusal} (r : Answer) → o ≡ Err f → IsErrAnd r (λ y. y ≡ f) → Exact g out r out
  opened_refuses out {f} r h k = let u : refuses f.number f.place ≡ g = ap opened_result (sym h) ∙ q in rw (passed_on r k, ← u) (exact_refuses _ _ out)

  module _ (xs : List ℕ) where
    pub part_given : (e : Esds) → o ≡ Ok e → {ys zs : List ℕ} → ys ≡ drop e.place xs → zs ≡ take e.span ys → zs ≡ specific_part xs g
    part_given e h f k = k ∙ rw f (let u : gives (esds_numbers e) ≡ g = ap opened_result (sym h) ∙ q in rw (← u))

    pub part_refused : (n p : ℕ) → o ≡ Refused n p → [] ≡ specific_part xs g
    part_refused n p h = let u : refuses n p ≡ g = ap opened_result (sym h) ∙ q in rw (← u)
