-- A file that wasn't finished, by the tests on its fields, branch by branch of the code; and where its payload starts. Assumes nothing.
use Prim.Native.Nat.{ℕ, ◌+◌, ◌≤◌, ◌<◌}
use native.Mathlib.Omega.{arith}
use mathlib.Core.Path.{◌≡◌, sym}
use mathlib.Core.Bool.{true, false}
use mathlib.Core.List.{List}
use lib.ListN.{length, drop, length-drop}
use lib.Seq.{drop-drop}
use Rattle.wire.specs.Tests.{pick}
use Rattle.wire.proofs.Tests.{lt_or}
use Rattle.wire.proofs.Clauses.{is_eq_lem, not_eq, eq_is, is_le_lem, not_le, fails, holds, done, clause}
use Rattle.wire.proofs.Numbers.{word_out}
use Rattle.codes.specs.Codes.{FTYP}
use Rattle.boxes.specs.Boxes.{HEAD}
use Rattle.frames.proofs.Answers.{front_was, front_was_none}
use Rattle.std.specs.declared.option.Option.{Option}
use Rattle.std.specs.declared.option.Option.TheVariants.{Some, None}
use Rattle.salvage.specs.Unfinished.{size_field, code_field, behind_ftyp, endless, unfinished}
use Rattle.salvage.specs.Salvage.{payload_of}

-- ---- an `mdat` whose end isn't there

module _ (ys : List ℕ) where
  pub header_there : endless ys ≡ true → HEAD ≤ length ys
  unfolding endless
  header_there e = lt_or (length ys) HEAD (λ h. absurd (omega (arith, eq_is _ _ (clause 0 _ e), word_out 4 ys 4 h))) (λ h. h)

-- ---- the file

module _ (xs : List ℕ) where
  -- where the payload starts, and nothing for another file
  abbrev pub start_of : Option ℕ
  start_of = pick (unfinished xs) (Some (size_field xs + HEAD)) None

  start_none : false ≡ unfinished xs → None ≡ start_of
  start_none e = rw (← e)

  pub other_file : (code_field xs ≡ FTYP → ⊥) → None ≡ start_of
  unfolding unfinished
  other_file h = start_none (fails 0 _ (not_eq _ _ h))

  pub no_header : size_field xs < HEAD → None ≡ start_of
  unfolding unfinished
  no_header h = start_none (fails 1 _ (not_le _ _ h))

  pub ftyp_past : length xs < size_field xs → None ≡ start_of
  unfolding unfinished
  ftyp_past h = start_none (fails 2 _ (not_le _ _ h))

  pub is_such : code_field xs ≡ FTYP → HEAD ≤ size_field xs → size_field xs ≤ length xs → endless (behind_ftyp xs) ≡ true → unfinished xs ≡ true
  unfolding unfinished
  is_such f h l e = sym (holds _ _ (is_eq_lem _ _ f) (holds _ _ (is_le_lem _ _ h) (holds _ _ (is_le_lem _ _ l) (holds _ _ e done))))

  module _ {n : ℕ} {ys : List ℕ} (s : n ≡ size_field xs) (y : ys ≡ drop n xs) where
    pub ends : endless ys ≡ false → None ≡ start_of
    unfolding unfinished
    ends e = start_none (fails 3 _ (rw (y, s) at e))

    pub starts : code_field xs ≡ FTYP → HEAD ≤ n → n ≤ length xs → endless ys ≡ true → (Some (n + HEAD) ≡ start_of) × (n + HEAD ≤ length xs)
    starts f h l e =
        let b : endless (behind_ftyp xs) ≡ true = rw (y, s) at e in
        (rw (is_such f (rw s at h) (rw s at l) b, s), omega (arith, header_there (behind_ftyp xs) b, length-drop (size_field xs) xs))

  -- back from where it starts
  module _ {o : Option ℕ} (e : o ≡ start_of) where
    pub not_such : o ≡ None → unfinished xs ≡ false
    not_such z = front_was_none (unfinished xs) (size_field xs + HEAD) o e z

    pub such : {s : ℕ} → o ≡ Some s → (unfinished xs ≡ true) × (s ≡ size_field xs + HEAD)
    such z = front_was (unfinished xs) (size_field xs + HEAD) o e z

  pub payload_is : {s : ℕ} → s ≡ size_field xs + HEAD → drop s xs ≡ payload_of xs
  unfolding payload_of
  payload_is e = rw e (sym (drop-drop HEAD (size_field xs) xs))
