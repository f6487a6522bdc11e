-- A kind and its code. Assumes nothing.
use Prim.Native.Nat.{ℕ, ◌≤◌}
use native.Mathlib.Omega.{arith}
use mathlib.Core.Path.{◌≡◌, refl, sym, ap, ◌∙◌}
use mathlib.Core.Bool.{true}
use mathlib.Core.Logic.{⊎_elim}
use lib.Dec.{eqb}
use borrow.Author.Tests.{eqb-true}
use Rattle.wire.specs.Tests.{if_eq}
use Rattle.codes.specs.Codes.{MP4V, MP4A, SAMR, SAWB, S263, AVC1}
use Rattle.wire.specs.Sums.{all_to}
use Rattle.wire.proofs.Tests.{eq_ways}
use Rattle.wire.proofs.Sums.{all_at}
use Rattle.entry_heads.specs.Kinds.{OtherKind, Mp4vKind, Mp4aKind, SamrKind, SawbKind, S263Kind, Avc1Kind, kind_of, code_of}

codes : (MP4V ≡ code_of Mp4vKind) × (MP4A ≡ code_of Mp4aKind) × (SAMR ≡ code_of SamrKind) × (SAWB ≡ code_of SawbKind) × (S263 ≡ code_of S263Kind) × (AVC1 ≡ code_of Avc1Kind)
unfolding code_of if_eq
codes = (refl, refl, refl, refl, refl, refl)

-- a known kind has one code
pub kind_code : (code kind : ℕ) → kind_of code ≡ kind → (kind ≡ OtherKind → ⊥) → code ≡ code_of kind
unfolding kind_of
kind_code code kind h z =
    next _ _ _ codes.0 (next _ _ _ codes.1 (next _ _ _ codes.2 (next _ _ _ codes.3 (next _ _ _ codes.4 (next _ _ _ codes.5 (λ e. absurd (z (sym e)))))))) h
  where
    next : (x k r : ℕ) → x ≡ code_of k → (r ≡ kind → code ≡ code_of kind) → if_eq code x k r ≡ kind → code ≡ code_of kind
    next x k r e rest g = ⊎_elim (λ w. w.0 ∙ e ∙ ap code_of w.1) (λ w. rest w.1) (eq_ways code x k r kind g)

-- and its code is of that kind
all_codes : all_to (λ k. eqb (kind_of (code_of k)) k) 7 ≡ true
unfolding all_to kind_of code_of if_eq
all_codes = refl

pub code_kind : (kind : ℕ) → kind ≤ Avc1Kind → kind_of (code_of kind) ≡ kind
code_kind kind h = eqb-true _ _ (all_at (λ k. eqb (kind_of (code_of k)) k) 7 all_codes kind (omega arith))
