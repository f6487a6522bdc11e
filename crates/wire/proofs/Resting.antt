-- A text that is written piece by piece. Assumes nothing.
use Prim.Native.Nat.{ℕ}
use mathlib.Core.Path.{◌≡◌, refl, sym, ◌∙◌}
use mathlib.Core.List.{List, [], ◌++◌}
use Rattle.wire.specs.Writing.{Put, Rest}
use Rattle.wire.proofs.Writing.{pen_none, pen_then, pen_is}

pub rest_all : (whole out : List ℕ) (from : ℕ) → Rest whole whole out from out from
rest_all whole out from = record { same = refl; then = λ r after p. p }

module _ {whole rest out₀ out : List ℕ} {from at : ℕ} (w : Rest whole rest out₀ from out at) where
  pub rest_more : {mid xs more : List ℕ} {m : ℕ} → rest ≡ xs ++ more → Put xs out at m mid → Rest whole more out₀ from mid m
  rest_more e p = record { same = p.same ∙ w.same; then = λ r after q. w.then r after (pen_is (sym e) (pen_then p q)) }

  -- the last piece, and none left
  pub rest_last : {after : List ℕ} {r : ℕ} → Put rest out at r after → Put whole out₀ from r after
  rest_last p = w.then _ _ p

  pub rest_none : rest ≡ [] → Put whole out₀ from at out
  rest_none e = rest_last (pen_is (sym e) (pen_none out at))
