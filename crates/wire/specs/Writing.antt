-- What a writer tells of the buffer that it was lent.
use Rattle.std.specs.Prelude.{ℕ, ◌+◌, ◌≤◌, ◌≡◌, List, ◌++◌, length, take, drop}

-- xs in the place of what stands from place at on
unfoldable pub put : List ℕ → ℕ → List ℕ → List ℕ
put out at xs = take at out ++ (xs ++ drop (at + length xs) out)

-- xs was written to the front; what lies past it stays, and n is the length of xs
pub record Wrote (xs out : List ℕ) (n : ℕ) (after : List ℕ) : Type 0 where
  pub span : n ≡ length xs
  pub is : after ≡ xs ++ drop n out

-- a total writer: r is the place past xs, whether xs fits there or not; where it fits it stands there, and all else stays
pub record Put (xs out : List ℕ) (at r : ℕ) (after : List ℕ) : Type 0 where
  pub next : r ≡ at + length xs
  pub same : length after ≡ length out
  pub is : r ≤ length out → after ≡ put out at xs

-- of the text `whole`, which goes to place `from` of `out₀` piece by piece, `rest` is left to write, at place `at` of what is now `out`
pub record Rest (whole rest out₀ : List ℕ) (from : ℕ) (out : List ℕ) (at : ℕ) : Type 0 where
  pub same : length out ≡ length out₀
  pub then : (r : ℕ) (after : List ℕ) → Put rest out at r after → Put whole out₀ from r after
