-- An order of the file's boxes that no rule sees.
use Prim.Native.Nat.{ℕ}
use mathlib.Core.Path.{◌≡◌, refl}
use mathlib.Core.List.{List, [], map}
use lib.ListN.{length}
use Rattle.boxes.specs.Box.{Box, write}
use Rattle.boxes.specs.Seek.{ANY, count, find}
use Rattle.boxes.specs.Rewrite.{Bodies, over}
use Rattle.boxes.proofs.Reading.{All, Shut}
use Rattle.mdat.specs.Payloads.{mdats}
use Rattle.rule_shape.specs.Three.{first}
use Rattle.edit_offsets.proofs.Closing.{ShutMoov}

-- the same boxes, each with its bytes; an open one stays last where it is no `moov`; what the rules read of the list stays, and bodies are not looked at
pub record Arranges (A : List Box → List Box) : Type 1 where
  pub each : {P : Box → Type 0} {l : List Box} → All P l → All P (A l)
  pub shut : {l : List Box} → All ShutMoov l → Shut [] l → Shut [] (A l)
  pub span : (l : List Box) → length (write (A l)) ≡ length (write l)
  pub payloads : (l : List Box) → mdats (A l) ≡ mdats l
  pub counts : (c : ℕ) (l : List Box) → count c (A l) ≡ count c l
  pub first : (l : List Box) → first (A l) ≡ first l
  pub found : (c : ℕ) → (c ≡ ANY → ⊥) → (l : List Box) → find c (A l) ≡ find c l
  pub maps : (f : Bodies) (l : List Box) → A (map (over f) l) ≡ map (over f) (A l)

-- the order stays
pub stay : Arranges (λ l. l)
stay =
    record {
      each = λ a. a;
      shut = λ o z. z;
      span = λ l. refl;
      payloads = λ l. refl;
      counts = λ c l. refl;
      first = λ l. refl;
      found = λ c n l. refl;
      maps = λ f l. refl;
    }
