-- Two parts that have the same boxes but for the bodies of opaque ones: the relation of a part to what an edit makes of it.
use Rattle.std.specs.Prelude.{ℕ, zero, suc, ◌≡◌, List, [], ◌∷◌, ◌⊎◌}
use Rattle.codes.specs.Codes.{MOOV}
use Rattle.boxes.specs.declared.walk.Form.{Form}
use Rattle.boxes.specs.declared.walk.Form.TheVariants.{Plain, Open}
use Rattle.boxes.specs.Box.{Box}
use Rattle.boxes.specs.Boxes.{boxes, after}
use Rattle.boxes.specs.Containers.{FILE, kind_in}

-- two lists, box by box
pub data All2 (R : Box → Box → Type 0) : List Box → List Box → Type 0 where
  nil : All2 R [] []
  cons : {x y : Box} {l m : List Box} → R x y → All2 R l m → All2 R (x ∷ l) (y ∷ m)

-- how the bodies of an opaque box are related, by its container's kind and its code
abbrev pub Leaf : Type 1
Leaf = ℕ → ℕ → List ℕ → List ℕ → Type 0

-- a box of code c in a container of kind k keeps its form f, but "a moov of size 0 is given its true size"
abbrev pub Formed : (k c : ℕ) (f g : Form) → Type 0
Formed k c f g = (f ≡ g) ⊎ ((k ≡ FILE) × (c ≡ MOOV) × (f ≡ Open) × (g ≡ Plain))

-- two boxes in a container of kind k: opaque ones related by G, containers by go
pub record KinBox (G : Leaf) (go : ℕ → List ℕ → List ℕ → Type 0) (k : ℕ) (x y : Box) : Type 0 where
  pub form : Formed k x.code x.form y.form
  pub code : x.code ≡ y.code
  pub leaf : kind_in k x.code ≡ 0 → G k x.code x.body y.body
  pub node : (kind_in k x.code ≡ 0 → ⊥) → go (kind_in k x.code) x.body y.body

-- as deep as d containers
abbrev pub Kin : Leaf → ℕ → ℕ → List ℕ → List ℕ → Type 0
Kin G zero k xs ys = xs ≡ ys
Kin G (suc d) k xs ys = All2 (KinBox G (λ j us vs. Kin G d j us vs) k) (boxes xs) (boxes ys) × (after xs ≡ after ys)
