-- What reading tells: all fit, and the last part is the SL configuration exactly where the parts are the wanted ones. Assumes nothing.
use Prim.Native.Nat.{ℕ}
use mathlib.Core.Path.{◌≡◌, refl, sym, ◌∙◌}
use mathlib.Core.Bool.{Bool, true, false}
use mathlib.Core.List.{List, [], ◌∷◌, ◌++◌}
use Rattle.wire.specs.Tests.{pick, if_eq}
use Rattle.wire.specs.Clauses.{is_eq, every, either}
use borrow.Author.Tests.{ne_eqb}
use Rattle.std.specs.Str.{bytes_eq}
use Rattle.wire.proofs.Tests.{eq_yea, eq_nay, eq_or}
use Rattle.descriptors.specs.declared.list.Reading.{Reading}
use Rattle.descriptors.specs.Parts.{ES, CONFIGURATION, SPECIFIC, SL, TOP, OTHER, own_fits}
use Rattle.descriptors.specs.Trees.{Tree, end, loose, descriptor, all_fit, in_order, wanted_parts}
use Rattle.descriptors.specs.Reading.{part_after, parts_after, met, read_on}

-- ---- whether all fit

three : (a b c n : Bool) → pick c (pick b (pick a n false) false) false ≡ pick (every (a ∷ b ∷ c ∷ [])) n false
unfolding every
three true true true n = refl
three true true false n = refl
three true false true n = refl
three true false false n = refl
three false true true n = refl
three false true false n = refl
three false false true n = refl
three false false false n = refl

pub read_fits : (r : Reading) (t : Tree) → (read_on r t).fits ≡ pick (all_fit t) r.fits false
unfolding read_on all_fit met
read_fits r end = refl
read_fits r loose = refl
read_fits r (descriptor j h own held next) =
    read_fits (read_on (met r j own) held) next ∙ rw (read_fits (met r j own) held) (three (own_fits j own) (all_fit held) (all_fit next) r.fits)

-- ---- the last part

after_append : (s : ℕ) (l m : List ℕ) → parts_after s (l ++ m) ≡ parts_after (parts_after s l) m
unfolding parts_after
after_append s [] m = refl
after_append s (x ∷ l) m = after_append (part_after s x) l m

pub read_last : (r : Reading) (t : Tree) → (read_on r t).last ≡ parts_after r.last (in_order t)
unfolding read_on in_order met parts_after
read_last r end = refl
read_last r loose = refl
read_last r (descriptor j h own held next) =
    read_last (read_on (met r j own) held) next ∙ rw (read_last (met r j own) held) (sym (after_append (part_after r.last j) (in_order held) (in_order next)))

-- ---- the wanted parts

-- from a part that was the last on, the rest leads to the SL configuration
leads : ℕ → List ℕ → Bool
leads s l = is_eq (parts_after s l) SL

nowhere : (l : List ℕ) → leads OTHER l ≡ false
unfolding leads parts_after part_after if_eq is_eq
nowhere [] = refl
nowhere (x ∷ l) = nowhere l

last_leads : (l : List ℕ) → leads SL l ≡ bytes_eq l []
unfolding leads parts_after part_after if_eq is_eq
last_leads [] = refl
last_leads (x ∷ l) = nowhere l

-- the rest is m
is : List ℕ → List ℕ → Bool
is m l = bytes_eq l m

other_is : (x t : ℕ) (l m : List ℕ) → (x ≡ t → ⊥) → is (t ∷ m) (x ∷ l) ≡ false
unfolding is
other_is x t l m n = rw (ne_eqb x t n)

-- the rest is m or n
one_of : (m n l : List ℕ) → Bool
one_of m n l = either (is m l ∷ is n l ∷ [])

none_of : (x t : ℕ) (l m n : List ℕ) → (x ≡ t → ⊥) → one_of (t ∷ m) (t ∷ n) (x ∷ l) ≡ false
unfolding one_of either
none_of x t l m n z = rw (other_is x t l m z, other_is x t l n z)

-- one part alone may part_after, and what is asked is that it does and then f
module _ (s t : ℕ) (f g : List ℕ → Bool) (only : (x : ℕ) → part_after s x ≡ if_eq x t x OTHER) (early : is_eq s SL ≡ false)
    (more : (l : List ℕ) → leads t l ≡ f l) (none : g [] ≡ false) (here : (l : List ℕ) → g (t ∷ l) ≡ f l)
    (other : (x : ℕ) (l : List ℕ) → (x ≡ t → ⊥) → g (x ∷ l) ≡ false) where
  one_leads : (l : List ℕ) → leads s l ≡ g l
  unfolding leads parts_after
  one_leads [] = early ∙ sym none
  one_leads (x ∷ l) =
      eq_or x t
      (λ e. let q : part_after s x ≡ t = only x ∙ sym (eq_yea _ _ _ _ _ e (sym e)) in rw (q, e) (more l ∙ sym (here l)))
      (λ n. let q : part_after s x ≡ OTHER = only x ∙ sym (eq_nay _ _ _ _ _ n refl) in rw q (nowhere l ∙ sym (other x l n)))

-- the rest of the parts, from the last on
abbrev ends : List ℕ
ends = SL ∷ []

abbrev long : List ℕ
long = SPECIFIC ∷ ends

specific_leads : (l : List ℕ) → leads SPECIFIC l ≡ is ends l
unfolding is part_after if_eq is_eq
specific_leads = one_leads SPECIFIC SL (is []) (is ends) (λ x. refl) refl last_leads refl (λ l. refl) (λ x l n. other_is x SL l [] n)

-- here two may part_after
second : (b : Bool) → b ≡ either (false ∷ b ∷ [])
unfolding either
second true = refl
second false = refl

first : (b : Bool) → b ≡ either (b ∷ false ∷ [])
unfolding either
first true = refl
first false = refl

configuration_leads : (l : List ℕ) → leads CONFIGURATION l ≡ one_of ends long l
unfolding leads parts_after part_after one_of either is if_eq is_eq
configuration_leads [] = refl
configuration_leads (x ∷ l) =
    eq_or x SPECIFIC (λ e. rw e (specific_leads l ∙ second (is ends l)))
    (λ m. eq_or x SL (λ e. rw e (last_leads l ∙ first (is [] l)))
    (λ n.
    let q : part_after CONFIGURATION x ≡ OTHER = sym (eq_nay x SPECIFIC x _ OTHER m (eq_nay x SL x OTHER OTHER n refl)) in
    rw (q, other_is x SL l [] n, other_is x SPECIFIC l ends m) (nowhere l)))

es_leads : (l : List ℕ) → leads ES l ≡ one_of (CONFIGURATION ∷ ends) (CONFIGURATION ∷ long) l
unfolding is one_of part_after if_eq is_eq either
es_leads =
    one_leads ES CONFIGURATION (one_of ends long) (one_of (CONFIGURATION ∷ ends) (CONFIGURATION ∷ long)) (λ x. refl) refl configuration_leads refl
    (λ l. refl) (λ x l n. none_of x CONFIGURATION l ends long n)

pub wanted_leads : (l : List ℕ) → is_eq (parts_after TOP l) SL ≡ wanted_parts l
unfolding leads is one_of part_after if_eq is_eq either wanted_parts
wanted_leads =
    one_leads TOP ES (one_of (CONFIGURATION ∷ ends) (CONFIGURATION ∷ long)) wanted_parts (λ x. refl) refl es_leads refl
    (λ l. refl) (λ x l n. none_of x ES l (CONFIGURATION ∷ ends) (CONFIGURATION ∷ long) n)
