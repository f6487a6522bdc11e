-- A form closed, and a list of boxes of which each `moov` is: the same sizes, bodies and layout, and no open `moov`. Assumes nothing.
use Prim.Native.Nat.{ℕ}
use native.Mathlib.Omega.{arith}
use mathlib.Core.Path.{◌≡◌, refl, sym, ap, ◌∙◌}
use mathlib.Core.List.{List, [], ◌∷◌, map}
use mathlib.Core.Logic.{inl, inr}
use lib.ListN.{length}
use Rattle.wire.proofs.Tests.{eq_yea, eq_nay, eq_or}
use Rattle.codes.specs.Codes.{MOOV}
use Rattle.boxes.specs.declared.walk.Form.{Form}
use Rattle.boxes.specs.declared.walk.Form.TheVariants.{Plain, Wide, Open}
use Rattle.boxes.specs.Box.{Box, head_of, size, write}
use Rattle.boxes.specs.Boxes.{total}
use Rattle.boxes.specs.Containers.{FILE, kind_in}
use Rattle.boxes.specs.Seek.{count}
use Rattle.boxes.specs.Kin.{All2, Leaf, Formed, KinBox, Kin}
use Rattle.boxes.specs.Kin.All2.{nil, cons}
use Rattle.boxes.proofs.Reading.{All, Shut, length_cons}
use Rattle.boxes.proofs.Reading.All.{none, some}
use Rattle.boxes.proofs.Reading.Shut.{end, next}
use Rattle.boxes.proofs.Kin.{kin_refl}
use Rattle.mdat.specs.Relocate.{Alike}
use Rattle.edit_offsets.specs.Close.{shut_form, form_after, shut_box}

-- ---- a form

pub shut_head : (f : Form) → head_of (shut_form f) ≡ head_of f
shut_head Plain = refl
shut_head Wide = refl
shut_head Open = refl

shut_open : (f : Form) → shut_form f ≡ Open → ⊥
shut_open Plain e = let z : ◌≡◌ {A = ℕ} 0 1 = cc in omega arith
shut_open Wide e = let z : ◌≡◌ {A = ℕ} 0 1 = cc in omega arith
shut_open Open e = let z : ◌≡◌ {A = ℕ} 0 1 = cc in omega arith

shut_formed : (k c : ℕ) (f : Form) → k ≡ FILE → c ≡ MOOV → Formed k c f (shut_form f)
shut_formed k c Plain e g = inl refl
shut_formed k c Wide e g = inl refl
shut_formed k c Open e g = inr (e, g, refl, refl)

module _ (c : ℕ) (f : Form) where
  pub form_moov : c ≡ MOOV → form_after c f ≡ shut_form f
  unfolding form_after
  form_moov e = sym (eq_yea _ _ _ _ _ e refl)

  pub form_other : (c ≡ MOOV → ⊥) → form_after c f ≡ f
  unfolding form_after
  form_other e = sym (eq_nay _ _ _ _ _ e refl)

  pub form_head : head_of (form_after c f) ≡ head_of f
  form_head = eq_or c MOOV (λ e. ap head_of (form_moov e) ∙ shut_head f) (λ e. ap head_of (form_other e))

  -- what is open then was so, and is no `moov`
  form_open : form_after c f ≡ Open → (f ≡ Open) × (c ≡ MOOV → ⊥)
  form_open e = eq_or c MOOV (λ g. absurd (shut_open f (sym (form_moov g) ∙ e))) (λ g. (sym (form_other g) ∙ e, g))

  form_formed : Formed FILE c f (form_after c f)
  form_formed = eq_or c MOOV (λ e. rw (form_moov e) (shut_formed FILE c f refl e)) (λ e. rw (form_other e) (inl refl))

-- ---- a list of boxes

pub shut_size : (x : Box) → size (shut_box x) ≡ size x
shut_size x = omega (arith, form_head x.code x.form)

pub shut_length : (l : List Box) → length (write (map shut_box l)) ≡ length (write l)
shut_length [] = refl
shut_length (x ∷ l) = omega (arith, length_cons (shut_box x) (map shut_box l), length_cons x l, shut_length l, form_head x.code x.form)

pub shut_total : (l : List Box) → total (map shut_box l) ≡ total l
unfolding total
shut_total [] = refl
shut_total (x ∷ l) = omega (arith, shut_size x, shut_total l)

pub shut_count : (c : ℕ) (l : List Box) → count c (map shut_box l) ≡ count c l
unfolding count
shut_count c [] = refl
shut_count c (x ∷ l) = omega (arith, shut_count c l)

pub shut_each : {P : Box → Type 0} → ((x : Box) → P x → P (shut_box x)) → {l : List Box} → All P l → All P (map shut_box l)
shut_each h none = none
shut_each h (some {x} p a) = some {x = shut_box x} (h x p) (shut_each h a)

pub shut_shut : {r : List ℕ} {l : List Box} → Shut r l → Shut r (map shut_box l)
shut_shut end = end
shut_shut (next {x} {l} o z) = next {x = shut_box x} {l = map shut_box l} (λ e. let w = o (form_open x.code x.form e).0 in (ap (map shut_box) w.0, w.1)) (shut_shut z)

-- no `moov` is open
abbrev pub ShutMoov : Box → Type 0
ShutMoov x = x.form ≡ Open → x.code ≡ MOOV → ⊥

pub moovs_shut : (l : List Box) → All ShutMoov (map shut_box l)
moovs_shut [] = none
moovs_shut (x ∷ l) = some {x = shut_box x} (λ e. (form_open x.code x.form e).1) (moovs_shut l)

pub shut_alike : (l : List Box) → All2 Alike l (map shut_box l)
shut_alike [] = nil
shut_alike (x ∷ l) = cons (record { head = sym (form_head x.code x.form); code = refl; long = refl }) (shut_alike l)

-- bodies are the same
abbrev pub Equal : Leaf
Equal k c b b' = b ≡ b'

pub shut_kin : (d : ℕ) (l : List Box) → All2 (KinBox Equal (λ j us vs. Kin Equal d j us vs) FILE) l (map shut_box l)
shut_kin d [] = nil
shut_kin d (x ∷ l) =
    cons (record {
      form = form_formed x.code x.form;
      code = refl;
      leaf = λ z. refl;
      node = λ z. kin_refl Equal (λ k c b. refl) d (kind_in FILE x.code) x.body;
    }) (shut_kin d l)
