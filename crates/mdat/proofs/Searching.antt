-- The search for a payload: what the box that decides says of the bytes that are looked for, and what an answer says. Assumes nothing.
use Prim.Native.Nat.{ℕ, ◌+◌, ◌-◌, ◌≤◌}
use native.Mathlib.Omega.{arith}
use mathlib.Core.Path.{◌≡◌, refl, sym, subst, ◌∙◌}
use mathlib.Core.Bool.{Bool, true, false}
use mathlib.Core.List.{List, [], ◌∷◌}
use lib.ListN.{drop}
use Rattle.wire.specs.Tests.{pick}
use Rattle.wire.specs.Clauses.{is_le, every}
use Rattle.wire.proofs.Clauses.{is_eq_lem, not_eq, eq_is, is_le_lem, clause, fails, done, holds as and}
use Rattle.codes.specs.Codes.{MDAT}
use Rattle.boxes.specs.Boxes.{boxes}
use Rattle.boxes.specs.Walk.{box_at, Ran, Over}
use Rattle.boxes.specs.declared.walk.Walk.{Walk}
use Rattle.boxes.specs.declared.walk.BoxAt.{BoxAt}
use Rattle.boxes.proofs.Seeking.{ran_size}
use Rattle.mdat.specs.declared.payload.Payload.{Payload}
use Rattle.std.specs.Result.{is_ok}
use Rattle.std.specs.declared.result.Result.{Result}
use Rattle.std.specs.declared.result.Result.TheVariants.{Ok, Err}
use Rattle.mdat.specs.declared.payload.Missed.{Missed}
use Rattle.mdat.specs.declared.payload.Missed.TheVariants.{Out, Far}
use Rattle.mdat.specs.Rules.{lies}
use Rattle.mdat.specs.Search.{Start, Media, held_by, looked, LookedAs}
use Rattle.mdat.proofs.Inside.{held, lies_here}
use Rattle.mdat.proofs.Starts.{start_front, start_for, start_past, start_lies}

-- ---- the box that decides

module _ {xs : List ℕ} {o at : ℕ} {b : BoxAt} {w : Walk} (s : Start xs o at) (r : Ran xs at b w) where
  start_here : (q n : ℕ) → at ≤ q - 1 → q ≤ b.at + b.span → lies (boxes xs) 0 q n ≡ held b.code (b.at + b.head) (b.at + b.span) q n
  start_here q n k h =
      start_lies xs q at n (start_for s q k)
      ∙ rw r.list (lies_here (box_at xs b) (boxes (drop w.at xs)) at q n (omega (arith, ran_size r, r.start))
      ∙ rw (ran_size r, ← r.start, r.head))

  -- the payload of an `mdat`
  pub start_media : b.code ≡ MDAT → Media xs (record { start = b.at + b.head; end = b.at + b.span })
  start_media c =
      record {
        inside = λ q n h k. start_here q n (omega (arith, r.start, r.eight)) (omega arith)
            ∙ sym (and _ _ (is_eq_lem _ _ c) (and _ _ (is_le_lem _ _ h) (and _ _ (is_le_lem _ _ k) done)));
        next = start_past s r refl (omega arith);
      }

  -- what it says of the bytes that were looked for
  pub start_held : (n : ℕ) (F : Type 0) → o ≤ b.at + b.span → LookedAs xs (lies (boxes xs) 0 o n ≡ true) (lies (boxes xs) 0 o n ≡ false) F (held_by b o n)
  unfolding held_by
  start_held n F h = record { says = go (held b.code (b.at + b.head) (b.at + b.span) o n) refl }
    where
      go : (t : Bool) → held b.code (b.at + b.head) (b.at + b.span) o n ≡ t → looked xs (lies (boxes xs) 0 o n ≡ true) (lies (boxes xs) 0 o n ≡ false) F
          (pick t (Ok (record { start = b.at + b.head; end = b.at + b.span })) (Err Out))
      go true e = (start_here o n s.before h ∙ e, start_media (eq_is _ _ (clause 0 _ e)))
      go false e = start_here o n s.before h ∙ e

-- no box from a start on: they lie in none
pub start_over : {xs : List ℕ} {o at : ℕ} → Start xs o at → Over xs at → (n : ℕ) → lies (boxes xs) 0 o n ≡ false
unfolding lies
start_over {xs} {o} {at} s v n = start_lies xs o at n s ∙ rw v.list

-- ---- the answer of one box

module _ (b : BoxAt) (o n : ℕ) where
  pub held_other : (b.code ≡ MDAT → ⊥) → Err Out ≡ held_by b o n
  unfolding held_by
  held_other e = rw (← fails 0 _ (not_eq b.code MDAT e))

  pub held_within : {t : Bool} → b.code ≡ MDAT → every (is_le (b.at + b.head) o ∷ is_le (o + n) (b.at + b.span) ∷ []) ≡ t
      → pick t (Ok (record { start = b.at + b.head; end = b.at + b.span })) (Err Out) ≡ held_by b o n
  unfolding held_by
  held_within c e = rw (← and _ _ (is_eq_lem b.code MDAT c) (sym e))

-- ---- answers

module _ {xs : List ℕ} {H M F : Type 0} {r : Result Payload Missed} (s : LookedAs xs H M F r) where
  pub looked_in : (p : Payload) → r ≡ Ok p → H × Media xs p
  looked_in p e = subst (looked xs H M F) e s.says

  pub looked_out : r ≡ Err Out → M
  looked_out e = subst (looked xs H M F) e s.says

  pub looked_far : r ≡ Err Far → F
  looked_far e = subst (looked xs H M F) e s.says

  -- a refusal passed on, of what is refused with it
  pub looked_on : {H' M' : Type 0} (m : Missed) → (M → M') → r ≡ Err m → LookedAs xs H' M' F (Err m)
  looked_on Out f e = record { says = f (looked_out e) }
  looked_on Far f e = record { says = looked_far e }

-- given up for another reason
pub looked_for : {xs : List ℕ} {H M F G : Type 0} (r : Result Payload Missed) → (F → G) → LookedAs xs H M F r → LookedAs xs H M G r
looked_for (Ok p) f s = record { says = s.says }
looked_for (Err Out) f s = record { says = s.says }
looked_for (Err Far) f s = record { says = f s.says }

-- what is found is what holds, where it is never given up
pub looked_held : {xs : List ℕ} {t : Bool} {F : Type 0} (r : Result Payload Missed) → (F → ⊥) → LookedAs xs (t ≡ true) (t ≡ false) F r → is_ok r ≡ t
looked_held (Ok p) f s = sym s.says.0
looked_held (Err Out) f s = sym s.says
looked_held (Err Far) f s = absurd (f s.says)

-- nothing lies in no payload
pub media_none : (xs : List ℕ) (p : Payload) → p.start ≡ 1 → p.end ≡ 0 → Media xs p
media_none xs p e f = record { inside = λ q n h k. absurd (omega arith); next = rw f (start_front xs 1) }
