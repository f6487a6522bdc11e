-- A file of which `moov` alone changed: where that then stands, and what moved. Assumes nothing.
use Prim.Native.Nat.{ℕ, ◌+◌, ◌≤◌}
use native.Mathlib.Omega.{arith}
use mathlib.Core.Path.{◌≡◌, refl, sym, ap, ◌∙◌}
use mathlib.Core.Bool.{true}
use mathlib.Core.List.{List, [], ◌∷◌, ◌++◌}
use lib.ListN.{length, length-append}
use Rattle.wire.specs.Tests.{if_lt}
use Rattle.wire.specs.Numbers.{Bytes}
use Rattle.codes.specs.Codes.{MOOV}
use Rattle.boxes.specs.declared.walk.BoxAt.{BoxAt}
use Rattle.boxes.specs.declared.words.By.{By}
use Rattle.boxes.specs.Box.{Box, head, size, write, remade}
use Rattle.boxes.specs.Boxes.{boxes, after}
use Rattle.boxes.specs.Walk.{box_at}
use Rattle.boxes.specs.Seek.{Cut}
use Rattle.boxes.specs.Words.{moved}
use Rattle.boxes.specs.Kin.{All2}
use Rattle.boxes.specs.Kin.All2.{cons}
use Rattle.boxes.proofs.Cutting.{cut_size}
use Rattle.boxes.proofs.Reading.{write_append, length_cons, lengths}
use Rattle.boxes.proofs.Placing.{total_before}
use Rattle.boxes.proofs.InMoov.{OneMoov}
use Rattle.mdat.specs.Payloads.{in_at}
use Rattle.mdat.specs.Relocate.{relocate, Alike}
use Rattle.mdat.proofs.Staying.{alike_refl}
use Rattle.mdat.proofs.Amounts.{moved_change}
use Rattle.judge.specs.Acceptance.{Meets}
use Rattle.edit_offsets.specs.Close.{shut_at}
use Rattle.edit_offsets.proofs.Closing.{shut_head}
use Rattle.edit_replace.specs.Fitting.{grown, grown_box}
use Rattle.edit_replace.proofs.Shutting.{code_is, none_behind}

-- numbers that move what is past a limit by the same amount
moved_same : (a b : By) → a.limit ≡ b.limit → a.low ≡ b.low → a.high + b.less ≡ b.high + a.less → (o : ℕ) → moved a o ≡ moved b o
unfolding moved
moved_same a b e f g o = rw (e, f) (ap (λ (m : ℕ). if_lt o b.limit (o + b.low) m) (omega arith))

-- two lists that are alike but for one box, which is alike
alike_among : (p : List Box) (x y : Box) (q : List Box) → Alike x y → All2 Alike (p ++ x ∷ q) (p ++ y ∷ q)
alike_among [] x y q r = cons r (alike_refl q)
alike_among (z ∷ p) x y q r = cons (record { head = refl; code = refl; long = refl }) (alike_among p x y q r)

-- the `moov` b of xs was closed and has the body ys in zs
module _ (xs zs ys : List ℕ) (v : Bytes xs) (m : Meets xs) {b : BoxAt} (c : Cut xs MOOV 0 b) where
  abbrev old : Box
  old = box_at xs b

  abbrev pub made : Box
  made = remade (box_at xs (shut_at b)) ys

  module _ (list : boxes zs ≡ c.p ++ made ∷ c.q) (end : after zs ≡ after xs) where
    around : (x : Box) → length (write (c.p ++ x ∷ c.q)) ≡ length (write c.p) + (head x + (length x.body + length (write c.q)))
    around x = rw (write_append c.p (x ∷ c.q), length-append, length_cons)

    -- the file grows by as much as `moov`
    grows : length zs + size old ≡ size made + length xs
    grows =
        let a = ap (λ (l : List Box). length (write l)) list ∙ around made in
        let o = ap (λ (l : List Box). length (write l)) c.list ∙ around old in
        omega (arith, lengths zs, lengths xs, ap length end, a, o)

    -- what is past it moves by as much
    pub moov_moves : (o k : ℕ) → in_at (boxes xs) o k ≡ true → moved (grown b (length zs) (length xs)) o ≡ relocate (boxes xs) (boxes zs) o
    moov_moves o k h =
        let by : By = record { limit = b.at + b.span; low = 0; high = size made; less = size old } in
        let z = code_is xs v m c in
        moved_same (grown b (length zs) (length xs)) by refl refl grows o
        ∙ rw (list, c.list)
        (moved_change c.p c.q old made (λ e. omega (arith, z)) (λ e. omega (arith, z)) (omega (arith, c.eight, c.head)) by
        (record { limit = omega (arith, cut_size v c, total_before v c); low = refl; high = refl; less = refl }) o k (rw c.list at h))

    -- where it grew by nothing
    pub moov_alike : length zs ≡ length xs → All2 Alike (boxes xs) (boxes zs)
    moov_alike e = rw (list, c.list) (alike_among c.p old made c.q (record { head = sym (shut_head b.form); code = refl; long = omega (arith, grows, e, shut_head b.form) }))

    -- where it then stands
    abbrev there : BoxAt
    there = grown_box (shut_at b) (length zs) (length xs)

    there_span : there.span ≡ size made
    there_span = omega (arith, grows, cut_size v c)

    pub moov_stands : OneMoov zs there
    moov_stands =
        record {
          p = c.p;
          x = made;
          q = c.q;
          list = list;
          code = code_is xs v m c;
          before = c.nth;
          behind = none_behind xs v m c;
          at = sym (total_before v c);
          head = c.head ∙ sym (shut_head b.form);
          span = there_span;
        }

    pub moov_inside : (there.head ≤ there.span) × (there.at + there.span ≤ length zs) × (length xs ≤ b.span + length zs)
    moov_inside = (omega (arith, there_span, c.head, shut_head b.form), omega (arith, grows, there_span, cut_size v c, c.inside), omega (arith, grows, cut_size v c))
