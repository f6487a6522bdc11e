-- What the writers of a replacement cite. Assumes nothing.
use Prim.Native.Nat.{ℕ, ◌+◌, ◌-◌, ◌≤◌, ◌<◌}
use native.Mathlib.Omega.{arith}
use mathlib.Core.Path.{◌≡◌, sym, ap, ◌∙◌}
use mathlib.Core.Bool.{true}
use mathlib.Core.List.{List, ◌++◌}
use lib.ListN.{length, drop}
use Rattle.codes.specs.Codes.{MOOV}
use Rattle.wire.specs.Numbers.{Bytes}
use Rattle.wire.specs.Writing.{Wrote, Put}
use Rattle.wire.proofs.Writing.{pen_front}
use Rattle.wire.proofs.Tests.{eq_any}
use Rattle.boxes.specs.declared.walk.BoxAt.{BoxAt}
use Rattle.boxes.specs.Containers.{LONGEST}
use Rattle.boxes.specs.Walk.{payload}
use Rattle.boxes.specs.Rewrite.{edit_in, in_body}
use Rattle.boxes.specs.Words.{moved, reword_leaf}
use Rattle.movie.specs.Entries.{entries}
use Rattle.entry_heads.specs.Heads.{head_size}
use Rattle.release.specs.declared.Release.{Release}
use Rattle.entry_rules.specs.Decoders.{record_rule}
use Rattle.edit_offsets.specs.Close.{shut_at, closed}
use Rattle.edit_offsets.specs.Settle.{offsets, settled}
use Rattle.edit_offsets.proofs.Settled.{settled_length}
use Rattle.edit_offsets.proofs.InMoov.{settle_file}
use Rattle.edit_replace.specs.Replace.{kind_at, record_at}
use Rattle.edit_replace.specs.declared.place.Place.{Place}
use Rattle.edit_replace.specs.Places.{record_there}
use Rattle.edit_replace.specs.Fitting.{grown, grown_box, Fits}
use Rattle.edit_replace.proofs.Taking.{kind_none, record_short}
use Rattle.edit_replace.proofs.Placing.{record_in}
use Rattle.edit_replace.proofs.Settling.{record_filled, record_settled, only, there_inside, still}
use Rattle.movie.specs.Named.{In}

-- ---- the writing

module _ (xs : List ℕ) (b : BoxAt) (p : Place) (keep : ℕ) (new out : List ℕ) (f : Fits xs b p keep new out) (v : Bytes xs) (w : Bytes new) where
  abbrev text : List ℕ
  text = record_there xs (shut_at b) p keep new

  abbrev zs : List ℕ
  zs = record_at (In f.place.t p.nth) keep new (closed xs)

  text_is : text ≡ zs
  text_is = record_in xs b p f.place keep new v f.meets

  few : length zs < 4294967296
  few = omega (arith, f.most, ap length text_is)

  -- where `moov` then stands
  pub settle_room : {r : ℕ} {mid : List ℕ} → Put text out 0 r mid
      → (b.head ≤ (grown_box b r (length xs)).span) × (b.at + (grown_box b r (length xs)).span ≤ length mid) × (length xs ≤ b.span + r) × (r ≤ LONGEST)
  settle_room s =
      let i = there_inside f.place.t p.nth keep new xs w v f.meets few f.place.moov in
      let e = ap length text_is in
      (omega (arith, i.0, s.next), omega (arith, i.1, s.next, s.same, f.room), omega (arith, i.2, s.next), omega (arith, s.next, f.most))

  -- written, and nothing moved
  pub still_wrote : {r : ℕ} {mid : List ℕ} → Put text out 0 r mid → r ≡ length xs → Wrote (settled xs text) out r mid
  still_wrote s e =
      let q : settled xs zs ≡ zs = still f.place.t p.nth keep new xs w v f.meets few f.place.moov (omega (arith, s.next, ap length text_is)) in
      rw (text_is, q) (rw text_is at (pen_front s (omega (arith, s.next, f.room))))

  -- written and then settled there
  pub settle_wrote : {r : ℕ} {mid after : List ℕ} → Put text out 0 r mid
      → after ≡ in_body mid (grown_box (shut_at b) r (length xs)) (edit_in (reword_leaf offsets (moved (grown b r (length xs)))) 5 MOOV (payload mid (grown_box b r (length xs))))
      → Wrote (settled xs text) out r after
  settle_wrote {r} {mid} {after} s q =
      let e : r ≡ length zs = omega (arith, s.next, ap length text_is) in
      let g = pen_front s (omega (arith, s.next, f.room)) in
      let k = settle_file (moved (grown b (length zs) (length xs))) zs (drop r out) (record_filled f.place.t p.nth keep new xs w v f.meets few f.place.moov)
      (only f.place.t p.nth keep new xs w v f.meets few f.place.moov) (g.is ∙ ap (λ (ys : List ℕ). ys ++ drop r out) text_is) (rw e at q) in
      let o = record_settled f.place.t p.nth keep new xs w v f.meets few f.place.moov in
      rw text_is (record { span = e ∙ sym (settled_length xs zs); is = k ∙ ap (λ (l : List ℕ). l ++ drop r out) o })

-- ---- the entry

-- no record goes into an entry past them all
pub past_none : (xs : List ℕ) (i : ℕ) (release : Release) (new : List ℕ) → length (entries xs) ≤ i - 1 → {kind : ℕ} → kind ≡ kind_at xs i → record_rule kind release new ≡ true → ⊥
past_none xs i release new m {kind} g h = omega (arith, kind_none xs i m, (record_short kind release new h).0)

-- ---- the head

pub head_least : (kind : ℕ) → 8 ≤ head_size kind
unfolding head_size
head_least kind = eq_any (λ n. 8 ≤ n) _ _ _ _ (omega arith) (eq_any (λ n. 8 ≤ n) _ _ _ _ (omega arith) (omega arith))
