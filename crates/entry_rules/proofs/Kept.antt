-- An entry that meets rule 10 still does with another decoder record that meets its own rule. Assumes nothing.
use Prim.Native.Nat.{ℕ, ◌+◌, ◌≤◌, ◌<◌}
use native.Mathlib.Omega.{arith}
use mathlib.Core.Path.{◌≡◌, refl, sym, ◌∙◌}
use mathlib.Core.Bool.{true, false≢true}
use mathlib.Core.List.{List}
use mathlib.Core.Logic.{⊎_elim}
use lib.ListN.{length}
use Rattle.wire.specs.Tests.{if_eq}
use Rattle.wire.specs.Numbers.{word}
use Rattle.wire.proofs.Tests.{eq_ways}
use Rattle.wire.proofs.Clauses.{eq_is, clause, of_two}
use Rattle.release.specs.declared.Release.{Release}
use Rattle.entry_heads.specs.Kinds.{SamrKind, SawbKind, S263Kind, kind_of, handler_of}
use Rattle.entry_heads.specs.Heads.{head_size}
use Rattle.entry_heads.proofs.Heading.{head_inside, head_alike}
use Rattle.std.specs.Prelude.{Option, Some, None}
use Rattle.entry_rules.specs.declared.entry.Around.{Around}
use Rattle.entry_rules.specs.Decoders.{damr_rule, rated_rule, d263_rule, record_rule}
use Rattle.entry_rules.specs.Entries.{scale_rule, track_rule, around_rule, entry_rule, behind_head}
use Rattle.entry_rules.proofs.Judging.{rule_met, rule_is, inside_record}
use Rattle.entry_rules.proofs.Replacing.{new_length, new_rest, new_size, new_word}

-- ---- the kinds that have a decoder record

pub record Recorded (kind : ℕ) (ys : List ℕ) : Type 0 where
  pub least : SamrKind ≤ kind
  pub most : kind ≤ S263Kind
  pub head : 36 ≤ head_size kind
  pub room : head_size kind ≤ 86
  pub short : length ys ≤ 31

damr_short : (kind : ℕ) (release : Release) (ys : List ℕ) → damr_rule kind release ys ≡ true → length ys ≤ 31
unfolding damr_rule
damr_short kind release ys e = omega (arith, eq_is _ _ (clause 1 _ e))

d263_short : (ys : List ℕ) → d263_rule ys ≡ true → length ys ≤ 31
unfolding d263_rule rated_rule
d263_short ys e = of_two _ _ (clause 1 _ e) (λ w. omega (arith, eq_is _ _ w)) (λ w. omega (arith, eq_is _ _ (clause 0 _ w)))

pub recorded : (kind : ℕ) (release : Release) (ys : List ℕ) → record_rule kind release ys ≡ true → Recorded kind ys
unfolding record_rule head_size handler_of if_eq
recorded kind release ys e =
    ⊎_elim (λ w. told SamrKind (omega arith) (omega arith) (omega arith) (omega arith) w.0 (damr_short kind release ys w.1))
    (λ u.
    ⊎_elim (λ w. told SawbKind (omega arith) (omega arith) (omega arith) (omega arith) w.0 (damr_short kind release ys w.1))
    (λ v. ⊎_elim (λ w. told S263Kind (omega arith) (omega arith) (omega arith) (omega arith) w.0 (d263_short ys w.1)) (λ w. absurd (false≢true w.1)) (eq_ways kind S263Kind _ _ _ v.1))
    (eq_ways kind SawbKind _ _ _ u.1))
    (eq_ways kind SamrKind _ _ _ e)
  where
    told : (n : ℕ) → SamrKind ≤ n → n ≤ S263Kind → 36 ≤ head_size n → head_size n ≤ 86 → kind ≡ n → length ys ≤ 31 → Recorded kind ys
    told n a b c d q l = rw q (record { least = a; most = b; head = c; room = d; short = l })

-- ---- what stands around an entry reads only its data reference and its TimeScale

around_same : (around : Option Around) (kind : ℕ) (xs ys : List ℕ) → word 2 ys 14 ≡ word 2 xs 14 → word 2 ys 32 ≡ word 2 xs 32
    → around_rule around kind ys ≡ around_rule around kind xs
unfolding track_rule scale_rule
around_same (Some track) kind xs ys p q = rw (p, q)
around_same None kind xs ys p q = refl

-- the head of an entry that meets its rule lies inside
pub entry_head : (around : Option Around) (release : Release) (kind : ℕ) (xs : List ℕ) → kind_of (word 4 xs 4) ≡ kind → entry_rule around release xs ≡ true → head_size kind ≤ length xs
unfolding entry_rule
entry_head around release kind xs k e = head_inside kind xs (rule_met kind around release xs (rw k at e)).head

pub entry_kept : (around : Option Around) (release : Release) (kind : ℕ) (xs ys : List ℕ) → kind_of (word 4 xs 4) ≡ kind → entry_rule around release xs ≡ true
    → record_rule kind release ys ≡ true → entry_rule around release (behind_head (head_size kind) xs ys) ≡ true
unfolding entry_rule
entry_kept around release kind xs ys k e r =
    let m = rule_met kind around release xs (rw k at e) in
    let d = recorded kind release ys r in
    let i = entry_head around release kind xs k e in
    let s : head_size kind + length ys < 4294967296 = omega arith in
    let h : 4 ≤ head_size kind = omega arith in
    let w = new_word (head_size kind) xs ys h i s in
    let l = new_length (head_size kind) xs ys h i s in
    rw (w 4 0 (omega arith), k)
    (rule_is kind around release (behind_head (head_size kind) xs ys)
    (record {
      span = new_size (head_size kind) xs ys h i s ∙ sym l;
      head = head_alike kind xs (behind_head (head_size kind) xs ys) (omega arith) w m.head;
      fits = around_same around kind xs (behind_head (head_size kind) xs ys) (w 2 10 (omega arith)) (w 2 28 (omega arith)) ∙ m.fits;
      inside = rw (new_rest (head_size kind) xs ys h i s) (inside_record kind release ys d.least d.most ∙ r);
    }))
