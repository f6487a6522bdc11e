-- Functions that agree wherever a payload of the file is agree on every chunk offset of it, and of what has the same tables. Assumes nothing.
use Prim.Native.Nat.{ℕ, zero, suc}
use mathlib.Core.Path.{◌≡◌, refl, sym, ap, subst, ◌∙◌}
use mathlib.Core.Bool.{true}
use mathlib.Core.List.{List}
use Rattle.codes.specs.Codes.{STBL, STCO}
use Rattle.wire.proofs.Tests.{eq_yea, eq_nay, eq_or}
use Rattle.boxes.specs.Box.{Box}
use Rattle.boxes.specs.Boxes.{boxes}
use Rattle.boxes.specs.Containers.{kind_in, FILE, DEPTH}
use Rattle.boxes.specs.Kin.{Leaf, Kin}
use Rattle.boxes.proofs.Reading.{All}
use Rattle.boxes.proofs.Every.{all_map, all_four}
use Rattle.mdat.specs.Payloads.{in_at}
use Rattle.rule.specs.Rule.{all_in}
use Rattle.rule.proofs.Opened.{opened, closed}
use Rattle.rule.proofs.Keeping.{keep}
use Rattle.rule_shape.specs.Three.{three_rule}
use Rattle.rule_tracks.specs.Six.{six_rule}
use Rattle.rule_tracks.specs.Seven.{seven_rule}
use Rattle.rule_tracks.specs.Eight.{eight_rule}
use Rattle.rule_tracks.proofs.Chunked.{Chunked}
use Rattle.judge.specs.Acceptance.{Holds, Meets}
use Rattle.judge.proofs.Tables.{file_chunked}
use Rattle.edit_offsets.proofs.Offsets.{agree_on, agree_in, agree}
use Rattle.edit_offsets.proofs.Placed.{all_agree}

-- what a part says of its containers
inside : (l : List Box) (d k : ℕ) (xs : List ℕ) → Chunked l (suc d) k xs → All (λ x. (kind_in k x.code ≡ 0 → ⊥) → Chunked l d (kind_in k x.code) x.body) (boxes xs)
inside l d k xs s =
    all_four (λ x p q r t z. record { three = p z; six = q z; seven = r z; eight = t z })
    (opened three_rule d k xs s.three).inside (opened six_rule d k xs s.six).inside (opened seven_rule d k xs s.seven).inside (opened (eight_rule l) d k xs s.eight).inside

module _ (f g : ℕ → ℕ) where
  leaf_agrees : (k c : ℕ) (b : List ℕ) → (k ≡ STBL → c ≡ STCO → agree_on f g b ≡ true) → agree_in f g k c b ≡ true
  unfolding agree_in
  leaf_agrees k c b h =
      sym (eq_or k STBL
      (λ e. eq_yea _ _ _ _ _ e (eq_or c STCO (λ r. eq_yea _ _ _ _ _ r (sym (h e r))) (λ r. eq_nay _ _ _ _ _ r refl)))
      (λ e. eq_nay _ _ _ _ _ e refl))

  agrees_leaf : (k c : ℕ) (b : List ℕ) → agree_in f g k c b ≡ true → k ≡ STBL → c ≡ STCO → agree_on f g b ≡ true
  unfolding agree_in
  agrees_leaf k c b q e r = eq_yea _ _ _ _ _ e (eq_yea _ _ _ _ _ r refl) ∙ q

  -- the tables of a part
  module _ (l : List Box) (h : (o n : ℕ) → in_at l o n ≡ true → f o ≡ g o) where
    leaves : (d k : ℕ) (xs : List ℕ) → Chunked l (suc d) k xs → All (λ x. kind_in k x.code ≡ 0 → agree_in f g k x.code x.body ≡ true) (boxes xs)
    leaves d k xs s =
        eq_or k STBL
        (λ e. all_map (λ x p z. leaf_agrees k x.code x.body (λ r. p)) (all_agree l d xs (subst (λ (i : ℕ). Chunked l (suc d) i xs) e s) f g h))
        (λ e. all_map (λ x p z. leaf_agrees k x.code x.body (λ r. absurd (e r))) (inside l d k xs s))

    pub chunked_agree : (d k : ℕ) (xs : List ℕ) → Chunked l d k xs → all_in (agree f g) d k xs ≡ true
    unfolding all_in
    chunked_agree zero k xs s = refl
    chunked_agree (suc d) k xs s =
        closed (agree f g) d k xs (record {
          node = refl;
          leaves = leaves d k xs s;
          inside = all_map (λ x p z. chunked_agree d (kind_in k x.code) x.body (p z)) (inside l d k xs s);
          end = refl;
        })

  -- of a file that meets the rules
  pub meets_agree : (xs : List ℕ) → Meets xs → ((o n : ℕ) → in_at (boxes xs) o n ≡ true → f o ≡ g o) → Holds (agree f g) xs
  meets_agree xs m h = chunked_agree (boxes xs) h DEPTH FILE xs (file_chunked xs m)

  -- of what is kin to it by an edit that lets `stco` be
  pub kin_agree : (G : Leaf) → ((b b' : List ℕ) → G STBL STCO b b' → b ≡ b') → (d k : ℕ) (xs zs : List ℕ) → Kin G d k xs zs → all_in (agree f g) d k xs ≡ true → all_in (agree f g) d k zs ≡ true
  kin_agree G same = keep (agree f g) (agree f g) G kept (λ d k xs ys a q. q) (λ xs q. q)
    where
      kept : (k c : ℕ) (b b' : List ℕ) → kind_in k c ≡ 0 → G k c b b' → agree_in f g k c b ≡ true → agree_in f g k c b' ≡ true
      kept k c b b' z r q = leaf_agrees k c b' (λ e s. ap (agree_on f g) (sym (same b b' (rw (e, s) at r))) ∙ agrees_leaf k c b q e s)

  -- of what holds the same boxes in another order, in whatever forms
  pub list_agree : (d k : ℕ) (xs zs : List ℕ) → ((P : ℕ → List ℕ → Type 0) → All (λ x. P x.code x.body) (boxes xs) → All (λ x. P x.code x.body) (boxes zs))
      → all_in (agree f g) (suc d) k xs ≡ true → all_in (agree f g) (suc d) k zs ≡ true
  list_agree d k xs zs h q =
      let o = opened (agree f g) d k xs q in
      closed (agree f g) d k zs (record { node = refl; leaves = h (λ c b. kind_in k c ≡ 0 → agree_in f g k c b ≡ true) o.leaves; inside = h (λ c b. (kind_in k c ≡ 0 → ⊥) → all_in (agree f g) d (kind_in k c) b ≡ true) o.inside; end = refl })
