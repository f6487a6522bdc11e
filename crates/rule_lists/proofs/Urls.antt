-- The boxes of a `dref`, counted by one walk while they are plain and `url `s. Assumes nothing.
use Prim.Native.Nat.{ℕ, ◌+◌, ◌≤◌}
use native.Mathlib.Omega.{arith}
use mathlib.Core.Path.{◌≡◌, refl, sym, ap, ◌∙◌}
use mathlib.Core.Bool.{Bool, true, false}
use mathlib.Core.List.{List, [], ◌∷◌}
use lib.ListN.{length, drop}
use Rattle.wire.specs.Tests.{pick}
use Rattle.wire.specs.Numbers.{Bytes}
use Rattle.wire.proofs.Clauses.{fails, holds, done}
use Rattle.boxes.specs.declared.walk.Walk.{Walk}
use Rattle.boxes.specs.declared.walk.BoxAt.{BoxAt}
use Rattle.boxes.specs.declared.walk.Step.{Step}
use Rattle.boxes.specs.declared.walk.Step.TheVariants.{Broken}
use Rattle.boxes.specs.Box.{is_plain}
use Rattle.boxes.specs.Boxes.{FRONT, boxes}
use Rattle.boxes.specs.Walk.{step_at, plainly, payload, Ran, Over}
use Rattle.boxes.specs.Seek.{ANY, count, plain_tiles, Tallied}
use Rattle.boxes.proofs.Meaning.{meant_any}
use Rattle.boxes.proofs.Tallying.{tallied_none, tallied_more, tallied_whole, tallied_stopped}
use Rattle.rule.specs.Rule.{all_list}
use Rattle.rule_lists.specs.Five.{list_form, listed}
use Rattle.rule_lists.specs.Nine.{is_url, urls, all_urls, urls_tiling, url_list}
use Rattle.rule_lists.proofs.Forms.{form_yea, form_nay}

-- ---- by one walk: n boxes stand before place at, all plain and `url `s

pub record Referred (xs : List ℕ) (n at : ℕ) : Type 0 where
  pub tallied : Tallied xs ANY n at
  pub urls : urls xs ≡ urls (drop at xs)

pub referred_none : (xs : List ℕ) → Referred xs 0 0
referred_none xs = record { tallied = tallied_none xs ANY; urls = refl }

module _ {xs : List ℕ} {n at : ℕ} (t : Referred xs n at) where
  module _ {b : BoxAt} {w : Walk} (s : Ran xs at b w) where
    here : urls xs ≡ pick (is_url b.code (payload xs b)) (urls (drop w.at xs)) false
    unfolding all_list
    here = t.urls ∙ ap (all_list (λ x. is_url x.code x.body) true) s.list

    pub referred_more : Bytes xs → is_plain b.form ≡ true → is_url b.code (payload xs b) ≡ true → Referred xs (n + 1) w.at
    referred_more v p e = record { tallied = tallied_more t.tallied s v p (omega (arith, meant_any ANY b.code refl)); urls = here ∙ rw e }

    pub referred_not : is_url b.code (payload xs b) ≡ false → 0 ≡ urls_tiling xs
    referred_not e = let f : urls xs ≡ false = here ∙ rw e in rw f

  pub referred_whole : Over xs at → length xs ≤ at → n ≡ urls_tiling xs
  unfolding all_list
  referred_whole o h = let f : urls xs ≡ true = t.urls ∙ rw o.list in rw f (tallied_whole t.tallied o h)

  pub referred_stopped : (s : Step) (p : ℕ) → s ≡ plainly at (step_at xs at) → s ≡ Broken p → 0 ≡ urls_tiling xs
  referred_stopped s p e f = go (urls xs) (tallied_stopped t.tallied s p e f)
    where
      go : (u : Bool) {m : ℕ} → 0 ≡ m → 0 ≡ pick u m 0
      go true q = q
      go false q = refl

-- ---- what the count says, beside the one that is listed

module _ (b : List ℕ) {n r : ℕ} (k : n ≡ listed b) (some : 1 ≤ n) (e : r ≡ urls_tiling (drop FRONT b)) where
  pub urls_yea : r ≡ n → true ≡ url_list b
  unfolding all_urls
  urls_yea q = go (urls (drop FRONT b)) refl e
    where
      go : (u : Bool) → urls (drop FRONT b) ≡ u → r ≡ pick u (pick (plain_tiles (drop FRONT b)) (count ANY (boxes (drop FRONT b))) 0) 0 → true ≡ url_list b
      go true v f = holds _ _ (sym (form_yea b k some f q)) (holds _ _ v done)
      go false v f = absurd (omega arith)

  pub urls_nay : (r ≡ n → ⊥) → false ≡ url_list b
  unfolding all_urls
  urls_nay q = go (urls (drop FRONT b)) refl e
    where
      go : (u : Bool) → urls (drop FRONT b) ≡ u → r ≡ pick u (pick (plain_tiles (drop FRONT b)) (count ANY (boxes (drop FRONT b))) 0) 0 → false ≡ url_list b
      go true v f = fails 0 _ (sym (form_nay b k some f q))
      go false v f = fails 1 (list_form b ∷ all_urls b ∷ []) v
