-- A replacement: only one record and chunk offsets differ. Assumes nothing.
use Prim.Native.Nat.{ℕ, ◌<◌}
use native.Mathlib.Omega.{arith}
use mathlib.Core.Path.{sym, ap, ◌∙◌}
use mathlib.Core.List.{List}
use mathlib.Core.Logic.{inl, inr, ⊎_elim}
use lib.ListN.{length}
use Rattle.wire.specs.Numbers.{Bytes}
use Rattle.codes.specs.Codes.{STBL, STSD}
use Rattle.boxes.specs.Containers.{FILE, DEPTH}
use Rattle.boxes.specs.Kin.{Kin}
use Rattle.boxes.specs.Way.{edit_way}
use Rattle.boxes.proofs.Kin.{Then, kin_then, kin_less}
use Rattle.boxes.proofs.Down.{Once, end_of}
use Rattle.edit_offsets.specs.Settle.{settled}
use Rattle.edit_replace.specs.Replace.{record_at}
use Rattle.edit_replace.proofs.Changing.{stsd_way, record_bytes, record_kin}
use Rattle.promise_differs.specs.Differs.{OnlyOffsets, with_record, OnlyRecord}
use Rattle.promise_differs.proofs.Moving.{settled_differs}
use Rattle.movie.specs.Named.{In}

-- one `stsd` has another record, and then chunk offsets follow
only_record : (n keep : ℕ) (new b₀ : List ℕ) (k c : ℕ) (b b'' : List ℕ) → Then (Once STBL STSD b₀ (with_record n keep new b₀)) OnlyOffsets k c b b'' → OnlyRecord n keep new k c b b''
only_record n keep new b₀ k c b b'' r =
    let s = r.2 in
    record {
      offsets = λ o. rw (⊎_elim (λ e. e) (λ q. absurd (omega (arith, q.1, o.1))) r.1) (s.offsets o);
      entry = λ d.
          let p = s.rest (λ o. omega (arith, o.1, d.1)) in
          ⊎_elim (λ e. inl (e ∙ p)) (λ q. inr (sym p ∙ q.3 ∙ ap (with_record n keep new) (sym q.2))) r.1;
      rest = λ o d. ⊎_elim (λ e. e) (λ q. absurd (d (q.0, q.1))) r.1 ∙ s.rest o;
    }

-- of a file xs, whose chunk offsets were those of the file `from`
module _ (from : List ℕ) (t n keep : ℕ) (new xs : List ℕ) (w : Bytes new) (v : Bytes xs) (s : length (record_at (In t n) keep new xs) < 4294967296) where
  abbrev zs : List ℕ
  zs = record_at (In t n) keep new xs

  -- the file and its content with another record
  changed : Kin (Once STBL STSD (end_of (stsd_way t) xs) (with_record n keep new (end_of (stsd_way t) xs))) DEPTH FILE xs zs
  unfolding edit_way
  changed = record_kin t n keep new xs w v s

  -- whose chunk offsets follow
  pub follows : Kin OnlyOffsets DEPTH FILE (record_at (In t n) keep new xs) (settled from (record_at (In t n) keep new xs))
  follows = settled_differs from zs (record_bytes t n keep new xs w v) s

  -- the whole file
  pub record_differs : Kin (OnlyRecord n keep new) DEPTH FILE xs (settled from (record_at (In t n) keep new xs))
  record_differs =
      let b = end_of (stsd_way t) xs in
      let G = Once STBL STSD b (with_record n keep new b) in
      kin_less (Then G OnlyOffsets) (OnlyRecord n keep new) (only_record n keep new b) DEPTH FILE xs _ (kin_then G OnlyOffsets DEPTH FILE xs zs _ changed follows)
