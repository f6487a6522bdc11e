use borrow.Author.Rules.{rules}
use Rattle.mdat.proofs.Eight.{first_after, ready_held, chunks_more, chunks_fail, chunk_is}
use Rattle.mdat.proofs.Searching.{looked_in, looked_on}
use Rattle.std.specs.declared.result.Result.TheVariants.{Err}
use mathlib.Core.Path.{◌≡◌, ◌∙◌}
use native.Mathlib.Omega.{arith}
use Rattle.mdat.proofs.chunks.run_lies.Goals as goal

pub per_chunk-per-requires : goal.per_chunk-per-requires
per_chunk-per-requires c = let p = c.requires in (p.0.walk.runs, p.1.inside)

pub loop-k-init : goal.loop-k-init
loop-k-init c = let p = c.requires in (search rules, p.1.ordered, p.2, λ e. e, p.3)

pub bytes_in-bytes-requires : goal.bytes_in-bytes-requires
bytes_in-bytes-requires c = let p = c.requires in let l = c.loop-k in
    ready_held p.0 p.1 l.k (omega arith) (omega arith) l.invariant.2 c.per_chunk-per.ensures.0

pub offset_at-requires : goal.offset_at-requires
offset_at-requires c = let p = c.requires in (p.0.walk.offsets, omega (arith, p.1.within))

pub find-requires : goal.find-requires
find-requires c = (c.loop-k.invariant.4, c.requires.4)

pub returns-in_err-last : goal.returns-in_err-last
returns-in_err-last c = let p = c.requires in let l = c.loop-k in
    let f : c.from_residual.result ≡ Err c.in_err-last.field-0.0 = search rules in
    rw f (looked_on c.find.ensures _ (λ e. chunks_fail _ _ _ _ _ l.k (omega (arith, p.1.within)) (
    chunk_is p.0 p.1 l.k (omega arith) (omega arith) l.invariant.2 c.per_chunk-per.ensures.0 _ c.bytes_in-bytes.ensures.0
    c.offset_at.ensures.0
    ∙ e)) c.in_err-last.was)

pub overflow_add-first : goal.overflow_add-first
overflow_add-first c = let p = c.requires in let l = c.loop-k in
    let h = ready_held p.0 p.1 l.k (omega arith) (omega arith) l.invariant.2 c.per_chunk-per.ensures.0 in record { fits = omega (arith, h.few) }

pub loop-k-preserved : goal.loop-k-preserved
loop-k-preserved c = let p = c.requires in let l = c.loop-k in let s = c.per_chunk-per.ensures.0 in
    let f = looked_in c.find.ensures _ c.in_ok-last.was in (
      omega arith,
      omega arith,
      first_after p.0 p.1 l.k (omega arith) (omega arith) l.invariant.2 s,
      λ e. chunks_more _ _ _ _ l.k (l.invariant.3 e) (
          chunk_is p.0 p.1 l.k (omega arith) (omega arith) l.invariant.2 s _ c.bytes_in-bytes.ensures.0 c.offset_at.ensures.0 ∙ f.0),
      f.1,
    )

pub returns : goal.returns
returns c = let l = c.loop-k in let q : l.k ≡ c.args.end = omega arith in record { says = (λ e. rw q at (l.invariant.3 e), l.invariant.4) }
