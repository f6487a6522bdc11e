use borrow.Author.Rules.{rules}
use Rattle.mdat.proofs.Eight.{run_few, chunks_none}
use Rattle.mdat.proofs.Searching.{looked_in, looked_on}
use Rattle.mdat.specs.Rules.{chunks_in}
use Rattle.sample_tables.proofs.Chunks.{first_none}
use Rattle.sample_tables.proofs.RunSums.{start_first, start_past, covers, run_more}
use Rattle.std.specs.declared.result.Result.TheVariants.{Err}
use mathlib.Core.Path.{◌≡◌, sym, ap, ◌∙◌}
use native.Mathlib.Omega.{arith}
use Rattle.mdat.proofs.chunks.all_lie.Goals as goal

pub loop-i-init : goal.loop-i-init
loop-i-init c = let w = c.requires.0.walk in
    (search rules, search rules, start_first _ _ w.rising w.some, first_none _, chunks_none _ _ _ _, c.requires.2)

pub run_end-end-requires : goal.run_end-end-requires
run_end-end-requires c = let w = c.requires.0.walk in (w.runs, w.rising, omega arith)

pub run_lies-requires : goal.run_lies-requires
run_lies-requires c = let l = c.loop-i in
    (c.requires.0, covers _ _ c.requires.0.walk.rising _ (omega arith) c.loop-i.invariant.2 (rw c.items-chunks.ensures.0 at c.run_end-end.ensures), l.invariant.3, l.invariant.5, c.requires.1)

pub returns-in_err-last : goal.returns-in_err-last
returns-in_err-last c =
    let f : c.from_residual.result ≡ Err c.in_err-last.field-0.0 = search rules in
    rw f (looked_on c.run_lies.ensures _ (λ e. e) c.in_err-last.was)

pub overflow_sub-first : goal.overflow_sub-first
overflow_sub-first c = (covers _ _ c.requires.0.walk.rising _ (omega arith) c.loop-i.invariant.2 (rw c.items-chunks.ensures.0 at c.run_end-end.ensures)).ordered

pub per_chunk-requires : goal.per_chunk-requires
per_chunk-requires c = let w = c.requires.0.walk in (w.runs, omega arith)

pub overflow_mul-first : goal.overflow_mul-first
overflow_mul-first c = let v = covers _ _ c.requires.0.walk.rising _ (omega arith) c.loop-i.invariant.2 (rw c.items-chunks.ensures.0 at c.run_end-end.ensures) in
    record { fits = omega (arith, run_more v c.per_chunk.ensures.0, run_few c.requires.0 _ v.within) }

pub overflow_add-first : goal.overflow_add-first
overflow_add-first c = let v = covers _ _ c.requires.0.walk.rising _ (omega arith) c.loop-i.invariant.2 (rw c.items-chunks.ensures.0 at c.run_end-end.ensures) in
    record { fits = omega (arith, run_more v c.per_chunk.ensures.0, run_few c.requires.0 _ v.within) }

pub loop-i-preserved : goal.loop-i-preserved
loop-i-preserved c = let l = c.loop-i in let v = covers _ _ c.requires.0.walk.rising _ (omega arith) c.loop-i.invariant.2 (rw c.items-chunks.ensures.0 at c.run_end-end.ensures) in
    let g = looked_in c.run_lies.ensures _ c.in_ok-last.was in (
      search rules,
      search rules,
      rw c.items-chunks.ensures.0 at c.run_end-end.ensures,
      omega (arith, run_more v c.per_chunk.ensures.0),
      g.0 l.invariant.4,
      g.1,
    )

pub returns : goal.returns
returns c = let i = c.loop-i.invariant in record { says = (sym (ap (chunks_in _ _ _ _) (i.2 ∙ start_past _ _ _ (omega arith))) ∙ i.4, i.5) }
