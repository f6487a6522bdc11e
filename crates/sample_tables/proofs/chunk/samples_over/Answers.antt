use borrow.Author.Rules.{rules}
use Rattle.sample_tables.proofs.Chunks.{first_none, first_fits}
use Rattle.sample_tables.proofs.RunSums.{start_first, start_past, covers, run_more}
use Rattle.sample_tables.specs.Chunks.{first_sample}
use mathlib.Core.Path.{ap, ◌∙◌}
use native.Mathlib.Omega.{arith}
use Rattle.sample_tables.proofs.chunk.samples_over.Goals as goal

pub loop-i-init : goal.loop-i-init
loop-i-init c = (
  search rules,
  search rules,
  start_first _ _ c.requires.rising
      (λ h. c.requires.some (omega arith)),
  first_none _,
)

pub run_end-end-requires : goal.run_end-end-requires
run_end-end-requires c = let p = c.requires in (p.runs, p.rising, omega arith)

pub overflow_sub-sum : goal.overflow_sub-sum
overflow_sub-sum c = (covers _ _ c.requires.rising _ (omega arith) c.loop-i.invariant.2
    c.run_end-end.ensures).ordered

pub per_chunk-requires : goal.per_chunk-requires
per_chunk-requires c = (c.requires.runs, omega arith)

pub overflow_mul-sum : goal.overflow_mul-sum
overflow_mul-sum c = let v = covers _ _ c.requires.rising _ (omega arith) c.loop-i.invariant.2 c.run_end-end.ensures in
    omega (
      arith,
      v.within,
      run_more v c.per_chunk.ensures.0,
      first_fits c.args.stsc.now
          (λ k. (c.type_inv.stsc k).fits) c.run_end-end.result,
    )

pub overflow_add-sum : goal.overflow_add-sum
overflow_add-sum c = let v = covers _ _ c.requires.rising _ (omega arith) c.loop-i.invariant.2 c.run_end-end.ensures in
    omega (
      arith,
      v.within,
      run_more v c.per_chunk.ensures.0,
      first_fits c.args.stsc.now
          (λ k. (c.type_inv.stsc k).fits) c.run_end-end.result,
    )

pub loop-i-preserved : goal.loop-i-preserved
loop-i-preserved c = let v = covers _ _ c.requires.rising _ (omega arith) c.loop-i.invariant.2 c.run_end-end.ensures in
    (search rules, search rules, c.run_end-end.ensures, omega (arith, run_more v c.per_chunk.ensures.0))

pub returns : goal.returns
returns c = c.loop-i.invariant.3 ∙ ap (first_sample _) (c.loop-i.invariant.2 ∙ start_past _ _ _ (omega arith) ∙ omega arith)
