-- A record of the same length leaves every offset; another moves those past `moov` by as much as the file grows.
use Rattle.edit_replace.proofs.Shutting.{cut_inside, shut_inside}
use Rattle.edit_replace.proofs.Written.{settle_room, still_wrote, settle_wrote}
use native.Mathlib.Omega.{arith}
use Rattle.edit_replace.proofs.write.replaced.Goals as goal

pub put_record-span-requires : goal.put_record-span-requires
put_record-span-requires c = let s = c.requires in rw c.shut-b.ensures (shut_inside (cut_inside s.place.moov), cut_inside s.place.place.trak, s.meets.most, s.short)

pub returns-then-span-file : goal.returns-then-span-file
returns-then-span-file c = still_wrote _ _ _ _ _ _ c.requires (λ i. (c.type_inv.file i).fits) (λ i. (c.type_inv.new i).fits) (rw c.shut-b.ensures at c.put_record-span.ensures) (omega arith)

pub overflow_add-by : goal.overflow_add-by
overflow_add-by c = let s = c.requires in rw c.shut-b.ensures (omega (arith, s.place.moov.inside, s.meets.most))

pub overflow_add-moov : goal.overflow_add-moov
overflow_add-moov c = let s = c.requires in let h = settle_room _ _ _ _ _ _ c.requires (λ i. (c.type_inv.file i).fits) (λ i. (c.type_inv.new i).fits) (rw c.shut-b.ensures at c.put_record-span.ensures) in rw c.shut-b.ensures (omega (arith, h.3, s.place.moov.inside, s.meets.most))

pub overflow_sub-moov : goal.overflow_sub-moov
overflow_sub-moov c = let h = settle_room _ _ _ _ _ _ c.requires (λ i. (c.type_inv.file i).fits) (λ i. (c.type_inv.new i).fits) (rw c.shut-b.ensures at c.put_record-span.ensures) in rw c.shut-b.ensures h.2

pub settle-requires : goal.settle-requires
settle-requires c = let h = settle_room _ _ _ _ _ _ c.requires (λ i. (c.type_inv.file i).fits) (λ i. (c.type_inv.new i).fits) (rw c.shut-b.ensures at c.put_record-span.ensures) in rw c.shut-b.ensures (h.0, h.1, record { low = omega arith; high = omega (arith, h.3) })

pub returns : goal.returns
returns c = settle_wrote _ _ _ _ _ _ c.requires (λ i. (c.type_inv.file i).fits) (λ i. (c.type_inv.new i).fits) (rw c.shut-b.ensures at c.put_record-span.ensures) (rw c.shut-b.ensures at c.settle.ensures)
