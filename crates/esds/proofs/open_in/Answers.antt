-- No entry, or the one of that number.
use native.Mathlib.Omega.{arith}
use mathlib.Core.Path.{refl}
use Rattle.esds.proofs.Reading.{entry_zero, entry_missing, entry_there, entry_opened_lem}
use Rattle.esds.proofs.open_in.Goals as goal

pub returns-then-i-eq0 : goal.returns-then-i-eq0
returns-then-i-eq0 c = entry_zero _ _ c.if-i-eq0.true

pub overflow_add-to : goal.overflow_add-to
overflow_add-to c = let s = entry_there _ _ c.if-i-eq0.false c.entry.ensures _ c.in-Some.is in omega (arith, s.inside)

pub slice_bounds-open_entry-count : goal.slice_bounds-open_entry-count
slice_bounds-open_entry-count c = omega arith

pub slice_bounds-open_entry-start : goal.slice_bounds-open_entry-start
slice_bounds-open_entry-start c = let s = entry_there _ _ c.if-i-eq0.false c.entry.ensures _ c.in-Some.is in omega (arith, s.inside)

pub slice_bounds-open_entry-end : goal.slice_bounds-open_entry-end
slice_bounds-open_entry-end c = let s = entry_there _ _ c.if-i-eq0.false c.entry.ensures _ c.in-Some.is in omega (arith, s.inside)

pub open_entry-requires : goal.open_entry-requires
open_entry-requires c = let s = entry_there _ _ c.if-i-eq0.false c.entry.ensures _ c.in-Some.is in omega (arith, s.inside, c.requires)

pub returns-in-Some : goal.returns-in-Some
returns-in-Some c =
    entry_opened_lem _ _ c.if-i-eq0.false c.entry.ensures _ c.in-Some.is refl c.open_entry.ensures

pub returns-in-None : goal.returns-in-None
returns-in-None c = entry_missing _ _ c.if-i-eq0.false c.entry.ensures c.in-None.is
