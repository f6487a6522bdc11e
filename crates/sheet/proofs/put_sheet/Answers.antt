-- Edition and count, slots, zeros and bodies, one after the other.
use borrow.Author.Rules.{rules}
use native.Mathlib.Omega.{arith}
use Rattle.sheet.proofs.Editions.{edition_suits}
use Rattle.sheet.proofs.Writing.{sheet_put}
use Rattle.sheet.proofs.put_sheet.Goals as goal

pub put_two-a-requires : goal.put_two-a-requires
put_two-a-requires c = (omega arith, (edition_suits _ c.of_count-e.ensures).number, omega (arith, c.requires.0.few))

pub overflow_sub-e : goal.overflow_sub-e
overflow_sub-e c = search (rules, (edition_suits _ c.of_count-e.ensures).few (omega (arith, c.requires.0.few)))

pub put_unused-c-requires : goal.put_unused-c-requires
put_unused-c-requires c = search (rules, (edition_suits _ c.of_count-e.ensures).most)

pub returns : goal.returns
returns c = sheet_put _ c.requires.2 c.of_count-e.ensures c.put_two-a.ensures.0 c.put_slots-b.ensures.0
    c.put_unused-c.ensures.0 c.put_bodies.ensures
