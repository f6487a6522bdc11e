-- Rules 6 and 7 give what rule 8 asks; where they fail it is not asked.
use Rattle.rule_tracks.proofs.Chunks.{ready, eight_open, eight_six, eight_seven}
use Rattle.mdat.proofs.Searching.{media_none}
use borrow.Author.Rules.{rules}
use Rattle.rule_tracks.proofs.eight_holds.Goals as goal

pub returns-then-not-six_holds : goal.returns-then-not-six_holds
returns-then-not-six_holds c = eight_six _ _ (search rules)

pub returns-then-not-seven_holds : goal.returns-then-not-seven_holds
returns-then-not-seven_holds c = eight_seven _ _ (search rules) (search rules)

pub eight-requires : goal.eight-requires
eight-requires c = (
  rw (c.payload.ensures, c.payload-2.ensures, c.payload-3.ensures)
      (ready _ (search rules) (search rules)),
  media_none _ _ c.none.ensures.0 c.none.ensures.1,
)

pub returns : goal.returns
returns c = eight_open _ _ (search rules) (search rules) (rw (c.payload.ensures, c.payload-2.ensures, c.payload-3.ensures) at c.eight.ensures)
