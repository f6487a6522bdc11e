use Rattle.rule_tracks.proofs.Answers.{six_is, seven_shut, seven_open}
use borrow.Author.Rules.{rules}
use Rattle.rule_tracks.proofs.seven_holds.Goals as goal

pub returns-then-not-six_holds : goal.returns-then-not-six_holds
returns-then-not-six_holds c = seven_shut _ (search rules)

pub seven-requires : goal.seven-requires
seven-requires c = rw (c.payload.ensures, c.payload-2.ensures, c.payload-3.ensures, c.payload-4.ensures) (six_is _ (search rules))

pub returns : goal.returns
returns c = seven_open _ (search rules) (rw (c.payload.ensures, c.payload-2.ensures, c.payload-3.ensures, c.payload-4.ensures, c.word32.ensures.0, c.payload-5.ensures) at c.seven.ensures)
