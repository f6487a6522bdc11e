-- By the size field: a size, 0, or 1, where eight bytes more are there or not.
use native.Mathlib.Omega.{arith}
use mathlib.Core.Path.{sym}
use Rattle.wire.proofs.Numbers.{word_out}
use Rattle.boxes.proofs.Walking.{said_plain, said_wide, said_open}
use Rattle.boxes.proofs.walk.said.Goals as goal

pub returns-then-field-gt1 : goal.returns-then-field-gt1
returns-then-field-gt1 c = said_plain _ _ c.word32_in-field.ensures.0 (omega arith)

pub returns-then-field-eq0 : goal.returns-then-field-eq0
returns-then-field-eq0 c = said_open _ _ c.word32_in-field.ensures.0 (omega arith)

pub returns-then-left-lt-WIDE_HEAD : goal.returns-then-left-lt-WIDE_HEAD
returns-then-left-lt-WIDE_HEAD c = said_wide _ _ c.word32_in-field.ensures.0 (omega arith) (sym (word_out 8 _ _ (omega arith)))

pub returns : goal.returns
returns c = said_wide _ _ c.word32_in-field.ensures.0 (omega arith) c.word64_in.ensures
