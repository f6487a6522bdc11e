-- The `ftyp`, and then the `mdat` behind it.
use native.Mathlib.Omega.{arith}
use mathlib.Core.Path.{sym, ◌∙◌}
use Rattle.wire.proofs.Lists.{tail_is}
use Rattle.salvage.proofs.Fronts.{other_file, no_header, ftyp_past, ends, starts}
use Rattle.salvage.proofs.payload_at.Goals as goal

pub returns-then-word32-ne-FTYP : goal.returns-then-word32-ne-FTYP
returns-then-word32-ne-FTYP c = (other_file _ (λ e. omega arith), tt)

pub returns-then-size-lt-HEAD : goal.returns-then-size-lt-HEAD
returns-then-size-lt-HEAD c = (no_header _ (omega arith), tt)

pub returns-then-file-size : goal.returns-then-file-size
returns-then-file-size c = (ftyp_past _ (omega arith), tt)

pub returns-then-not-endless : goal.returns-then-not-endless
returns-then-not-endless c =
    let xs = c.args.file.now in
    (ends xs c.word32-size.ensures.0 (tail_is xs c.word32-size.result (omega arith)) (sym c.endless.ensures ∙ c.if-not-endless.true), tt)

pub returns : goal.returns
returns c =
    let xs = c.args.file.now in
    starts xs c.word32-size.ensures.0 (tail_is xs c.word32-size.result (omega arith)) (omega arith) (omega arith) (omega arith)
    (sym c.endless.ensures ∙ c.if-not-endless.false)
