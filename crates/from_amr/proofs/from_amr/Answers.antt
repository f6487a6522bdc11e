-- By the magic.
use Rattle.frames.specs.declared.codec.Codec.TheVariants.{Amr, Wideband}
use Rattle.from_amr.proofs.Opening.{opens_so, opens_not, from_first, from_second, from_neither}
use Rattle.from_amr.proofs.from_amr.Goals as goal

pub returns-then-starts_with : goal.returns-then-starts_with
returns-then-starts_with c =
    from_first _ (opens_so Amr c.args.dump.now c.starts_with.ensures.value c.if-starts_with.true) c.dump_of.ensures

pub returns-then-starts_with-2 : goal.returns-then-starts_with-2
returns-then-starts_with-2 c =
    from_second _ (opens_not Amr c.args.dump.now c.starts_with.ensures.value c.if-starts_with.false) (opens_so Wideband c.args.dump.now
    c.starts_with-2.ensures.value c.if-starts_with-2.true) c.dump_of-then-starts_with-2.ensures

pub returns : goal.returns
returns c =
    from_neither _ _ (opens_not Amr c.args.dump.now c.starts_with.ensures.value c.if-starts_with.false) (opens_not Wideband
    c.args.dump.now c.starts_with-2.ensures.value c.if-starts_with-2.false)
