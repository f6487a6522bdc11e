-- Each codec's entries are those of the definition, by the rule of the tables.
use borrow.Author.Rules.{rules}
use native.Mathlib.Omega.{arith}
use Rattle.frames.specs.declared.codec.Codec.TheVariants.{Amr, Wideband}
use Rattle.frames.proofs.Table.{entry}
use Rattle.frames.proofs.codec.data_bytes.Goals as goal

pub overflow_cast-result : goal.overflow_cast-result
overflow_cast-result c = let e = entry Amr c.args.t (search rules) in record { fits = omega arith }

pub overflow_cast-result-in-Wideband : goal.overflow_cast-result-in-Wideband
overflow_cast-result-in-Wideband c = let e = entry Wideband c.args.t (search rules) in record { fits = omega arith }

pub returns-in-Amr : goal.returns-in-Amr
returns-in-Amr c = let e = entry Amr c.args.t (search rules) in rw c.in-Amr.is (e.is, omega arith)

pub returns-in-Wideband : goal.returns-in-Wideband
returns-in-Wideband c = let e = entry Wideband c.args.t (search rules) in rw c.in-Wideband.is (e.is, omega arith)
