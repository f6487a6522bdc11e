-- 0, and any other number.
use Rattle.wire.proofs.Tests.{eq_yea, eq_nay}
use mathlib.Core.Path.{refl}
use native.Mathlib.Omega.{arith}
use Rattle.frames.specs.Codecs.{codec_named}
use Rattle.frames.proofs.codec.CodecFromU64.from.Goals as goal

pub returns-then-n-eq0 : goal.returns-then-n-eq0
unfolding codec_named
returns-then-n-eq0 c = eq_yea _ _ _ _ _ (omega arith) refl

pub returns : goal.returns
unfolding codec_named
returns c = eq_nay _ _ _ _ _ (omega arith) refl
