use Prim.Native.Nat.{◌/◌}
use native.Mathlib.Omega.{arith}
use Rattle.decimal.proofs.Digits.{put_digit, put_digits, put_two, decimal_20}
use Rattle.decimal.proofs.+put_decimal.Goals as goal

pub returns-then-n-lt10 : goal.returns-then-n-lt10
returns-then-n-lt10 t c = put_digit _ (omega arith) c.put_byte.ensures

pub returns-then-n-lt100 : goal.returns-then-n-lt100
returns-then-n-lt100 t c = put_digits _ (omega arith) (put_digit _ (omega arith) c.put_byte-m.ensures) c.put_byte-then-n-lt100.ensures

pub put_byte-k-requires : goal.put_byte-k-requires
put_byte-k-requires t c = omega (arith, decimal_20 (c.args.n / 100) (omega arith))

pub put_byte-requires-2 : goal.put_byte-requires-2
put_byte-requires-2 t c = omega (arith, decimal_20 (c.args.n / 100) (omega arith))

pub returns : goal.returns
returns t c = put_two _ (omega arith) c.put_decimal-m.ensures c.put_byte-k.ensures c.put_byte-2.ensures
