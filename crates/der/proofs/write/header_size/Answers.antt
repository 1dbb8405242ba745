-- `der::header_size` meets its contract. Assumes nothing.
use native.Mathlib.Omega.{arith}
use mathlib.Core.Path.{ap}
use lib.ListN.{length}
use Rattle.octets.proofs.Number.{length_digits}
use Rattle.der.proofs.Writes.{short_octets, long_octets}
use Rattle.der.proofs.write.header_size.Goals as goal

pub returns-then-n-lt128 : goal.returns-then-n-lt128
returns-then-n-lt128 c = omega (arith, ap length (short_octets c.args.n c.if-n-lt128.true))

pub overflow_add-result : goal.overflow_add-result
overflow_add-result c = omega (arith, c.digit_count.ensures, length_digits 8 c.args.n)

pub returns : goal.returns
returns c = omega (arith, c.digit_count.ensures, ap length (long_octets c.args.n c.if-n-lt128.false))
