-- `der::integer_size` meets its contract. Assumes nothing.
use native.Mathlib.Omega.{arith}
use Prim.Native.Nat.{◌/◌}
use Rattle.octets.proofs.Number.{length_digits}
use Rattle.der.proofs.Integers.{length-integer}
use Rattle.der.proofs.write.integer_size.Goals as goal

pub overflow_add-result : goal.overflow_add-result
overflow_add-result c = omega (arith, c.digit_count.ensures, length_digits 8 (c.args.n / 128))

pub returns : goal.returns
returns c =
    let n = c.args.n in
    (omega (arith, c.digit_count.ensures, length-integer n), omega (arith, c.digit_count.ensures, length_digits 8 (n / 128)))
