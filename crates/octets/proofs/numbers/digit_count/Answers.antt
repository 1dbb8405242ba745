use Rattle.std.proofs.Common.{arith}
use Rattle.std.proofs.lemmas.Nat.{leading_length}
use Rattle.octets.proofs.Number.{digits_of_bits}
use Rattle.octets.proofs.numbers.digit_count.Goals as goal

pub returns : goal.returns
returns c =
    let (m, zeros, high, low) = leading_length 64 c.args.n c.ranges.n.fits in
    omega (arith, c.div_ceil.ensures, zeros, digits_of_bits 8 m c.args.n high low (omega arith))
