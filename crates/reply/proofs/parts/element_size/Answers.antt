-- `reply::parts::element_size` meets its contract. Assumes nothing.
use native.Mathlib.Omega.{arith}
use Rattle.reply.proofs.Elements.{length_octets_lem}
use Rattle.reply.proofs.parts.element_size.Goals as goal

pub overflow_add-result : goal.overflow_add-result
overflow_add-result c = omega (arith, c.header_size.ensures, length_octets_lem c.args.n)

pub returns : goal.returns
returns c = omega (arith, c.header_size.ensures, length_octets_lem c.args.n)
