-- `der::put_integer` meets its contract. Assumes nothing.
use native.Mathlib.Omega.{arith}
use mathlib.Core.Path.{ap, ◌∙◌}
use Rattle.octets.specs.Octets.{placed}
use Rattle.der.specs.Write.{header, integer_contents}
use Rattle.der.proofs.Writes.{element_is, first_fits, second_fits, both-written}
use Rattle.der.proofs.Integers.{integer_is}
use Rattle.der.proofs.write.put_integer.Goals as goal

pub put_header-p-requires : goal.put_header-p-requires
put_header-p-requires c =
    let k = c.integer_size-k in
    first_fits c.args.buf.now c.args.at c.requires (header 0x02 k.result) (integer_contents c.args.n) (element_is 0x02 (integer_contents c.args.n) k.ensures.0)

pub put_be-requires : goal.put_be-requires
put_be-requires c =
    let k = c.integer_size-k in
    omega (
      arith,
      k.ensures.0,
      second_fits c.args.buf.now c.args.at c.requires (header 0x02 k.result) (integer_contents c.args.n) (element_is 0x02 (integer_contents c.args.n) k.ensures.0)
          c.put_header-p.ensures,
    )

pub overflow_add-result : goal.overflow_add-result
overflow_add-result c =
    let k = c.integer_size-k in
    omega (
      arith,
      k.ensures.0,
      second_fits c.args.buf.now c.args.at c.requires (header 0x02 k.result) (integer_contents c.args.n) (element_is 0x02 (integer_contents c.args.n) k.ensures.0)
          c.put_header-p.ensures,
    )

pub returns : goal.returns
returns c =
    let k = c.integer_size-k in
    let h = c.put_header-p in
    both-written c.args.buf.now c.args.at c.requires (header 0x02 k.result) (integer_contents c.args.n) (element_is 0x02 (integer_contents c.args.n) k.ensures.0) h.ensures
    (omega (arith, k.ensures.0), c.put_be.ensures ∙ ap (placed _ h.result) (integer_is _ k.ensures.0))
