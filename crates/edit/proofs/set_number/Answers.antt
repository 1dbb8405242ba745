-- `edit::set_number` meets its contract. Assumes nothing.
use native.Mathlib.Omega.{arith}
use mathlib.Core.Path.{◌∙◌}
use Rattle.octets.specs.Number.{big_endian}
use Rattle.octets.proofs.Number.{length-big_endian}
use Rattle.octets.proofs.Placed.{placed-cons}
use Rattle.store.specs.Image.{encode_number}
use Rattle.edit.proofs.set_number.Goals as goal

pub returns : goal.returns
unfolding encode_number
returns c =
    let a = c.args in
    let b = length-big_endian 8 a.n in
    c.put_be.ensures ∙ placed-cons a.buf.now a.at 1 (big_endian 8 a.n) (omega arith)
