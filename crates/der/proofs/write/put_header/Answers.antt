-- `der::put_header` meets its contract. Assumes nothing.
use Prim.Native.Nat.{◌+◌, ◌≤◌}
use native.Mathlib.Omega.{arith}
use mathlib.Core.Path.{ap, ◌∙◌}
use lib.ListN.{length, set, length-set}
use Rattle.octets.proofs.Placed.{length-placed, placed-cons}
use Rattle.der.specs.Write.{length_octets}
use Rattle.der.proofs.write.put_header.Goals as goal

pub shape_of-buf : goal.shape_of-buf
shape_of-buf c =
    let a = c.args in
    let d = set a.buf.now a.at a.tag in
    let s = length-set a.buf.now a.at a.tag in
    let r : a.at + 1 + length (length_octets a.n) ≤ length d = omega arith in
    ap length c.put_length.ensures.1 ∙ length-placed d (a.at + 1) (length_octets a.n) r ∙ s

pub returns : goal.returns
returns c =
    let a = c.args in (
      omega (arith, c.put_length.ensures.0),
      c.put_length.ensures.1 ∙ placed-cons a.buf.now a.at a.tag (length_octets a.n) (omega arith),
    )

pub put_length-requires : goal.put_length-requires
put_length-requires c = simp length-set (omega arith)
