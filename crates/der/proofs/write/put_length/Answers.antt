-- `der::put_length` meets its contract: the octets written are the shortest length octets. Assumes nothing.
use Prim.Native.Nat.{◌+◌, ◌≤◌}
use native.Mathlib.Omega.{arith}
use mathlib.Core.Path.{◌≡◌, sym, ap, ◌∙◌}
use lib.ListN.{length, set, length-set}
use Rattle.octets.specs.Octets.{placed}
use Rattle.octets.specs.Number.{big_endian, digits}
use Rattle.octets.proofs.Placed.{length-placed, placed_one, placed-cons}
use Rattle.octets.proofs.Number.{length_digits, length-big_endian, digits-big_endian}
use Rattle.der.proofs.Writes.{short_octets, long_octets}
use Rattle.der.specs.Contract.LengthOctets.{Put}
use Rattle.der.proofs.write.put_length.Reads as reads
use Rattle.der.proofs.write.put_length.Goals as goal

pub returns-then-n-lt128 : goal.returns-then-n-lt128
returns-then-n-lt128 c =
    let a = c.args in
    let o = short_octets a.n c.if-n-lt128.true in
    (omega (arith, ap length o), rw o (sym (placed_one a.buf.now a.at a.n (omega (arith, ap length o)))))

pub put_be-requires : goal.put_be-requires
put_be-requires c =
    let o = long_octets c.args.n c.if-n-lt128.false in
    simp length-set (omega (arith, c.digit_count-k.ensures, ap length o))

pub overflow_add-result-2 : goal.overflow_add-result-2
overflow_add-result-2 c =
    let o = long_octets c.args.n c.if-n-lt128.false in
    omega (arith, ap length o)

pub overflow_add-result-3 : goal.overflow_add-result-3
overflow_add-result-3 c =
    let o = long_octets c.args.n c.if-n-lt128.false in
    omega (arith, c.digit_count-k.ensures, ap length o)

pub shape_of-buf : goal.shape_of-buf
shape_of-buf c =
    let a = c.args in
    let k = c.digit_count-k.result in
    let d = set a.buf.now a.at (128 + k) in
    let s = length-set a.buf.now a.at (128 + k) in
    let b = length-big_endian k a.n in
    let o = ap length (long_octets a.n c.if-n-lt128.false) in
    let r : a.at + 1 + length (big_endian k a.n) ≤ length d = omega (arith, c.digit_count-k.ensures) in
    ap length c.put_be.ensures ∙ length-placed d (a.at + 1) (big_endian k a.n) r ∙ s

pub returns : goal.returns
returns c =
    let a = c.args in
    let k = c.digit_count-k.result in
    let e = c.digit_count-k.ensures in
    let o = long_octets a.n c.if-n-lt128.false in
    let b : big_endian k a.n ≡ digits 256 8 a.n = rw e (sym (digits-big_endian 8 a.n)) in (
      omega (arith, e, ap length o),
      c.put_be.ensures
          ∙ ap (placed (set a.buf.now a.at (128 + k)) (a.at + 1)) b
          ∙ placed-cons a.buf.now a.at (128 + k) (digits 256 8 a.n) (omega (arith, ap length o))
          ∙ ap (placed a.buf.now a.at) (rw e (sym o)),
    )

-- the contract, as 02, E5 is stated of it (specs/Contract/LengthOctets: `Put`)
promise : (κs : _) (a : _) (r : _) (e : _) → reads.Post κs a r e → Put a.0.now a.1.0 a.1.1.0 r e.0.now
promise κs a r e p = p

pub overflow_cast-buf : goal.overflow_cast-buf
overflow_cast-buf c = omega arith

pub bounds-buf-at : goal.bounds-buf-at
bounds-buf-at c = omega (arith, ap length (short_octets c.args.n c.if-n-lt128.true))

pub overflow_add-result : goal.overflow_add-result
overflow_add-result c = omega (arith, ap length (short_octets c.args.n c.if-n-lt128.true))

pub overflow_add-buf : goal.overflow_add-buf
overflow_add-buf c = omega (arith, c.digit_count-k.ensures, length_digits 8 c.args.n)

pub overflow_cast-buf-2 : goal.overflow_cast-buf-2
overflow_cast-buf-2 c = omega (arith, c.digit_count-k.ensures, length_digits 8 c.args.n)

pub bounds-buf-at-2 : goal.bounds-buf-at-2
bounds-buf-at-2 c = omega (arith, ap length (long_octets c.args.n c.if-n-lt128.false))

pub overflow_add-at : goal.overflow_add-at
overflow_add-at c = omega (arith, ap length (long_octets c.args.n c.if-n-lt128.false))
