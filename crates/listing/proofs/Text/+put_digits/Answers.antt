use Prim.Native.Nat.{◌-◌, ◌/◌}
use native.Mathlib.Omega.{arith}
use Rattle.listing.specs.Contract.Texts.{decimal_digits}
use Rattle.listing.proofs.Texts.{part, whole, digits_stop, digits-zero, digits_on, digits-length}
use Rattle.octets.proofs.Turns.{left_start, left_step, last_step, nothing_written}
use Rattle.listing.proofs.Text.+put_digits.Goals as goal

pub returns-then-k-eq0-clause-written : goal.returns-then-k-eq0-clause-written
returns-then-k-eq0-clause-written t c = let a = c.args in whole a.self.now.buf.now a.self.now.at _ c.requires (nothing_written a.self.now.buf.now a.self.now.at (digits_stop a.k a.n c.if-k-eq0.true))

pub returns-then-n-eq0-clause-written : goal.returns-then-n-eq0-clause-written
returns-then-n-eq0-clause-written t c = let a = c.args in whole a.self.now.buf.now a.self.now.at _ c.requires (nothing_written a.self.now.buf.now a.self.now.at (digits-zero a.k a.n c.if-n-eq0.true))

pub put_digits-requires : goal.put_digits-requires
put_digits-requires t c =
    let a = c.args in
    let n = digits-length a.k a.n c.if-k-eq0.false c.if-n-eq0.false in
    (omega arith, omega arith)

pub put_octet-requires : goal.put_octet-requires
put_octet-requires t c =
    let a = c.args in
    let n = digits-length a.k a.n c.if-k-eq0.false c.if-n-eq0.false in
    omega arith

pub returns-clause-written : goal.returns-clause-written
returns-clause-written t c =
    let a = c.args in
    let h = c.requires in
    let all = decimal_digits a.k a.n in
    let e = digits_on a.k a.n c.if-k-eq0.false c.if-n-eq0.false in
    let l = left_step a.self.now.buf.now a.self.now.at all h (left_start _ _ _) (decimal_digits (a.k - 1) (a.n / 10)) _ e (part c.put_digits.ensures.written) in
    whole a.self.now.buf.now a.self.now.at _ h (last_step a.self.now.buf.now a.self.now.at all h l (part c.put_octet.ensures.written))
