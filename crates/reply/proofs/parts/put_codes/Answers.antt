use Rattle.std.proofs.Common.{get_or, length, ◌≡◌, arith}
use Rattle.octets.proofs.Turns.{left_end, left_fits, left_step}
use Rattle.reply.proofs.Codes.{one_code, codes_from, codes_end}
use Rattle.reply.proofs.parts.put_codes.Goals as goal

pub put_octets-p-requires : goal.put_octets-p-requires
put_octets-p-requires c =
    let a = c.args in
    let l = c.loop-code in
    left_fits a.buf.now a.at _ c.requires l.invariant (one_code (get_or a.codes.now l.code-index 0)) _ (codes_from a.codes.now l.code-index c.loop-code-test.true)

pub loop-code-preserved : goal.loop-code-preserved
loop-code-preserved c =
    let a = c.args in
    let l = c.loop-code in
    left_step a.buf.now a.at _ c.requires l.invariant (one_code (get_or a.codes.now l.code-index 0)) _ (codes_from a.codes.now l.code-index c.loop-code-test.true) c.put_octets-p.ensures

pub returns : goal.returns
returns c =
    let a = c.args in
    let l = c.loop-code in
    let e : l.code-index ≡ length a.codes.now = omega arith in
    left_end a.buf.now a.at _ l.buf l.p (rw (codes_end a.codes.now e) at l.invariant)
