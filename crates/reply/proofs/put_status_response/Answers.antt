use Rattle.std.proofs.Common.{◌+◌, ap, length, arith}
use mathlib.Core.List.{flat_map}
use Rattle.reply.proofs.Answers.{written_as, response_is}
use Rattle.reply.proofs.put_status_response.Goals as goal

pub put_parts-requires : goal.put_parts-requires
unfolding flat_map
put_parts-requires c =
    let a = c.args in
    omega (arith, ap length (response_is a.msgref.now a.image.now c.terse_size-m.ensures.0 (ap (λ k. length a.msgref.now + k) c.element_size.ensures.0)))

pub returns : goal.returns
unfolding flat_map
returns c =
    let a = c.args in
    written_as a.buf.now (response_is a.msgref.now a.image.now c.terse_size-m.ensures.0 (ap (λ k. length a.msgref.now + k) c.element_size.ensures.0)) c.put_parts.ensures
