use Rattle.std.proofs.Common.{◌+◌, ap, length, arith}
use mathlib.Core.List.{flat_map}
use Rattle.reply.proofs.Answers.{written_as, error_size, error_is}
use Rattle.reply.proofs.put_error.Goals as goal

pub overflow_add-n-2 : goal.overflow_add-n-2
overflow_add-n-2 c = let a = c.args in record { fits = omega (arith, c.element_size.ensures.0, error_size a.msgtype.now a.status a.msgref.now) }

pub put_parts-requires : goal.put_parts-requires
unfolding flat_map
put_parts-requires c =
    let a = c.args in omega (arith, ap length (error_is a.msgtype.now a.status a.msgref.now (ap (λ k. k + 3 + length a.msgref.now) c.element_size.ensures.0)))

pub returns : goal.returns
unfolding flat_map
returns c =
    let a = c.args in
    written_as a.buf.now (error_is a.msgtype.now a.status a.msgref.now (ap (λ k. k + 3 + length a.msgref.now) c.element_size.ensures.0)) c.put_parts.ensures
