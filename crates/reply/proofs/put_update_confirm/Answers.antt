use Rattle.std.proofs.Common.{◌+◌, ap, length, map, arith}
use Rattle.std.proofs.Math.ListN.{length-map}
use mathlib.Core.List.{flat_map}
use Rattle.reply.specs.Contract.Parts.{status_numbered}
use Rattle.reply.proofs.Answers.{written_as, update_size, update_is}
use Rattle.reply.proofs.put_update_confirm.Goals as goal

pub overflow_mul-m : goal.overflow_mul-m
overflow_mul-m c =
    let a = c.args in record { fits = omega (arith, update_size a.msgref.now (map status_numbered a.codes.now) (length-map a.codes.now status_numbered)) }

pub element_size-requires : goal.element_size-requires
element_size-requires c = let a = c.args in omega (arith, update_size a.msgref.now (map status_numbered a.codes.now) (length-map a.codes.now status_numbered))

pub overflow_add-parts : goal.overflow_add-parts
overflow_add-parts c =
    let a = c.args in
    record {
      fits = omega (arith, c.element_size.ensures.0, update_size a.msgref.now (map status_numbered a.codes.now) (length-map a.codes.now status_numbered));
    }

pub put_parts-requires : goal.put_parts-requires
unfolding flat_map
put_parts-requires c =
    let a = c.args in omega (arith, ap length (update_is a.msgref.now a.codes.now (ap (λ k. length a.msgref.now + k) c.element_size.ensures.0)))

pub returns : goal.returns
unfolding flat_map
returns c =
    let a = c.args in
    written_as a.buf.now (update_is a.msgref.now a.codes.now (ap (λ k. length a.msgref.now + k) c.element_size.ensures.0)) c.put_parts.ensures
