use Rattle.std.proofs.Common.{◌+◌, ap, refl, length, [], ◌∷◌, arith}
use mathlib.Core.List.{flat_map}
use Rattle.reply.proofs.Answers.{written_as, answer_is}
use Rattle.reply.proofs.put_code_confirm.Goals as goal

pub put_parts-requires : goal.put_parts-requires
unfolding flat_map
put_parts-requires c =
    let a = c.args in omega (arith, ap length (answer_is a.msgref.now a.tag (a.status.number ∷ []) (ap (λ k. length a.msgref.now + k) c.element_size.ensures.0) refl refl))

pub returns : goal.returns
unfolding flat_map
returns c =
    let a = c.args in
    written_as a.buf.now (answer_is a.msgref.now a.tag (a.status.number ∷ []) (ap (λ k. length a.msgref.now + k) c.element_size.ensures.0) refl refl) c.put_parts.ensures
