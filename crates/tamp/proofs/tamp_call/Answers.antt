-- The house refusals as they are tested; then what acceptance decided, and what the response left.
use Rattle.std.proofs.Common.{arith}
use Rattle.tamp.proofs.Chain.{admits, call_refused, call-answer}
use Rattle.tamp.proofs.Signers.{known, answered_by}
use Rattle.tamp.proofs.tamp_call.Goals as goal

pub returns-in-Err : goal.returns-in-Err
returns-in-Err c = call_refused _ _ _ _ _ c.admit.ensures c.in-Err.is c.refusal.ensures

pub respond-requires : goal.respond-requires
respond-requires c =
    let a = c.args in
    let g = admits _ _ _ _ _ c.admit.ensures c.in_default.is in (
      g.0,
      g.1,
      known a.message.now a.image.now a.verdict.now (λ i. omega (arith, c.type_inv.message i)) (λ i. omega (arith, c.type_inv.image i)) c.judge-j.ensures g.0 g.1,
    )

pub returns : goal.returns
returns c =
    let a = c.args in
    call-answer _ _ _ _ _ c.admit.ensures c.in_default.is
    (answered_by a.message.now a.image.now a.verdict.now c.judge-j.ensures a.reply.now a.next.now c.respond.ensures)
