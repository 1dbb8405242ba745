use Rattle.std.proofs.Common.{sym, ◌∙◌, arith}
use Rattle.octets.proofs.Turns.{left_end, left_fits}
use Rattle.reply.proofs.Chain.{parts_from, parts_end, appended}
use Rattle.reply.proofs.put_parts.Goals as goal

pub append-requires : goal.append-requires
append-requires c =
    let a = c.args in
    let l = c.loop-part in
    left_fits a.buf.now 0 _ (omega arith) l.invariant.1 _ _ (parts_from a.parts.now l.part-index _ c.loop-part-test.true)

pub loop-part-preserved : goal.loop-part-preserved
loop-part-preserved c =
    let a = c.args in
    let l = c.loop-part in (
      c.append.ensures.same_reference ∙ l.invariant.0,
      appended a.buf.now _ (omega arith) l.invariant.1 _ _ (parts_from a.parts.now l.part-index _ c.loop-part-test.true) c.append.ensures.written,
    )

pub returns : goal.returns
returns c =
    let a = c.args in
    let l = c.loop-part in
    let z = left_end a.buf.now 0 _ l.w.buf.now l.w.at (rw (parts_end a.parts.now l.part-index (omega arith)) at l.invariant.1) in
    (omega (arith, z.0), c.buf-1.given.1.1 (sym l.invariant.0) ∙ z.1)
