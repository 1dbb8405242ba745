use Rattle.std.proofs.Common.{◌+◌, ◌-◌, refl, arith}
use Rattle.octets.proofs.Turns.{left_fits, left_step, left_end}
use Rattle.reply.proofs.Members.{members_turn, members_end}
use Rattle.reply.proofs.parts.put_members.Goals as goal

pub put_element-to-requires : goal.put_element-to-requires
put_element-to-requires c =
    let a = c.args in
    let l = c.loop in
    left_fits a.buf.now a.at _ c.requires l.invariant _ _
    (members_turn a.by a.rows.now l.p (a.n - l.counter) (a.n - (l.counter + 1)) (omega arith) c.tag-tag.ensures c.member.ensures refl)

pub loop-preserved : goal.loop-preserved
loop-preserved c =
    let a = c.args in
    let l = c.loop in
    left_step a.buf.now a.at _ c.requires l.invariant _ _
    (members_turn a.by a.rows.now l.p (a.n - l.counter) (a.n - (l.counter + 1)) (omega arith) c.tag-tag.ensures c.member.ensures c.member_end-p.ensures)
    c.put_element-to.ensures

pub returns : goal.returns
returns c =
    let a = c.args in
    let l = c.loop in
    left_end a.buf.now a.at _ l.buf l.to (rw (members_end a.by a.rows.now l.p (a.n - l.counter) (omega arith)) at l.invariant)
