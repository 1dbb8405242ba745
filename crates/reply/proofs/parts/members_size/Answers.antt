use Rattle.std.proofs.Common.{◌+◌, ◌-◌, refl, ap, length, arith}
use Rattle.reply.proofs.Members.{members_size, members_end}
use Rattle.reply.proofs.parts.members_size.Goals as goal

pub overflow_add-size : goal.overflow_add-size
overflow_add-size c =
    let a = c.args in
    let l = c.loop in
    let m = members_size a.by a.rows.now l.p (a.n - l.counter) (a.n - (l.counter + 1)) (omega arith) c.member.ensures refl in
    record { fits = omega (arith, c.element_size-size.ensures.0, m) }

pub loop-preserved : goal.loop-preserved
loop-preserved c =
    let a = c.args in
    let l = c.loop in
    let m = members_size a.by a.rows.now l.p (a.n - l.counter) (a.n - (l.counter + 1)) (omega arith) c.member.ensures c.member_end-p.ensures in
    omega (arith, c.element_size-size.ensures.0, m)

pub returns : goal.returns
returns c =
    let a = c.args in
    let l = c.loop in
    omega (arith, ap length (members_end a.by a.rows.now l.p (a.n - l.counter) (omega arith)))
