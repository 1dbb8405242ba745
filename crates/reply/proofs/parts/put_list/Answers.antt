use Rattle.std.proofs.Common.{arith}
use Rattle.octets.proofs.Turns.{nothing_written}
use Rattle.der.specs.Write.{header}
use Rattle.reply.proofs.Elements.{first_fits, second_fits, both-written}
use Rattle.reply.proofs.Members.{list-none, list_length, list-header}
use Rattle.reply.proofs.parts.put_list.Goals as goal

pub returns-then-n-eq0 : goal.returns-then-n-eq0
returns-then-n-eq0 c = let a = c.args in nothing_written a.buf.now a.at (list-none a.by a.image.now c.count-n.ensures c.if-n-eq0.true)

pub members_size-requires : goal.members_size-requires
members_size-requires c =
    let a = c.args in
    omega (arith, list_length a.by a.image.now c.count-n.ensures c.if-n-eq0.false c.rows-rows.ensures)

pub put_header-p-requires : goal.put_header-p-requires
put_header-p-requires c =
    let a = c.args in
    first_fits a.buf.now a.at c.requires (header 0x30 c.members_size.result) _
    (list-header a.by a.image.now c.count-n.ensures c.if-n-eq0.false c.rows-rows.ensures c.members_size.ensures)

pub put_members-requires : goal.put_members-requires
put_members-requires c =
    let a = c.args in
    second_fits a.buf.now a.at c.requires (header 0x30 c.members_size.result) _
    (list-header a.by a.image.now c.count-n.ensures c.if-n-eq0.false c.rows-rows.ensures c.members_size.ensures) c.put_header-p.ensures

pub returns : goal.returns
returns c =
    let a = c.args in
    both-written a.buf.now a.at c.requires (header 0x30 c.members_size.result) _
    (list-header a.by a.image.now c.count-n.ensures c.if-n-eq0.false c.rows-rows.ensures c.members_size.ensures) c.put_header-p.ensures c.put_members.ensures
