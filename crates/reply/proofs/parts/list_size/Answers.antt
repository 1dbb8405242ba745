-- `reply::parts::list_size` meets its contract. Assumes nothing.
use native.Mathlib.Omega.{arith}
use mathlib.Core.Path.{sym, ap, ◌∙◌}
use lib.ListN.{length}
use Rattle.reply.specs.Contract.Parts.{element_size}
use Rattle.reply.proofs.Members.{list-none, list_length}
use Rattle.reply.proofs.parts.list_size.Goals as goal

pub returns-then-n-eq0 : goal.returns-then-n-eq0
returns-then-n-eq0 c = let a = c.args in omega (arith, ap length (list-none a.by a.image.now c.count-n.ensures c.if-n-eq0.true))

pub members_size-requires : goal.members_size-requires
members_size-requires c =
    let a = c.args in
    omega (arith, list_length a.by a.image.now c.count-n.ensures c.if-n-eq0.false c.rows.ensures)

pub element_size-requires : goal.element_size-requires
element_size-requires c =
    let a = c.args in
    omega (arith, c.members_size.ensures, list_length a.by a.image.now c.count-n.ensures c.if-n-eq0.false c.rows.ensures)

pub returns : goal.returns
returns c =
    let a = c.args in
    c.element_size.ensures.0
    ∙ ap element_size c.members_size.ensures
    ∙ sym (list_length a.by a.image.now c.count-n.ensures c.if-n-eq0.false c.rows.ensures)
