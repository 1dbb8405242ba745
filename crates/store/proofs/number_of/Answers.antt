-- `store::number_of` meets its contract. Assumes nothing.
use Rattle.store.proofs.Walk.{number-given, number-absent}
use Rattle.store.proofs.number_of.Goals as goal

pub returns-then-octet_at-eq1 : goal.returns-then-octet_at-eq1
returns-then-octet_at-eq1 c =
    number-given c.args.row.now c.octet_at.ensures.0 c.if-octet_at-eq1.true
    c.get_be.ensures.0

pub returns : goal.returns
returns c = number-absent c.args.row.now c.octet_at.ensures.0 c.if-octet_at-eq1.false
