-- `store::items::Records` gives the records that are left. Assumes nothing.
use Rattle.std.proofs.Common.{sym, ap, ◌∙◌, arith, length}
use Rattle.store.specs.Contract.Parts.{record_end}
use Rattle.store.proofs.Walk.{records_none, record_given}
use Rattle.store.proofs.items.RecordsIterator.next.Goals as goal

pub returns-then-self-eq0-clause-steps : goal.returns-then-self-eq0-clause-steps
returns-then-self-eq0-clause-steps c =
    let e = sym c.self.view_is ∙ records_none c.self.inside.rest.now c.if-self-eq0.true in
    (e, e)

pub split_at-requires : goal.split_at-requires
unfolding record_end
split_at-requires c = omega (arith, c.record_end.ensures)

pub returns-clause-steps : goal.returns-clause-steps
returns-clause-steps c =
    record_given c.self.inside.rest.now c.if-self-eq0.false c.split_at.ensures.front c.split_at.ensures.back c.self.view_is c.record_end.ensures

pub returns-clause-goes : goal.returns-clause-goes
returns-clause-goes c =
    let e = record_given c.self.inside.rest.now c.if-self-eq0.false c.split_at.ensures.front c.split_at.ensures.back c.self.view_is c.record_end.ensures in
    record { on = λ _. (tt, tt, omega (arith, ap length e)); keeps = tt; rests = λ _. tt }
