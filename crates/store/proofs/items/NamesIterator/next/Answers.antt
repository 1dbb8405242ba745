-- `store::items::Names` gives the names that are left. Assumes nothing.
use Rattle.std.proofs.Common.{sym, ap, ◌∙◌, arith, length}
use Rattle.store.specs.Contract.Parts.{name_end}
use Rattle.store.proofs.Walk.{names_none, name_given}
use Rattle.store.proofs.items.NamesIterator.next.Goals as goal

pub returns-then-self-eq0-clause-steps : goal.returns-then-self-eq0-clause-steps
returns-then-self-eq0-clause-steps c =
    let e = sym c.self.view_is ∙ names_none c.self.inside.rest.now c.if-self-eq0.true in
    (e, e)

pub split_at-requires : goal.split_at-requires
unfolding name_end
split_at-requires c = omega (arith, c.name_end.ensures)

pub returns-clause-steps : goal.returns-clause-steps
returns-clause-steps c =
    name_given c.self.inside.rest.now c.if-self-eq0.false c.split_at.ensures.front c.split_at.ensures.back c.self.view_is c.name_end.ensures c.after.ensures

pub returns-clause-goes : goal.returns-clause-goes
returns-clause-goes c =
    let e = name_given c.self.inside.rest.now c.if-self-eq0.false c.split_at.ensures.front c.split_at.ensures.back c.self.view_is c.name_end.ensures c.after.ensures in
    record { on = λ _. (tt, tt, omega (arith, ap length e)); keeps = tt; rests = λ _. tt }
