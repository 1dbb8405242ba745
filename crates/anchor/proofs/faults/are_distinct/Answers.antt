use Rattle.std.proofs.Common.{rules, ◌∙◌}
use Rattle.anchor.proofs.Values.{rise_first, rise_on, rise_all}
use Rattle.anchor.proofs.faults.are_distinct.Goals as goal

pub loop-e-init : goal.loop-e-init
loop-e-init c = rise_first c.args.v.now c.no_element-former.ensures (c.into_iter-e-iterator.ensures.into_iter_gives ∙ c.inside-e-items.ensures)

pub loop-e-preserved : goal.loop-e-preserved
loop-e-preserved c = rise_on c.args.v.now c.loop-e.former c.loop-e.invariant c.in-Some.ensures.steps c.encoding.ensures c.encoding-in-loop-e.ensures c.in_order.ensures c.if-in_order.false

pub returns : goal.returns
returns c = search (rise_all, rules)
