use Rattle.std.proofs.Common.{◌∙◌}
use Rattle.octets.proofs.Compare.{ordered_by_cmp}
use Rattle.octets.proofs.strings.in_order.Goals as goal

pub returns : goal.returns
returns c = c.is_le.ensures ∙ ordered_by_cmp c.args.a.now c.args.b.now c.cmp.result c.cmp.ensures
