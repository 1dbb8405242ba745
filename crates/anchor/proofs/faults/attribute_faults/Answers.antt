-- `anchor::attribute_faults` meets its contract. Assumes nothing.
use Rattle.anchor.proofs.Constraints.{attribute_faults_lem, none_is}
use Rattle.anchor.proofs.faults.attribute_faults.Goals as goal

pub returns : goal.returns
returns c = attribute_faults_lem _ c.args.a c.field-values.ensures c.are_distinct.ensures c.more_than.ensures c.has_long.ensures (none_is c.default.ensures)
