use Rattle.std.proofs.Common.{rules}
use Rattle.der.proofs.Leaves.{boolean_size}
use Rattle.der.proofs.check.is_boolean.Goals as goal

pub returns-in_default-3 : goal.returns-in_default-3
returns-in_default-3 c = search (boolean_size, rules)
