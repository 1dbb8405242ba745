use Rattle.rights_cases.proofs.Laws.{as_carrier, as_source}
use Rattle.rights_cases.proofs.Role.new.Goals as goal

pub returns-then-role-eq1 : goal.returns-then-role-eq1
returns-then-role-eq1 c = as_carrier c.args.role c.if-role-eq1.true

pub returns : goal.returns
returns c = as_source c.args.role c.if-role-eq1.false
