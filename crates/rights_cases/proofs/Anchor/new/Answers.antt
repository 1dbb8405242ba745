use Rattle.rights_cases.proofs.Laws.{of_apex, of_other}
use Rattle.rights_cases.proofs.Anchor.new.Goals as goal

pub returns-then-apex-eq1 : goal.returns-then-apex-eq1
returns-then-apex-eq1 c = of_apex c.args.apex c.args.t.now c.if-apex-eq1.true

pub returns : goal.returns
returns c = of_other c.args.apex c.args.t.now c.if-apex-eq1.false
