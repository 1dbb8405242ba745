-- `syntax::walk::after_if` meets its contract. Assumes nothing.
use Rattle.syntax.specs.Contract.Whole.{after_if}
use Rattle.syntax.proofs.walk.after_if.Goals as goal

pub returns-then-ok : goal.returns-then-ok
unfolding after_if
returns-then-ok c = rw (c.if-ok.true, after_if)

pub returns-else-ok : goal.returns-else-ok
unfolding after_if
returns-else-ok c = rw (c.if-ok.false, after_if)
