-- `accept::is_unauthorised` meets its contract. Assumes nothing.
use borrow.Author.Tests.{eq-eqb}
use Rattle.accept.proofs.Rows.{apex_may}
use Rattle.accept.proofs.is_unauthorised.Goals as goal

pub returns-else-w-ne0 : goal.returns-else-w-ne0
returns-else-w-ne0 c = rw (eq-eqb _ _ c.if-w-ne0.false) (apex_may _ _ _ _ c.if-w-ne0.false)
