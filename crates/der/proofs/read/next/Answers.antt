-- `der::next` meets its contract. Assumes nothing.
use mathlib.Core.Path.{sym}
use Rattle.der.proofs.Runs.{next_valid, next_broken}
use Rattle.der.proofs.read.next.Goals as goal

pub returns-then-e : goal.returns-then-e
returns-then-e c = sym (next_valid _ _ c.if-e.true)

pub returns : goal.returns
returns c = sym (next_broken _ _ c.if-e.false)
