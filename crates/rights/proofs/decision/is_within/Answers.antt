-- `rights::is_within` meets its contract. Assumes nothing.
use borrow.Author.Rules.{rules}
use Rattle.rights.proofs.Engine.{said}
use Rattle.rights.proofs.decision.is_within.Goals as goal

pub returns : goal.returns
returns c = search (said, rules)
