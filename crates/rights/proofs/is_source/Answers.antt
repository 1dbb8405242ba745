-- `rights::is_source` meets its contract. Assumes nothing.
use borrow.Author.Rules.{rules}
use Rattle.rights.specs.Constraints.{content_type_constraint}
use Rattle.rights.proofs.is_source.Goals as goal

pub returns : goal.returns
unfolding content_type_constraint
returns c = search rules
