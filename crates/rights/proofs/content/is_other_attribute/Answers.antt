-- `rights::is_other_attribute` meets its contract. Assumes nothing.
use borrow.Author.Rules.{rules}
use Rattle.rights.proofs.Attributes.{content_type, other_type}
use Rattle.rights.proofs.content.is_other_attribute.Goals as goal

pub returns-else-not-equal : goal.returns-else-not-equal
returns-else-not-equal c = search (content_type, rules)

pub returns-then-not-equal : goal.returns-then-not-equal
returns-then-not-equal c = search (other_type, rules)
