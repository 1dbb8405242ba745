-- `rights::attribute_meets` meets its contract. Assumes nothing.
use borrow.Author.Rules.{rules}
use Rattle.rights.proofs.Attributes.{not_weighed, not_constrained, constrained}
use Rattle.rights.proofs.content.attribute_meets.Goals as goal

pub returns-then-not-is_other_attribute : goal.returns-then-not-is_other_attribute
returns-then-not-is_other_attribute c = search (not_weighed, rules)

pub returns-in_default : goal.returns-in_default
returns-in_default c = search (not_constrained, rules)

pub returns : goal.returns
returns c = search (constrained, rules)
