-- `rights::attribute_outside` meets its contract. Assumes nothing.
use borrow.Author.Rules.{rules}
use Rattle.rights.proofs.Engine.{attribute-free, attribute_open, attribute-value, attribute-within}
use Rattle.rights.proofs.decision.Anchors.attribute_outside.Goals as goal

pub returns-in_err-a : goal.returns-in_err-a
returns-in_err-a c = attribute-free _ _ _ _ _ c.constraint_for.ensures c.in_err-a.was c.from_residual.ensures

pub returns-in_default : goal.returns-in_default
returns-in_default c = search (attribute_open, rules)

pub returns-in_err-w : goal.returns-in_err-w
returns-in_err-w c =
    attribute-within _ _ _ _ _ c.constraint_for.ensures c.in_ok-a.was c.constraint_for-2.ensures c.in-Some.is _ c.unlisted_value.ensures c.in_err-w.was
    c.from_residual-in_err-w.ensures

pub returns : goal.returns
returns c = attribute-value _ _ _ _ _ c.constraint_for.ensures c.in_ok-a.was c.constraint_for-2.ensures c.in-Some.is _ c.unlisted_value.ensures c.in_ok-w.was
