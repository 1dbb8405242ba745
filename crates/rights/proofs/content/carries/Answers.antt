-- `rights::carries` meets its contract. Assumes nothing.
use borrow.Author.Rules.{rules}
use Rattle.rights.specs.Rights.{carrier, may_act}
use Rattle.rights.proofs.Attributes.{governed}
use Rattle.rights.proofs.content.carries.Goals as goal

pub returns : goal.returns
unfolding may_act
returns c = governed _ _ _ _ c.governing.ensures carrier c.is_some_and.ensures (λ e h. search rules)
