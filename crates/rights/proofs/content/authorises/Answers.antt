-- `rights::authorises` meets its contract. Assumes nothing.
use borrow.Author.Rules.{rules}
use Rattle.rights.specs.Rights.{source, may_act}
use Rattle.rights.proofs.Attributes.{governed}
use Rattle.rights.proofs.content.authorises.Goals as goal

pub returns : goal.returns
unfolding may_act
returns c = governed _ _ _ _ c.governing.ensures source c.is_some_and.ensures (λ e h. search rules)
