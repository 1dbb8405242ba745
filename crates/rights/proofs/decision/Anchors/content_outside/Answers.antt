-- `rights::content_outside` meets its contract. Assumes nothing.
use borrow.Author.Rules.{rules}
use Rattle.rights.proofs.Engine.{by_nobody, by_new, by_signer_lem, by_none}
use Rattle.rights.proofs.decision.Anchors.content_outside.Goals as goal

pub returns-in-Some : goal.returns-in-Some
returns-in-Some c = search (by_nobody, rules)

pub returns-in-Some-among : goal.returns-in-Some-among
returns-in-Some-among c = search (by_new, rules)

pub returns-in-Some-among-2 : goal.returns-in-Some-among-2
returns-in-Some-among-2 c = search (by_signer_lem, rules)

pub returns : goal.returns
returns c = search (by_none, rules)
